use Rattle.std.proofs.Common.{◌≡◌, map}
use Rattle.lists.specs.Tables.{stepped}
use Rattle.replay.specs.Replaying.{replay_step}
use Rattle.replay.proofs.replay_records.Given as goal

abbrev pub invariant-loop-i : goal.invariant-loop-i
invariant-loop-i g l =
    let m = g.S.Mark in
    (l.seen, l.table) ≡ stepped (replay_step m.unmarked m.marked m.is_unmarked l.records.journal.now (map g.F.Code.code l.fates)) l.i (l.initial.seen, l.initial.table)
