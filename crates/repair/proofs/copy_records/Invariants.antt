use Rattle.std.proofs.Common.{◌≡◌, length, map}
use Rattle.lists.specs.Tables.{stepped}
use Rattle.repair.specs.Copying.{copy_step}
use Rattle.repair.proofs.copy_records.Given as goal

abbrev pub invariant-loop-i : goal.invariant-loop-i
invariant-loop-i g l =
    (l.out ≡ stepped (copy_step l.records.journal.now (map g.F.Code.code l.fates) l.ranks) l.i l.initial.out) × (length l.out ≡ length l.initial.out)
