use Rattle.std.proofs.Common.{◌≡◌, map}
use Rattle.lists.specs.Tables.{stepped}
use Rattle.trace.specs.Trace.{trace_step}
use Rattle.trace.proofs.trace_records.Given as goal

abbrev pub invariant-loop-i : goal.invariant-loop-i
invariant-loop-i g l =
    (l.sources, l.flags)
    ≡ stepped (trace_step g.F.Mark.unmarked g.F.Mark.marked g.F.Mark.is_marked l.records.journal.now (map g.E.Code.code l.ends)) l.i
    (l.initial.sources, l.initial.flags)
