-- The writes are undone from the last record to the first: those of the first k remain.
use Rattle.std.proofs.Common.{◌≡◌, ◌+◌}
use Rattle.model.specs.History.{abort}
use Rattle.journal.specs.Journal.{history}
use Rattle.journal.specs.Calls.{applied_table}
use Rattle.extend.proofs.restore.Given as goal

abbrev pub invariant-loop-k : goal.invariant-loop-k
invariant-loop-k l =
    applied_table (history l.journal l.k) (abort (l.n + 1) l.s.0) l.table ≡ applied_table (history l.journal l.n) (abort (l.n + 1) l.s.0) l.initial.table
