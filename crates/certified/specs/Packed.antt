-- Answer and loans at exit, as one value of the kind that the definition of the call has.
-- Assumes nothing.
use Rattle.std.specs.Prelude.{List, ℕ, Result}
use Rattle.model.specs.History.{Amount}
use Rattle.journal.specs.declared.Reason.{Reason}
use Rattle.journal.specs.Outcomes.{answer_of}
use Rattle.journal.specs.Calls as calls
use Rattle.counts.specs.declared.Counts.{Counts}
use Rattle.counts.specs.Answers.{record_counts_of}
use Rattle.deliver.specs.declared.UndoTotals.{UndoTotals}
use Rattle.deliver.specs.Answers.{totals_of}

abbrev pub started_of : Result (Unit {0}) Reason → List ℕ → calls.StartResult
started_of r journal = record { answer = answer_of (λ u. u) r; journal = journal }

abbrev pub appended_of : Result (Unit {0}) Reason → Counts → List ℕ → List Amount → calls.AppendResult
appended_of r counts journal table =
    record { answer = answer_of (λ u. u) r; journal = journal; table = table; counts = record_counts_of counts }

abbrev pub walked_of : Result ℕ Reason → List ℕ → calls.ChainResult
walked_of r lsns = record { answer = answer_of (λ n. n) r; lsns = lsns }

abbrev pub undone_of : Result UndoTotals Reason → List Amount → List ℕ → List ℕ → calls.UndoResult
undone_of r table status out = record { answer = answer_of totals_of r; table = table; status = status; out = out }
