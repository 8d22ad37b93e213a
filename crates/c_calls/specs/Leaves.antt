-- Answers and loans of start, slip and counting, read back from what C got.
-- Document 01, "The calls beside it". Assumes nothing.
use Rattle.std.specs.Prelude.{List, ℕ}
use Rattle.journal.specs.Refusals.{RecordCounts}
use Rattle.journal.specs.Calls.{Answer, StartResult, ChainResult}
use Rattle.c_answers.specs.Results.{answer_in, record_counts_in}

abbrev pub started_in : ℕ → ℕ → List ℕ → StartResult
started_in result answer journal = record { answer = answer_in (λ v. tt) result answer; journal = journal }

abbrev pub walked_in : ℕ → ℕ → List ℕ → ChainResult
walked_in result answer lsns = record { answer = answer_in (λ n. n) result answer; lsns = lsns }

abbrev pub counted_in : ℕ → ℕ → List ℕ → Answer RecordCounts
counted_in result answer counts = answer_in (λ v. record_counts_in counts) result answer
