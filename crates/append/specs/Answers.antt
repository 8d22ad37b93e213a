-- What append leaves.
-- Assumes nothing.
use Rattle.std.specs.Prelude.{◌≡◌, List, ℕ, Result}
use Rattle.model.specs.History.{Amount}
use Rattle.journal.specs.Inputs.{Inputs}
use Rattle.journal.specs.declared.Reason.{Reason}
use Rattle.journal.specs.Outcomes.{answer_of}
use Rattle.journal.specs.Calls.{append}
use Rattle.counts.specs.declared.Counts.{Counts}
use Rattle.counts.specs.Answers.{record_counts_of}

-- the answer, the counts, the journal and the table that append leaves
pub record Appends (c : Counts) (d : Inputs) (kind s x : ℕ) (a : Amount) (r : Result (Unit {0}) Reason) (c' : Counts) (b' : List ℕ)
    (t' : List Amount) : Type 0 where
  pub answer : answer_of (λ u. u) r ≡ (append d (record_counts_of c) kind s x a).answer
  pub counts : record_counts_of c' ≡ (append d (record_counts_of c) kind s x a).counts
  pub journal : b' ≡ (append d (record_counts_of c) kind s x a).journal
  pub table : t' ≡ (append d (record_counts_of c) kind s x a).table
