-- What post leaves behind the C interface, and the same read back from what C got.
-- Document 01, "The calls beside it". Assumes nothing.
use Rattle.std.specs.Prelude.{◌≡◌, List, ℕ}
use Rattle.model.specs.History.{Amount}
use Rattle.journal.specs.Calls.{AppendResult}
use Rattle.c_answers.specs.Results.{result_of, answer_with, loan_with, answer_in, record_counts_in, count_list}

-- what append returns, answers and leaves; the counts were l
pub record AppendLeaves (a : AppendResult) (l : List ℕ) (result' answer' : ℕ) (journal' : List ℕ) (table' : List Amount)
    (counts' : List ℕ) : Type 0 where
  pub result : result' ≡ result_of a.answer
  pub answer : answer' ≡ answer_with (λ u. 0) a.answer
  pub journal : journal' ≡ a.journal
  pub table : table' ≡ a.table
  pub counts : counts' ≡ loan_with (λ u. count_list a.counts) l a.answer

-- answer and loans read back
abbrev pub appended_in : ℕ → ℕ → List ℕ → List Amount → List ℕ → AppendResult
appended_in result answer journal table counts =
    record { answer = answer_in (λ v. tt) result answer; journal = journal; table = table; counts = record_counts_in counts }
