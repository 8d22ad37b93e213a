-- What take-back leaves behind the C interface, with the three counts lent one by one.
-- Document 01, "The rules of taking back". Assumes nothing.
use Rattle.std.specs.Prelude.{◌≡◌, List, ℕ}
use Rattle.model.specs.History.{Amount}
use Rattle.journal.specs.Calls.{UndoTotals, UndoResult}
use Rattle.c_answers.specs.Results.{result_of, answer_with, loan_with, answer_in}

-- the three counts lent
pub record UndoCounts : Type 0 where
  pub surviving : ℕ
  pub undone : ℕ
  pub aborted : ℕ

abbrev pub undo_counts_of : UndoTotals → UndoCounts
undo_counts_of c = record { surviving = c.surviving; undone = c.undone; aborted = c.aborted }

-- what undo returns, answers and leaves; the counts were w
pub record UndoLeaves (u : UndoResult) (w : UndoCounts) (result' answer' : ℕ) (table' : List Amount) (status' out' : List ℕ)
    (totals' : UndoCounts) : Type 0 where
  pub result : result' ≡ result_of u.answer
  pub answer : answer' ≡ answer_with (λ c. c.bytes) u.answer
  pub table : table' ≡ u.table
  pub status : status' ≡ u.status
  pub out : out' ≡ u.out
  pub totals : totals' ≡ loan_with undo_counts_of w u.answer

-- the counts read back: those lent, and the copy's bytes in `answer`
abbrev pub counts_in : UndoCounts → ℕ → UndoTotals
counts_in w bytes = record { surviving = w.surviving; undone = w.undone; aborted = w.aborted; bytes = bytes }

-- answer and loans read back from what C got
abbrev pub undo_result_in : ℕ → ℕ → List Amount → List ℕ → List ℕ → UndoCounts → UndoResult
undo_result_in result answer table status out w =
    record { answer = answer_in (counts_in w) result answer; table = table; status = status; out = out }
