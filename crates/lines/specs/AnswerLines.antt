-- What the program prints of take-back's answer.
-- Document 01, "The program's day". Assumes nothing.
use Rattle.std.specs.Prelude.{cond, ℕ, eqb, length, get_or}
use mathlib.Core.List.{List, [], ◌∷◌, flatten}
use Rattle.lists.specs.Tables.{each}
use Rattle.format.specs.Limits.{max_transaction}
use Rattle.model.specs.History.{Amount, same_amount}
use Rattle.journal.specs.Journal.{amount_at}
use Rattle.journal.specs.Calls.{Answer, refused, accepted, UndoTotals}
use Rattle.text.specs.Lines.{count_line, undone_line, change_line, sum_line, end_line, refused_line}

-- the line of transaction s: none, if its mark is not 2
unfoldable pub undone_in : List ℕ → ℕ → List ℕ
undone_in status s = cond (eqb (get_or status s 0) 2) (undone_line s) []

-- the lines of all transactions, rising
abbrev pub undone_lines : List ℕ → List ℕ
undone_lines status = each (undone_in status) 1 max_transaction

-- the line of item x: none, if its amount is what it was
unfoldable pub change_of : ℕ → Amount → Amount → List ℕ
change_of x old new = cond (same_amount old new) [] (change_line x old new)

abbrev pub change_in : List Amount → List Amount → ℕ → List ℕ
change_in old new x = change_of x (amount_at old x) (amount_at new x)

-- the lines of all items, rising
abbrev pub change_lines : List Amount → List Amount → List ℕ
change_lines old new = each (change_in old new) 0 (length old)

-- the report of a journal of n records, by take-back's answer, the table before and after, and the statuses (01: marks); m gives
-- the copy's record count, s its net change (02: the sum) in decimal
unfoldable pub lines : ℕ → (UndoTotals → ℕ) → (UndoTotals → List ℕ) → List Amount → List Amount → List ℕ → Answer UndoTotals
    → List ℕ
lines n m s old new status (refused number place) = refused_line number place
lines n m s old new status (accepted c) =
    flatten (count_line n (m c) ∷ undone_lines status ∷ change_lines old new ∷ sum_line (s c)
    ∷ end_line c.surviving c.undone c.aborted ∷ [])
