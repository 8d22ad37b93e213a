-- How long the lines of an answer are.
-- Assumes nothing.
use mathlib.Core.Path.{◌≡◌, refl}
use mathlib.Core.List.{List}
use Prim.Native.Nat.{ℕ, zero, suc, ◌*◌, ◌≤◌}
use native.Mathlib.Nat.{mul-suc}
use native.Mathlib.Omega.{arith}
use lib.Dec.{eqb}
use lib.ListN.{length, get_or, length-append}
use Rattle.lists.specs.Tables.{each}
use Rattle.lists.proofs.BoolLaws.{by_cases}
use Rattle.lists.proofs.TablesLaws.{each-zero, each-suc}
use Rattle.model.specs.History.{Amount, same_amount}
use Rattle.journal.specs.Calls.{Answer, refused, accepted, UndoTotals}
use Rattle.text.specs.Lines.{undone_line, change_line, refused_line}
use Rattle.text.proofs.PutsLaws.{length_none, length-flatten}
use Rattle.text.proofs.DecimalLaws.{length-decimal, length-decimal_z}
use Rattle.lines.specs.AnswerLines.{undone_in, change_of, change_in, lines}

-- ---- the length of each line

length-refused_line : (n p : ℕ) → length (refused_line n p) ≤ 50
length-refused_line n p = simp (length-flatten, length_none) (omega (arith, length-decimal n, length-decimal p))

length-undone_line : (s : ℕ) → length (undone_line s) ≤ 26
length-undone_line s = simp (length-flatten, length_none) (omega (arith, length-decimal s))

length-change_line : (x : ℕ) (old new : Amount) → length (change_line x old new) ≤ 70
length-change_line x old new = simp (length-flatten, length_none) (omega (arith, length-decimal x, length-decimal_z old, length-decimal_z new))

length-undone_in : (status : List ℕ) (s : ℕ) → length (undone_in status s) ≤ 26
unfolding undone_in
length-undone_in status s = by_cases (eqb (get_or status s 0) 2) (λ e. rw e (length-undone_line s)) (λ e. rw e (omega arith))

length-change_of : (x : ℕ) (old new : Amount) → length (change_of x old new) ≤ 70
unfolding change_of
length-change_of x old new = by_cases (same_amount old new) (λ e. rw e (omega arith)) (λ e. rw e (length-change_line x old new))

length-each : (f : ℕ → List ℕ) (k : ℕ) → ((j : ℕ) → length (f j) ≤ k) → (i n : ℕ) → length (each f i n) ≤ k * n
length-each f k h i zero = rw (each-zero f i) (omega arith)
length-each f k h i (suc n) =
    rw (each-suc f i n, length-append) (omega (arith, h i, length-each f k h (suc i) n, mul-suc k n))

-- ---- the length of a report: 55 + 26 × 1,024 + 70 × 1,024 + 26 + 67 at most

pub length-lines : (n : ℕ) (m : UndoTotals → ℕ) (s : UndoTotals → List ℕ) (old new : List Amount) (status : List ℕ) (a : Answer UndoTotals) → ((c : UndoTotals) → a ≡ accepted c → (length old ≤ 1024) × (length (s c) ≤ 21))
    → length (lines n m s old new status a) ≤ 100000
unfolding lines
length-lines n m s old new status (refused k p) h = omega (arith, length-refused_line k p)
length-lines n m s old new status (accepted c) h =
    simp (length-flatten, length_none)
    (omega (arith, (h c refl).0, (h c refl).1, length-decimal n, length-decimal (m c), length-each (undone_in status) 26 (length-undone_in status) 1 1024, length-each (change_in old new) 70 (λ x. length-change_of x _ _) 0 (length old), length-decimal c.surviving, length-decimal c.undone, length-decimal c.aborted))
