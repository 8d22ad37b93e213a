-- For worked instances: the definitions that calls compute with, tests that show a journal to be bytes and its sales finished, the
-- example of document 01 and a second day.
-- Assumes nothing.
use mathlib.Core.Path.{◌≡◌}
use mathlib.Core.Bool.{Bool, true, ◌&&◌, false≢true}
use mathlib.Core.List.{List, [], ◌∷◌, flatten}
use Prim.Native.Nat.{ℕ}
use lib.Dec.{eqb, ltb}
use lib.IntN.{pos}
use borrow.Author.Tests.{eqb-true, ltb-true}
use Rattle.lists.specs.Search.{any}
use Rattle.lists.proofs.BoolLaws.{and_left, and_right, or_cases}
use Rattle.format.specs.Bytes.{Bytes, none, byte}
use Rattle.model.specs.History.{History, Amount, tx_of, of_tx, ended}
use Rattle.journal.specs.Calls.{opening_table}
use Rattle.example.specs.Records.{head_bytes, read_bytes, write_bytes, commit_bytes, abort_bytes}
unfoldable pub use Rattle.example.specs.Example.{example, example_table}
use Rattle.days.proofs.Computed as calls

-- what the statements compute with: `unfolding computed` opens what its own line names
unfoldable pub computed : Unit {0}
unfolding calls.computed opening_table
computed = tt

-- ---- bytes, and every sale finished, by a test

abbrev pub below_all : List ℕ → Bool
below_all [] = true
below_all (x ∷ b) = ltb x 256 && below_all b

pub below-bytes : (b : List ℕ) → below_all b ≡ true → Bytes b
below-bytes [] e = none
below-bytes (x ∷ b) e = byte (ltb-true x 256 (and_left (ltb x 256) (below_all b) e)) (below-bytes b (and_right (ltb x 256) (below_all b) e))

-- the sale of each record of p has an end in j
abbrev pub ended_all : History → History → Bool
ended_all j [] = true
ended_all j (r ∷ p) = ended j (tx_of r) && ended_all j p

pub ended-all : (j p : History) → ended_all j p ≡ true → (s : ℕ) → any (of_tx s) p ≡ true → ended j s ≡ true
ended-all j [] e s h = absurd (false≢true h)
ended-all j (r ∷ p) e s h =
    or_cases (eqb s (tx_of r)) (any (of_tx s) p) h
    (λ q. rw (eqb-true s (tx_of r) q) (and_left (ended j (tx_of r)) (ended_all j p) e))
    (λ q. ended-all j p (and_right (ended j (tx_of r)) (ended_all j p) e) s q)

-- ---- a second day, two items: sale 1 reads item 0 (records 1 and 2), sale 4 writes item 1 (5 to 9) and rolls back (3 to 5), sale 2
-- writes it (5 to 6; 6 to 8), sale 3 reads that (9 and 10), sale 5 reads item 0 (11 and 12)

-- the four bytes of an amount below 256
abbrev low : ℕ → List ℕ
low n = n ∷ 0 ∷ 0 ∷ 0 ∷ []

unfoldable pub second : List ℕ
second =
    flatten (head_bytes 12 2
    ∷ read_bytes 1 2 0
    ∷ commit_bytes 1 0
    ∷ read_bytes 4 4 1
    ∷ write_bytes 4 5 1 (low 5) (low 9)
    ∷ abort_bytes 4 0
    ∷ read_bytes 2 7 1
    ∷ write_bytes 2 8 1 (low 5) (low 6)
    ∷ commit_bytes 2 0
    ∷ read_bytes 3 10 1
    ∷ commit_bytes 3 0
    ∷ read_bytes 5 12 0
    ∷ commit_bytes 5 0
    ∷ [])

unfoldable pub second_table : List Amount
second_table = pos 7 ∷ pos 6 ∷ []
