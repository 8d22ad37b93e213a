-- The working arrays after one operation more: those that it changes.
-- Assumes nothing.
use mathlib.Core.Path.{◌≡◌, refl, ap, ◌∙◌}
use mathlib.Core.Bool.{true, false}
use mathlib.Core.List.{◌∷◌}
use mathlib.Core.Option.{Option, none, some}
use Prim.Native.Nat.{ℕ}
use lib.Dec.{eqb}
use lib.ListN.{set}
use borrow.Author.Tests.{eqb-true, eq-eqb}
use Rattle.lists.specs.Search.{first, or_else}
use Rattle.lists.proofs.BoolLaws.{by_cases}
use Rattle.lists.proofs.TablesLaws.{by-index-same, by-index-set}
use Rattle.model.specs.History.{Op, History, Amount, Tag, read, write, commit, abort, tx_of, tag_of, of_tx, tag_in}
use Rattle.arrays.specs.Recent.{by_tx, last_write}
use Rattle.arrays.specs.Arrays.{ends_of, firsts_of, writes_of, bases_of, reads_of}
use Rattle.arrays.proofs.ArraysLaws.{ends-array, firsts-array, writes-array, bases-array, reads-array}

module _ (p : History) (t : Tag) (s : ℕ) where
  pub ends-commit : set (ends_of p) s 1 ≡ ends_of (commit t s ∷ p)
  ends-commit = by-index-set s 1 0 (ends-array p) (ends-array (commit t s ∷ p)) (rw (eq-eqb s s refl)) (λ j q. rw q)

  pub ends-abort : set (ends_of p) s 2 ≡ ends_of (abort t s ∷ p)
  ends-abort = by-index-set s 2 0 (ends-array p) (ends-array (abort t s ∷ p)) (rw (eq-eqb s s refl)) (λ j q. rw q)

  pub reads-read : (x : ℕ) → set (reads_of p) x t ≡ reads_of (read t s x ∷ p)
  reads-read x = by-index-set x t 0 (reads-array p) (reads-array (read t s x ∷ p)) (rw (eq-eqb x x refl)) (λ j q. rw q)

  module _ (x : ℕ) (b a : Amount) where
    pub reads-write : set (reads_of p) x 0 ≡ reads_of (write t s x b a ∷ p)
    reads-write = by-index-set x 0 0 (reads-array p) (reads-array (write t s x b a ∷ p)) (rw (eq-eqb x x refl)) (λ j q. rw q)

    pub writes-write : set (writes_of p) x t ≡ writes_of (write t s x b a ∷ p)
    writes-write = by-index-set x t 0 (writes-array p) (writes-array (write t s x b a ∷ p)) (rw (eq-eqb x x refl)) (λ j q. rw q)

    -- the transaction wrote the item last: its first write stays
    pub bases-again : by_tx (last_write p x) s ≡ true → bases_of p ≡ bases_of (write t s x b a ∷ p)
    bases-again e =
        by-index-same 0 (bases-array p) (bases-array (write t s x b a ∷ p))
        (λ j. by_cases (eqb j x) (λ q. let z = eqb-true j x q in rw (q, z, e)) (λ q. rw q))

    pub bases-write : by_tx (last_write p x) s ≡ false → set (bases_of p) x t ≡ bases_of (write t s x b a ∷ p)
    bases-write e = by-index-set x t 0 (bases-array p) (bases-array (write t s x b a ∷ p)) (rw (eq-eqb x x refl, e)) (λ j q. rw q)

-- the first record of a transaction
pub firsts-set : (p : History) (r : Op) → first (of_tx (tx_of r)) p ≡ none → set (firsts_of p) (tx_of r) (tag_of r) ≡ firsts_of (r ∷ p)
firsts-set p r e =
    by-index-set (tx_of r) (tag_of r) 0 (firsts-array p) (firsts-array (r ∷ p)) (rw (eq-eqb (tx_of r) (tx_of r) refl, e)) (λ j q. rw q)

-- an operation later than another changes no first
or_else-some : (o : Option Op) (d : Option Op) {w : Op} → o ≡ some w → tag_in (or_else o d) ≡ tag_in o
or_else-some none d e = cc
or_else-some (some v) d e = refl

pub firsts_same : (p : History) (r : Op) {w : Op} → first (of_tx (tx_of r)) p ≡ some w → firsts_of p ≡ firsts_of (r ∷ p)
firsts_same p r e =
    by-index-same 0 (firsts-array p) (firsts-array (r ∷ p))
    (λ j. by_cases (eqb j (tx_of r)) (λ q. let z = eqb-true j (tx_of r) q in rw q (or_else-some (first (of_tx j) p) (some r) (ap (λ t. first (of_tx t) p) z ∙ e))) (λ q. rw q))
