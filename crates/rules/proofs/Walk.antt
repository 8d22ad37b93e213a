-- The reads of an item since its last write, followed from the newest to the one before it.
-- Assumes nothing.
use mathlib.Core.Path.{◌≡◌, refl, sym, ◌∙◌, ap}
use mathlib.Core.Bool.{Bool, false, ◌||◌}
use mathlib.Core.List.{List, [], ◌∷◌}
use Prim.Native.Nat.{ℕ, zero, suc, ◌<◌, ◌≤◌, pred}
use native.Mathlib.Omega.{arith}
use lib.Dec.{eqb}
use borrow.Author.Tests.{eqb-true, eq-eqb}
use Rattle.lists.specs.Search.{any}
use Rattle.lists.proofs.BoolLaws.{by_cases}
use Rattle.format.specs.Layout.{record_at}
use Rattle.model.specs.History.{read, tx_of}
use Rattle.journal.specs.Journal.{tx_in, op_of, history}
use Rattle.journal.proofs.Unrefused.{op_of-read}
use Rattle.arrays.proofs.ArraysLaws.{by-access}
use Rattle.arrays.specs.Recent.{reads_since, newest}
use Rattle.arrays.specs.Arrays.{read_before}

-- record k is a read of item x
pub record ReadAt (b : List ℕ) (x k : ℕ) : Type 0 where
  pub kind : (record_at b k).kind ≡ 1
  pub item : (record_at b k).item.0 ≡ x

-- a transaction with a read of item x since its last write, in the first n records, passes
abbrev pub among : (ℕ → Bool) → ℕ → List ℕ → ℕ → Bool
among g x b n = any (λ r. g (tx_of r)) (reads_since x (history b n))

-- k is the newest of these reads, 0 if there is none
pub data Newest (b : List ℕ) (x n : ℕ) : ℕ → Type 0 where
  no_read : reads_since x (history b n) ≡ [] → Newest b x n 0
  read_at : {k : ℕ} → k < n → ReadAt b x (suc k) → reads_since x (history b n) ≡ reads_since x (history b (suc k)) → Newest b x n (suc k)

longer : {b : List ℕ} {x n k : ℕ} → reads_since x (history b (suc n)) ≡ reads_since x (history b n) → Newest b x n k → Newest b x (suc n) k
longer e (no_read z) = no_read (e ∙ z)
longer e (read_at {k} h r z) = read_at {k = k} (omega arith) r (e ∙ z)

newest-read : (b : List ℕ) (x n : ℕ) → Newest b x n (newest (reads_since x (history b n)))
unfolding history
newest-read b x zero = no_read refl
newest-read b x (suc n) =
    let r = record_at b (suc n) in
    let p = history b n in
    let ih = newest-read b x n in
    by-access (λ o. reads_since x (history b (suc n)) ≡ reads_since x (o ∷ p) → Newest b x (suc n) (newest (reads_since x (o ∷ p)))) (suc n) r
    (λ k z. by_cases (eqb x r.item.0)
    (λ q. rw q (read_at {k = n} (omega arith) (record { kind = k; item = sym (eqb-true x r.item.0 q) }) refl))
    (λ q. rw q (longer (rw q at z) ih)))
    (λ k z. by_cases (eqb x r.item.0) (λ q. rw q (no_read (rw q at z))) (λ q. rw q (longer (rw q at z) ih)))
    (λ z. longer z ih) (λ z. longer z ih) (λ z. longer z ih) refl

newest-same : {b : List ℕ} {x n k : ℕ} → Newest b x n k → reads_since x (history b n) ≡ reads_since x (history b k)
unfolding history
newest-same (no_read z) = z
newest-same (read_at h r z) = z

newest-le : {b : List ℕ} {x n k : ℕ} → Newest b x n k → k ≤ n
newest-le (no_read z) = omega arith
newest-le (read_at h r z) = omega arith

newest-reads : {b : List ℕ} {x n k : ℕ} → Newest b x n k → (k ≡ 0 → ⊥) → ReadAt b x k
newest-reads (no_read z) h = absurd (h refl)
newest-reads (read_at l r z) h = r

module _ (b : List ℕ) (x n : ℕ) where
  pub newest-bound : newest (reads_since x (history b n)) ≤ n
  newest-bound = newest-le (newest-read b x n)

  pub newest-is-read : (newest (reads_since x (history b n)) ≡ 0 → ⊥) → ReadAt b x (newest (reads_since x (history b n)))
  newest-is-read h = newest-reads (newest-read b x n) h

  pub among-newest : (g : ℕ → Bool) → among g x b n ≡ among g x b (newest (reads_since x (history b n)))
  among-newest g = ap (any (λ r. g (tx_of r))) (newest-same (newest-read b x n))

pub among_none : (g : ℕ → Bool) (x : ℕ) (b : List ℕ) → among g x b 0 ≡ false
unfolding history
among_none g x b = refl

-- one read, and those before it
pub among-step : (g : ℕ → Bool) (x : ℕ) (b : List ℕ) (k : ℕ) → (k ≡ 0 → ⊥) → ReadAt b x k → among g x b k ≡ g (tx_in (record_at b k)) || among g x b (read_before b k)
unfolding history read_before
among-step g x b zero h r = absurd (h refl)
among-step g x b (suc k) h r =
    let o : op_of (suc k) (record_at b (suc k)) ≡ read (suc k) (tx_in (record_at b (suc k))) x = op_of-read (suc k) (record_at b (suc k)) r.kind ∙ ap (read (suc k) (tx_in (record_at b (suc k)))) r.item in
    let z : among g x b (suc k) ≡ g (tx_in (record_at b (suc k))) || among g x b k = rw (o, eq-eqb x x refl) in
    z ∙ rw r.item (ap (λ a. g (tx_in (record_at b (suc k))) || a) (among-newest b x k g))

-- it comes earlier, and is a read of the item too
pub before-less : (b : List ℕ) (k : ℕ) → (k ≡ 0 → ⊥) → read_before b k < k
unfolding read_before
before-less b zero h = absurd (h refl)
before-less b (suc k) h = let z = newest-bound b (record_at b (suc k)).item.0 k in omega arith

pub before-read : (b : List ℕ) (x k : ℕ) → ReadAt b x k → (read_before b k ≡ 0 → ⊥) → ReadAt b x (read_before b k)
unfolding read_before
before-read b x k r h = rw r.item (newest-is-read b x (pred k) (rw r.item at h))
