-- A chain followed from record to record: record numbers rise, so that the walk ends.
-- Assumes nothing.
use mathlib.Core.Path.{◌≡◌, refl, sym, ◌∙◌, ap}
use mathlib.Core.List.{List, [], ◌∷◌}
use Prim.Native.Nat.{ℕ, zero, suc, ◌+◌, ◌<◌, ◌≤◌}
use native.Mathlib.Omega.{arith}
use native.Mathlib.Numerals.{add-one}
use lib.Dec.{eqb}
use lib.ListN.{length, take, drop, get_or, set, length-drop}
use lib.Seq.{length-take-le, take_all, take-suc, drop-cons, drop-drop, get_or-drop, set_at, append_snoc}
use borrow.Author.Tests.{ne_eqb, eqb-true, eqb-false, ltb-true}
use Rattle.lists.specs.Search.{any, first}
use Rattle.lists.proofs.BoolLaws.{by_cases, and_right}
use Rattle.lists.proofs.SearchLaws.{first-none, first_some}
use Rattle.format.specs.Layout.{record_at}
use Rattle.model.specs.History.{tx_of, tag_of, tag_in, later_of}
use Rattle.journal.specs.Journal.{count, tx_in, whole}
use Rattle.journal.specs.Calls.{walk, written}
use Rattle.journal.proofs.Unrefused.{chained-next}
use Rattle.arrays.specs.Arrays.{Ready}
use Rattle.arrays.proofs.Found.{first_found, found-bound, passed-right}
use Rattle.chain.specs.Answers.{walk_from}

-- ---- one record

module _ (b : List ℕ) (k : Ready b (count b)) (i : ℕ) (z : i ≡ 0 → ⊥) (l : i ≤ count b) where
  next-is : (record_at b i).next.0 ≡ tag_in (first (later_of i (tx_in (record_at b i))) (whole b))
  next-is = go i z l
    where
      go : (i : ℕ) → (i ≡ 0 → ⊥) → i ≤ count b → (record_at b i).next.0 ≡ tag_in (first (later_of i (tx_in (record_at b i))) (whole b))
      go zero z l = absurd (z refl)
      go (suc i) z l = chained-next b (suc i) (passed-right b (count b) k.passed i l).chained

  -- next is a record
  pub next_low : (record_at b i).next.0 ≤ count b
  unfolding whole
  next_low = rw next-is (found-bound (first_found (later_of i (tx_in (record_at b i))) b (count b)))

  -- and a later one
  next-later : ((record_at b i).next.0 ≡ 0 → ⊥) → i < (record_at b i).next.0
  next-later h =
      let f = later_of i (tx_in (record_at b i)) in
      by_cases (any f (whole b))
      (λ e. let (w, q, t) = first_some f (whole b) e in
      rw (next-is, q) (ltb-true i (tag_of w) (and_right (eqb (tx_in (record_at b i)) (tx_of w)) _ t)))
      (λ e. absurd (h (next-is ∙ ap tag_in (first-none f (whole b) e))))

-- ---- the walk

pub walk_end : (b : List ℕ) (n i : ℕ) → i ≡ 0 → walk b n i ≡ []
unfolding walk
walk_end b zero i e = refl
walk_end b (suc n) i e = rw e

pub walk_step : (b : List ℕ) (n i : ℕ) → (i ≡ 0 → ⊥) → walk b (suc n) i ≡ i ∷ walk b n (record_at b i).next.0
unfolding walk
walk_step b n i z = rw (ne_eqb i 0 z)

pub length-walk : (b : List ℕ) (n i : ℕ) → length (walk b n i) ≤ n
unfolding walk
length-walk b zero i = omega arith
length-walk b (suc n) i =
    let h = length-walk b n (record_at b i).next.0 in
    by_cases (eqb i 0) (λ e. rw e (omega arith)) (λ e. rw e (omega arith))

module _ (b : List ℕ) (r : Ready b (count b)) where
  -- a bound that the numbers left cannot pass is no bound
  walk-enough : (n i : ℕ) → i ≤ count b → ((i ≡ 0 → ⊥) → count b < n + i) → walk b (suc n) i ≡ walk b n i
  walk-enough zero i l h =
      by_cases (eqb i 0)
      (λ e. let z = eqb-true i 0 e in walk_end b 1 i z ∙ sym (walk_end b 0 i z))
      (λ e. let m = h (eqb-false i 0 e) in absurd (omega arith))
  walk-enough (suc n) i l h =
      by_cases (eqb i 0)
      (λ e. let z = eqb-true i 0 e in walk_end b (suc (suc n)) i z ∙ sym (walk_end b (suc n) i z))
      (λ e. let z : i ≡ 0 → ⊥ = eqb-false i 0 e in
      let later = next-later b r i z l in
      let enough = h z in
      walk_step b (suc n) i z
      ∙ ap (λ w. i ∷ w) (walk-enough n (record_at b i).next.0 (next_low b r i z l) (λ y. let m = later y in omega arith))
      ∙ sym (walk_step b n i z))

  -- a walk takes one record, and goes on at its next
  pub walk_next : (i : ℕ) → (i ≡ 0 → ⊥) → i ≤ count b → walk_from b i ≡ i ∷ walk_from b (record_at b i).next.0
  walk_next i z l = sym (walk-enough (count b) i l (λ y. omega arith)) ∙ walk_step b (count b) i z

-- ---- the list it is written to

module _ (c l : List ℕ) (h : length c ≤ length l) (k : ℕ) where
  module _ (x : ℕ) (r : List ℕ) (e : drop k c ≡ x ∷ r) where
    left : k < length c
    left = let n = ap length e in omega (arith, length-drop k c)

    written-in : k < length l
    written-in = let f = left in omega arith

    pub written-left : drop (k + 1) c ≡ r
    written-left = sym (drop-drop 1 k c) ∙ ap (drop 1) e

    pub written-set : set (written (take k c) l) k x ≡ written (take (k + 1) c) l
    written-set =
        let f = left in
        let g = written-in in
        let t : length (take k c) ≡ k = length-take-le k c (omega arith) in
        let u : length (take (suc k) c) ≡ suc k = length-take-le (suc k) c f in
        let z : k + 0 ≡ k = omega arith in
        let y : get_or c k 0 ≡ x = ap (λ j. get_or c j 0) (sym z) ∙ sym (get_or-drop k c 0 0) ∙ ap (λ l. get_or l 0 0) e in
        rw (t, add-one, u, drop-cons l k 0 g, set_at (take k c) (get_or l k 0) (drop (suc k) l) x k t, take-suc c k 0 f, y)
        (sym (append_snoc (take k c) x (drop (suc k) l)))

  pub written_all : drop k c ≡ [] → written (take k c) l ≡ written c l
  written_all e =
      let n = ap length e in
      let f : length c ≤ k = omega (arith, length-drop k c) in
      ap (λ m. written m l) (take_all k c f)
