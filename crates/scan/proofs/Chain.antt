-- Next, worked out from the last record to the first with one slot a transaction; and the lowest record whose next is wrong.
-- Assumes nothing.
use mathlib.Core.Path.{◌≡◌, refl, sym, ◌∙◌, ap, subst}
use mathlib.Core.Bool.{Bool, true, false, cond, ◌&&◌, and-false}
use mathlib.Core.List.{List}
use mathlib.Core.Option.{Option, none, some}
use Prim.Native.Nat.{ℕ, zero, suc, ◌+◌, ◌-◌, ◌<◌, ◌≤◌}
use native.Mathlib.Omega.{arith}
use native.Mathlib.Numerals.{add-one}
use lib.Dec.{eqb, leb}
use lib.ListN.{get_or, set, replicate}
use borrow.Author.Tests.{eqb-true, eqb-false, eq-eqb, ne_eqb, lt-ltb, le-ltb, le-leb, lt-leb}
use Rattle.lists.specs.Search.{first, or_else}
use Rattle.lists.proofs.BoolLaws.{by_cases}
use Rattle.lists.proofs.TablesLaws.{ByIndex, by_index, by-index-all, by-index-set, tabulate-ext}
use Rattle.format.specs.Layout.{record_at}
use Rattle.model.specs.History.{Op, tx_of, tag_in, later_of, next_in}
use Rattle.journal.specs.Journal.{count, tx_in, op_of, history, whole}
use Rattle.journal.specs.Refusals.{wrong_next}
use Rattle.journal.proofs.Records.{tx_of-op_of, tag_of-op_of}
use Rattle.scan.specs.Chain.{nexts_of, broken, lowest_broken}

-- nothing is later than the last record
none-later : (b : List ℕ) (n i s : ℕ) → n ≤ i → first (later_of i s) (history b n) ≡ none
unfolding history
none-later b zero i s h = refl
none-later b (suc n) i s h =
    rw (tag_of-op_of (suc n) (record_at b (suc n)), le-ltb i (suc n) h, and-false (eqb s (tx_of (op_of (suc n) (record_at b (suc n))))))
    (none-later b n i s (omega arith))

-- later than j: record j + 1, if it is of the transaction, or else later than that
first-later : (b : List ℕ) (n j s : ℕ) → j < n
    → first (later_of j s) (history b n) ≡ cond (eqb s (tx_in (record_at b (suc j)))) (some (op_of (suc j) (record_at b (suc j)))) (first (later_of (suc j) s) (history b n))
unfolding history
first-later b zero j s h = absurd (omega arith)
first-later b (suc n) j s h =
    by_cases (eqb j n)
    (λ e.
    subst
    (λ k. first (later_of k s) (history b (suc n))
    ≡ cond (eqb s (tx_in (record_at b (suc k)))) (some (op_of (suc k) (record_at b (suc k)))) (first (later_of (suc k) s) (history b (suc n))))
    (sym (eqb-true j n e))
    (rw (tag_of-op_of (suc n) (record_at b (suc n)), tx_of-op_of (suc n) (record_at b (suc n)), lt-ltb n (suc n) (omega arith), none-later b n n s (omega arith), none-later b n (suc n) s (omega arith), le-ltb (suc n) (suc n) (omega arith))
    (last (eqb s (tx_in (record_at b (suc n)))) (op_of (suc n) (record_at b (suc n))))))
    (λ e. let d = eqb-false j n e in
    rw (tag_of-op_of (suc n) (record_at b (suc n)), tx_of-op_of (suc n) (record_at b (suc n)), lt-ltb j (suc n) h, first-later b n j s (omega arith), lt-ltb (suc j) (suc n) (omega arith))
    (both (eqb s (tx_in (record_at b (suc n)))) (eqb s (tx_in (record_at b (suc j)))) (first (later_of (suc j) s) (history b n)) (op_of (suc n) (record_at b (suc n))) (op_of (suc j) (record_at b (suc j)))))
  where
    last : (c : Bool) (o : Op) → cond (c && true) (or_else none (some o)) none ≡ cond c (some o) (cond (c && false) (or_else none (some o)) none)
    last true o = refl
    last false o = refl

    both : (c e : Bool) (f : Option Op) (o q : Op)
        → cond (c && true) (or_else (cond e (some q) f) (some o)) (cond e (some q) f) ≡ cond e (some q) (cond (c && true) (or_else f (some o)) f)
    both true true f o q = refl
    both true false f o q = refl
    both false true f o q = refl
    both false false f o q = refl

module _ (b : List ℕ) where
  nexts-array : (i : ℕ) → ByIndex (next_in (whole b) i) 1025 (nexts_of b i)
  unfolding nexts_of
  nexts-array i = by_index _ 1025

  -- after the last record
  nexts-last : replicate 1025 0 ≡ nexts_of b (count b)
  unfolding whole
  nexts-last = by-index-all 0 0 (nexts-array (count b)) (λ s. ap tag_in (none-later b (count b) (count b) s (omega arith)))

  next-step : (j s : ℕ) → j < count b → next_in (whole b) j s ≡ cond (eqb s (tx_in (record_at b (suc j)))) (suc j) (next_in (whole b) (suc j) s)
  unfolding whole
  next-step j s h =
      ap tag_in (first-later b (count b) j s h) ∙ by_cases (eqb s (tx_in (record_at b (suc j)))) (λ e. rw (e, tag_of-op_of (suc j) (record_at b (suc j)))) (λ e. rw e)

  -- one record back
  nexts-set : (j : ℕ) → j < count b → set (nexts_of b (suc j)) (tx_in (record_at b (suc j))) (suc j) ≡ nexts_of b j
  nexts-set j h =
      let s = tx_in (record_at b (suc j)) in
      by-index-set s (suc j) 0 (nexts-array (suc j)) (nexts-array j) (next-step j s h ∙ rw (eq-eqb s s refl)) (λ k q. next-step j k h ∙ rw q)

  nexts-same : (j : ℕ) → j < count b → 1025 ≤ tx_in (record_at b (suc j)) → nexts_of b (suc j) ≡ nexts_of b j
  unfolding nexts_of
  nexts-same j h l =
      tabulate-ext (next_in (whole b) (suc j)) (next_in (whole b) j) 0 0 1025
      (λ k m. sym (next-step j (0 + k) h ∙ rw (ne_eqb (0 + k) (tx_in (record_at b (suc j))) (λ e. omega arith))))

  -- ---- the lowest record whose next is wrong

  lowest-zero : (i : ℕ) → lowest_broken b i 0 ≡ 0
  unfolding lowest_broken
  lowest-zero i = refl

  lowest-suc : (i n : ℕ) → lowest_broken b i (suc n) ≡ cond (broken b i) i (lowest_broken b (suc i) n)
  unfolding lowest_broken
  lowest-suc i n = refl

  lowest-above : (j i n : ℕ) → 1 ≤ j → j < i → eqb j (lowest_broken b i n) ≡ false
  unfolding lowest_broken
  lowest-above j i zero l h = ne_eqb j 0 (λ e. omega arith)
  lowest-above j i (suc n) l h = by_cases (broken b i) (λ e. rw e (ne_eqb j i (λ q. omega arith))) (λ e. rw e (lowest-above j (suc i) n l (omega arith)))

  lowest-skip : (i m n : ℕ) → ((k : ℕ) → i ≤ k → k < i + m → broken b k ≡ false) → lowest_broken b i (m + n) ≡ lowest_broken b (i + m) n
  unfolding lowest_broken
  lowest-skip i zero n h =
      let e : 0 + n ≡ n = omega arith in
      let f : i ≡ i + 0 = omega arith in
      ap (λ k. lowest_broken b i k) e ∙ ap (λ k. lowest_broken b k n) f
  lowest-skip i (suc m) n h =
      let e : suc m + n ≡ suc (m + n) = omega arith in
      let f : suc i + m ≡ i + suc m = omega arith in
      ap (lowest_broken b i) e ∙ lowest-suc i (m + n) ∙ rw (h i (omega arith) (omega arith))
      (lowest-skip (suc i) m n (λ k a c. h k (omega arith) (omega arith)) ∙ ap (λ k. lowest_broken b k n) f)

  -- where no lower record's next is wrong: it is this record, if and only if its next is
  pub lowest-here : (j n : ℕ) → j < n → ((k : ℕ) → 1 ≤ k → k ≤ j → wrong_next b k ≡ false) → tx_in (record_at b (suc j)) ≤ 1024
      → eqb (suc j) (lowest_broken b 1 n) ≡ wrong_next b (suc j)
  unfolding broken
  lowest-here j n h f l =
      let e : n ≡ j + suc (n - suc j) = omega arith in
      let q : broken b (suc j) ≡ wrong_next b (suc j) = rw (le-leb (tx_in (record_at b (suc j))) 1024 l) in
      let one : 1 + j ≡ suc j = omega arith in
      let skip : lowest_broken b 1 n ≡ lowest_broken b (suc j) (suc (n - suc j)) =
      ap (lowest_broken b 1) e ∙ lowest-skip 1 j (suc (n - suc j)) (λ k a c. rw (f k a (omega arith)) (and-false (leb (tx_in (record_at b k)) 1024)))
      ∙ ap (λ k. lowest_broken b k (suc (n - suc j))) one in
      rw (skip, lowest-suc (suc j) (n - suc j), q)
      (by_cases (wrong_next b (suc j))
      (λ u. rw u (eq-eqb (suc j) (suc j) refl))
      (λ u. rw u (lowest-above (suc j) (suc (suc j)) (n - suc j) (omega arith) (omega arith))))

-- ---- one record back, as the code goes

module _ (b : List ℕ) (all j s low : ℕ) (c : all ≡ count b) (below : j < all) (e : s ≡ tx_in (record_at b (j + 1))) where
  h : j < count b
  h = omega arith

  pub back_above : 1024 < s → low ≡ cond (broken b (j + 1)) (j + 1) low
  unfolding broken
  back_above a = rw (lt-leb (tx_in (record_at b (j + 1))) 1024 (rw e at a))

  pub back-above-slots : {l : List ℕ} → 1024 < s → l ≡ nexts_of b (j + 1) → l ≡ nexts_of b j
  back-above-slots a q = q ∙ (rw add-one (nexts-same b j h (rw (e, add-one) at a)))

  pub back-slots : {l : List ℕ} → l ≡ nexts_of b (j + 1) → set l s (j + 1) ≡ nexts_of b j
  back-slots q = rw (q, e, add-one) (nexts-set b j h)

  module _ (l : List ℕ) (n : ℕ) (a : s ≤ 1024) (q : l ≡ nexts_of b (j + 1)) (m : n ≡ (record_at b (j + 1)).next.0) where
    slot : get_or l s 0 ≡ next_in (whole b) (j + 1) (tx_in (record_at b (j + 1)))
    slot = rw (q, (nexts-array b (j + 1)).at s 0 (omega arith), e)

    pub back-right : n ≡ get_or l s 0 → low ≡ cond (broken b (j + 1)) (j + 1) low
    unfolding broken wrong_next
    back-right w =
        rw (eq-eqb (record_at b (j + 1)).next.0 _ (sym m ∙ w ∙ slot), and-false (leb (tx_in (record_at b (j + 1))) 1024))

    pub back-wrong : (n ≡ get_or l s 0 → ⊥) → j + 1 ≡ cond (broken b (j + 1)) (j + 1) low
    unfolding broken wrong_next
    back-wrong w =
        rw (ne_eqb (record_at b (j + 1)).next.0 _ (λ z. w (m ∙ z ∙ sym slot)), le-leb (tx_in (record_at b (j + 1))) 1024 (rw e at a))

-- ---- the loop: records j + 1 on, of n

pub back_start : (b : List ℕ) (n : ℕ) → n ≡ count b → replicate 1025 0 ≡ nexts_of b n
back_start b n e = rw e (nexts-last b)

pub back-start-low : (b : List ℕ) (n : ℕ) → 0 ≡ lowest_broken b (n + 1) (n - n)
back-start-low b n = let e : n - n ≡ 0 = omega arith in rw e (sym (lowest-zero b (n + 1)))

pub back_step : (b : List ℕ) (n i r low : ℕ) → 0 < i → i ≤ n → low ≡ lowest_broken b (i + 1) (n - i) → r ≡ cond (broken b (i - 1 + 1)) (i - 1 + 1) low
    → r ≡ lowest_broken b (i - 1 + 1) (n - (i - 1))
back_step b n i r low h l q e =
    let f : n - (i - 1) ≡ suc (n - i) = omega arith in
    let g : suc (i - 1 + 1) ≡ i + 1 = omega arith in
    e ∙ rw (f, lowest-suc b (i - 1 + 1) (n - i), g) (ap (cond (broken b (i - 1 + 1)) (i - 1 + 1)) q)
