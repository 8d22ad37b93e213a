-- Ranks: how many of the first records are kept. The next of a kept record in the copy is the rank of its next.
-- Assumes nothing.
use mathlib.Core.Path.{◌≡◌, refl, sym, ◌∙◌, ap}
use mathlib.Core.Bool.{Bool, true, false, cond, ◌||◌}
use mathlib.Core.List.{List, ◌∷◌}
use Prim.Native.Nat.{ℕ, zero, suc, ◌+◌, ◌≤◌}
use native.Mathlib.Omega.{arith}
use native.Mathlib.Numerals.{add-one}
use lib.Dec.{eqb, ltb}
use lib.ListN.{length, get_or, replicate, get_or-replicate}
use borrow.Author.Tests.{eqb-true, eqb-false, ne_eqb, lt-ltb, le-ltb, ltb-true, ltb-false}
use Rattle.lists.specs.Tables.{coded}
use Rattle.lists.specs.Search.{any, first}
use Rattle.lists.proofs.BoolLaws.{by_cases, clash}
use Rattle.lists.proofs.SearchLaws.{first-none, first-skip, first-old}
use Rattle.format.specs.Layout.{record_at}
use Rattle.model.specs.History.{Op, History, tag_of, tag_in, later_of, next_in}
use Rattle.model.specs.Undo.{only, renumber, retag}
use Rattle.model.proofs.Renumber.{tx_of-retag, tag_of-retag}
use Rattle.journal.specs.Journal.{tx_in, op_of, history}
use Rattle.journal.proofs.Records.{tx_of-op_of, tag_of-op_of, history-zero, history-suc}
use Rattle.repair.specs.Copying.{rank}

or-cong : {a a' c c' : Bool} → a ≡ a' → c ≡ c' → a || c ≡ a' || c'
or-cong e f = rw (e, f)

module _ (k : ℕ → Bool) (b : List ℕ) where
  rank-zero : rank k b 0 ≡ 0
  unfolding rank
  rank-zero = refl

  rank-suc : (n : ℕ) → rank k b (suc n) ≡ cond (k (tx_in (record_at b (suc n)))) (suc (rank k b n)) (rank k b n)
  unfolding rank
  rank-suc n = refl

  pub rank-surviving : (n : ℕ) → k (tx_in (record_at b (suc n))) ≡ true → rank k b (suc n) ≡ suc (rank k b n)
  rank-surviving n e = rank-suc n ∙ rw e

  rank-other : (n : ℕ) → k (tx_in (record_at b (suc n))) ≡ false → rank k b (suc n) ≡ rank k b n
  rank-other n e = rank-suc n ∙ rw e

  rank_step : (n : ℕ) → (rank k b n ≤ rank k b (suc n)) × (rank k b (suc n) ≤ suc (rank k b n))
  rank_step n =
      by_cases (k (tx_in (record_at b (suc n))))
      (λ e. (omega (arith, rank-surviving n e), omega (arith, rank-surviving n e)))
      (λ e. (omega (arith, rank-other n e), omega (arith, rank-other n e)))

  pub rank-le : (i n : ℕ) → i ≤ n → rank k b i ≤ rank k b n
  rank-le i zero h = let z : i ≡ 0 = omega arith in rw z (omega arith)
  rank-le i (suc n) h =
      by_cases (eqb i (suc n))
      (λ e. rw (eqb-true i (suc n) e) (omega arith))
      (λ e. let d = eqb-false i (suc n) e in let q = rank-le i n (omega arith) in let s = rank_step n in omega arith)

  rank-few : (n : ℕ) → rank k b n ≤ n
  rank-few zero = rw rank-zero (omega arith)
  rank-few (suc n) = let q = rank-few n in let s = rank_step n in omega arith

  -- the rank of the last is how many are kept
  length-only : (n : ℕ) → length (only k (history b n)) ≡ rank k b n
  unfolding history rank
  length-only zero = refl
  length-only (suc n) =
      rw (tx_of-op_of (suc n) (record_at b (suc n)))
      (by_cases (k (tx_in (record_at b (suc n)))) (λ e. rw e (ap suc (length-only n))) (λ e. rw e (length-only n)))

  only-surviving : (n : ℕ) → k (tx_in (record_at b (suc n))) ≡ true → only k (history b (suc n)) ≡ op_of (suc n) (record_at b (suc n)) ∷ only k (history b n)
  unfolding history
  only-surviving n e = rw (tx_of-op_of (suc n) (record_at b (suc n)), e)

  only-other : (n : ℕ) → k (tx_in (record_at b (suc n))) ≡ false → only k (history b (suc n)) ≡ only k (history b n)
  unfolding history
  only-other n e = rw (tx_of-op_of (suc n) (record_at b (suc n)), e)

  -- a kept record is later than record i in the copy where it is later in the journal
  later-rank : (i n : ℕ) → k (tx_in (record_at b (suc n))) ≡ true → ltb (rank k b i) (rank k b (suc n)) ≡ ltb i (suc n)
  later-rank i n e =
      by_cases (ltb i (suc n))
      (λ q. let h = ltb-true i (suc n) q in
      lt-ltb (rank k b i) (rank k b (suc n)) (omega (arith, rank-surviving n e, rank-le i n (omega arith))) ∙ sym q)
      (λ q. let h = ltb-false i (suc n) q in
      le-ltb (rank k b i) (rank k b (suc n)) (rank-le (suc n) i h) ∙ sym q)

  tag-rank : (n : ℕ) → k (tx_in (record_at b (suc n))) ≡ true → suc (length (only k (history b n))) ≡ rank k b (suc n)
  tag-rank n e = ap suc (length-only n) ∙ sym (rank-surviving n e)

  module _ (i s : ℕ) (h : k s ≡ true) where
    Surviving : ℕ → History
    Surviving n = renumber (only k (history b n))

    later-is : (n : ℕ) → k (tx_in (record_at b (suc n))) ≡ true
        → later_of (rank k b i) s (retag (suc (length (only k (history b n)))) (op_of (suc n) (record_at b (suc n)))) ≡ later_of i s (op_of (suc n) (record_at b (suc n)))
    later-is n e =
        let o = op_of (suc n) (record_at b (suc n)) in
        rw (tag_of-retag (suc (length (only k (history b n)))) o, tx_of-retag (suc (length (only k (history b n)))) o, tag-rank n e, later-rank i n e, tag_of-op_of (suc n) (record_at b (suc n)))

    -- a record that is not kept is none of s
    later-other : (n : ℕ) → k (tx_in (record_at b (suc n))) ≡ false → later_of i s (op_of (suc n) (record_at b (suc n))) ≡ false
    later-other n e =
        let z : eqb s (tx_in (record_at b (suc n))) ≡ false = ne_eqb s _ (λ q. clash (rw q at h) e) in
        rw (tx_of-op_of (suc n) (record_at b (suc n)), z)

    any-later : (n : ℕ) → any (later_of (rank k b i) s) (Surviving n) ≡ any (later_of i s) (history b n)
    unfolding Surviving
    any-later zero = rw history-zero
    any-later (suc n) =
        by_cases (k (tx_in (record_at b (suc n))))
        (λ e. ap (λ q. any (later_of (rank k b i) s) (renumber q)) (only-surviving n e) ∙ or-cong (later-is n e) (any-later n) ∙ sym (ap (any (later_of i s)) (history-suc b n)))
        (λ e. ap (λ q. any (later_of (rank k b i) s) (renumber q)) (only-other n e) ∙ any-later n ∙ sym (ap (any (later_of i s)) (history-suc b n) ∙ or-cong (later-other n e) refl))

    one_later : (f f' : Op → Bool) (r r' : Op) (p p' : History) → any f p ≡ false → any f' p' ≡ false → f' r' ≡ f r → tag_of r' ≡ rank k b (tag_of r)
        → tag_in (first f' (r' ∷ p')) ≡ rank k b (tag_in (first f (r ∷ p)))
    one_later f f' r r' p p' a a' e t =
        rw (first-none f p a, first-none f' p' a', e)
        (by_cases (f r) (λ q. rw q t) (λ q. rw q (sym rank-zero)))

    -- the next in the copy is the rank of the next
    pub next-rank : (n : ℕ) → next_in (renumber (only k (history b n))) (rank k b i) s ≡ rank k b (next_in (history b n) i s)
    unfolding Surviving
    next-rank zero = rw history-zero (sym rank-zero)
    next-rank (suc n) =
        let o = op_of (suc n) (record_at b (suc n)) in
        by_cases (k (tx_in (record_at b (suc n))))
        (λ e. ap (λ q. next_in (renumber q) (rank k b i) s) (only-surviving n e)
        ∙ by_cases (any (later_of i s) (history b n))
        (λ q. ap tag_in (first-old (later_of (rank k b i) s) (retag (suc (length (only k (history b n)))) o) (Surviving n) (any-later n ∙ q))
        ∙ next-rank n ∙ sym (ap (λ w. rank k b (tag_in w)) (first-old (later_of i s) o (history b n) q)))
        (λ q. one_later (later_of i s) (later_of (rank k b i) s) o (retag (suc (length (only k (history b n)))) o) (history b n) (Surviving n) q (any-later n ∙ q) (later-is n e)
        (tag_of-retag (suc (length (only k (history b n)))) o ∙ tag-rank n e ∙ ap (rank k b) (sym (tag_of-op_of (suc n) (record_at b (suc n))))))
        ∙ sym (ap (λ h. rank k b (next_in h i s)) (history-suc b n)))
        (λ e. ap (λ q. next_in (renumber q) (rank k b i) s) (only-other n e) ∙ next-rank n
        ∙ sym (ap (λ h. rank k b (next_in h i s)) (history-suc b n) ∙ ap (λ w. rank k b (tag_in w)) (first-skip (later_of i s) o (history b n) (later-other n e))))

-- ---- the array of ranks

module _ (b fates : List ℕ) where
  pub rank-start : 0 ≡ rank (coded 1 fates) b 0
  rank-start = sym (rank-zero (coded 1 fates) b)

  pub ranks-start : (k : ℕ) → k ≤ 0 → get_or (replicate 3201 0) k 0 ≡ rank (coded 1 fates) b k
  ranks-start k h = let z : k ≡ 0 = omega arith in rw z (get_or-replicate 3201 0 0 0 (omega arith) ∙ rank-start)

  -- one record more
  pub rank-more : (i surviving m : ℕ) → surviving ≡ rank (coded 1 fates) b i → m ≡ cond (coded 1 fates (tx_in (record_at b (i + 1)))) (surviving + 1) surviving → m ≡ rank (coded 1 fates) b (i + 1)
  rank-more i surviving m q e = e ∙ rw (q, add-one (rank (coded 1 fates) b i), add-one i) (sym (rank-suc (coded 1 fates) b i))

  pub rank-at-most : (i surviving : ℕ) → surviving ≡ rank (coded 1 fates) b i → surviving ≤ i
  rank-at-most i surviving q = rw q (rank-few (coded 1 fates) b i)
