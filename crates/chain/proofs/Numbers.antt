-- The chain walked is the transaction's records, in order.
-- Assumes nothing.
use mathlib.Core.Path.{◌≡◌, refl, sym, ◌∙◌, ap, subst⁻¹}
use mathlib.Core.Bool.{Bool, true, false, ◌&&◌}
use mathlib.Core.List.{List, [], ◌∷◌}
use mathlib.Core.Option.{Option, none, some}
use Prim.Native.Nat.{ℕ, zero, suc, ◌<◌, ◌≤◌}
use native.Mathlib.Omega.{arith}
use lib.Dec.{eqb, ltb}
use lib.ListN.{length, length-append}
use borrow.Author.Tests.{eqb-true, lt-ltb, le-ltb, ltb-true}
use Rattle.lists.specs.Search.{any, keep, first, or_else}
use Rattle.lists.proofs.BoolLaws.{by_cases, clash, and_left, and_right, or-false-left, or-false-right, or_cases}
use Rattle.lists.proofs.SearchLaws.{length-keep, first-none, first_some, first-old}
use Rattle.format.specs.Layout.{record_at}
use Rattle.model.specs.History.{Op, History, tx_of, tag_of, tag_in, of_tx, later_of}
use Rattle.model.proofs.Extension.{Numbered, first-tag}
use Rattle.journal.specs.Journal.{count, tx_in, op_of, history, whole}
use Rattle.journal.specs.Calls.{walk, chain_of}
use Rattle.journal.proofs.Checked.{Sound, decide-sound}
use Rattle.journal.proofs.Records.{tx_of-op_of, tag_of-op_of, length-history}
use Rattle.journal.proofs.Unrefused.{chained-next, history-numbered}
use Rattle.arrays.proofs.Found.{Found, at, first_found}
use Rattle.chain.specs.Visits.{lsns_of, Visits, VisitCount}
use Rattle.chain.proofs.Steps.{walk_end, walk_step}

-- ---- a filter of numbered operations

keep-none : (f : Op → Bool) (p : History) → any f p ≡ false → keep f p ≡ []
keep-none f [] e = refl
keep-none f (r ∷ p) e = rw (or-false-left (f r) _ e) (keep-none f p (or-false-right (f r) _ e))

keep-ext : (f g : Op → Bool) → ((r : Op) → f r ≡ g r) → (p : History) → keep f p ≡ keep g p
keep-ext f g h [] = refl
keep-ext f g h (r ∷ p) = rw (h r, keep-ext f g h p)

-- those that pass and come behind number t
abbrev behind : (Op → Bool) → ℕ → Op → Bool
behind f t r = f r && ltb t (tag_of r)

none-behind : (f : Op → Bool) (t : ℕ) (p : History) → any f p ≡ false → keep (behind f t) p ≡ []
none-behind f t [] e = refl
none-behind f t (r ∷ p) e = rw (or-false-left (f r) _ e) (none-behind f t p (or-false-right (f r) _ e))

-- the first that passes, then those behind it
numbers-first : (f : Op → Bool) (p : History) → Numbered p → any f p ≡ true → lsns_of (keep f p) ≡ tag_in (first f p) ∷ lsns_of (keep (behind f (tag_in (first f p))) p)
unfolding lsns_of
numbers-first f [] n e = clash e refl
numbers-first f (r ∷ p) n e =
    by_cases (any f p)
    (λ i. let ih = numbers-first f p n.0 i in
    let l : tag_in (first f p) < tag_of r = omega (arith, first-tag f p n.0, n.1) in
    subst⁻¹ (λ o. lsns_of (keep f (r ∷ p)) ≡ tag_in o ∷ lsns_of (keep (behind f (tag_in o)) (r ∷ p))) (first-old f r p i)
    (by_cases (f r)
    (λ q. rw (q, lt-ltb (tag_in (first f p)) (tag_of r) l, ih))
    (λ q. rw (q, ih))))
    (λ i. let q : f r ≡ true = or_cases (f r) (any f p) e (λ h. h) (λ h. clash h i) in
    let g : ltb (tag_of r) (tag_of r) ≡ false = le-ltb (tag_of r) (tag_of r) (omega arith) in
    let o : first f (r ∷ p) ≡ some r = rw q (ap (λ o. or_else o (some r)) (first-none f p i)) in
    subst⁻¹ (λ o. lsns_of (keep f (r ∷ p)) ≡ tag_in o ∷ lsns_of (keep (behind f (tag_in o)) (r ∷ p))) o (rw (q, g, keep-none f p i, none-behind f (tag_of r) p i)))

length-numbers : (p : History) → length (lsns_of p) ≡ length p
unfolding lsns_of
length-numbers [] = refl
length-numbers (r ∷ p) = length-append (lsns_of p) (tag_of r ∷ []) ∙ omega (arith, length-numbers p)

-- ---- the walk

module _ (b : List ℕ) (k : Sound b) (s : ℕ) where
  numbered : Numbered (whole b)
  unfolding whole
  numbered = history-numbered b (count b)

  found : (f : Op → Bool) → Found b (count b) (first f (whole b))
  unfolding whole
  found f = first_found f b (count b)

  next_of : (t : ℕ) → 1 ≤ t → t ≤ count b → of_tx s (op_of t (record_at b t)) ≡ true → (record_at b t).next.0 ≡ tag_in (first (later_of t s) (whole b))
  next_of zero l m e = absurd (omega arith)
  next_of (suc i) l m e =
      let q : s ≡ tx_in (record_at b (suc i)) = eqb-true s _ e ∙ tx_of-op_of (suc i) (record_at b (suc i)) in
      chained-next b (suc i) (k.right i m).chained ∙ rw (← q)

  -- from the first operation that passes, where the rest of the chain passes what comes behind it
  from_first : (f : Op → Bool) (n : ℕ) (o : Option Op) → Found b (count b) o → first f (whole b) ≡ o → ((r : Op) → f r ≡ true → of_tx s r ≡ true)
      → ((t : ℕ) → tag_in o ≡ t → 1 ≤ t → (r : Op) → behind f t r ≡ later_of t s r)
      → ((t : ℕ) → tag_in o ≡ t → 1 ≤ t → walk b n (tag_in (first (later_of t s) (whole b))) ≡ lsns_of (keep (later_of t s) (whole b)))
      → walk b (suc n) (tag_in o) ≡ lsns_of (keep f (whole b))
  unfolding lsns_of
  from_first f n none d e h g ih =
      by_cases (any f (whole b))
      (λ i. let (w, q, t) = first_some f (whole b) i in let z : none ≡ some w = sym e ∙ q in cc)
      (λ i. walk_end b (suc n) 0 refl ∙ sym (ap lsns_of (keep-none f (whole b) i)))
  from_first f n (some _) (at t l m) e h g ih =
      let o : Op = op_of t (record_at b t) in
      let u : tag_of o ≡ t = tag_of-op_of t (record_at b t) in
      by_cases (any f (whole b))
      (λ i. let (w, q, p) = first_some f (whole b) i in
      let z : some o ≡ some w = sym e ∙ q in
      let y : o ≡ w = cc in
      let own : of_tx s o ≡ true = h o (rw y p) in
      let c : tag_in (first f (whole b)) ≡ t = ap tag_in e ∙ u in
      rw u
      (walk_step b n t (λ x. omega arith) ∙ ap (λ x. t ∷ walk b n x) (next_of t l m own) ∙ ap (λ x. t ∷ x) (ih t u l)
      ∙ ap (λ x. t ∷ lsns_of x) (sym (keep-ext (behind f t) (later_of t s) (g t u l) (whole b)))
      ∙ sym (rw c at (numbers-first f (whole b) numbered i))))
      (λ i. let z : some o ≡ none = sym e ∙ first-none f (whole b) i in cc)

  -- one fewer behind the first that passes
  fewer : (f : Op → Bool) (t : ℕ) → tag_in (first f (whole b)) ≡ t → 1 ≤ t → length (keep f (whole b)) ≡ suc (length (keep (behind f t) (whole b)))
  fewer f t e l =
      by_cases (any f (whole b))
      (λ i. let n = ap length (rw e at (numbers-first f (whole b) numbered i)) in
      omega (arith, length-numbers (keep f (whole b)), length-numbers (keep (behind f t) (whole b))))
      (λ i. let z : t ≡ 0 = sym e ∙ ap tag_in (first-none f (whole b) i) in absurd (omega arith))

  -- what comes later than t, of what comes later than i
  later_first : (i t : ℕ) → tag_in (first (later_of i s) (whole b)) ≡ t → 1 ≤ t → (r : Op) → behind (later_of i s) t r ≡ later_of t s r
  later_first i t e l r =
      by_cases (any (later_of i s) (whole b))
      (λ a. let (w, q, p) = first_some (later_of i s) (whole b) a in
      let u : tag_of w ≡ t = sym (ap tag_in q) ∙ e in
      let v : i < tag_of w = ltb-true i (tag_of w) (and_right (eqb s (tx_of w)) _ p) in
      by_cases (eqb s (tx_of r))
      (λ o. rw o
      (by_cases (ltb t (tag_of r))
      (λ h. let m = ltb-true t (tag_of r) h in rw (h, lt-ltb i (tag_of r) (omega arith)))
      (λ h. rw h (and_no (ltb i (tag_of r))))))
      (λ o. rw o))
      (λ a. let z : t ≡ 0 = sym e ∙ ap tag_in (first-none (later_of i s) (whole b) a) in absurd (omega arith))
    where
      and_no : (x : Bool) → x && false ≡ false
      and_no true = refl
      and_no false = refl

  walk-all : (n : ℕ) (f : Op → Bool) → ((r : Op) → f r ≡ true → of_tx s r ≡ true)
      → ((t : ℕ) → tag_in (first f (whole b)) ≡ t → 1 ≤ t → (r : Op) → behind f t r ≡ later_of t s r)
      → length (keep f (whole b)) ≤ n → walk b n (tag_in (first f (whole b))) ≡ lsns_of (keep f (whole b))
  unfolding lsns_of walk
  walk-all zero f h g l = ap lsns_of (sym (empty (keep f (whole b)) l))
    where
      empty : (p : History) → length p ≤ 0 → p ≡ []
      empty [] l = refl
      empty (r ∷ p) l = absurd (omega arith)
  walk-all (suc n) f h g l =
      from_first f n (first f (whole b)) (found f) refl h g
      (λ t e m.
      walk-all n (later_of t s) (λ r q. and_left (of_tx s r) _ q) (later_first t)
      (let a = fewer f t e m in let c = ap length (keep-ext (behind f t) (later_of t s) (g t e m) (whole b)) in omega arith))

  chain-numbers : chain_of b s ≡ lsns_of (keep (of_tx s) (whole b))
  unfolding chain_of whole
  chain-numbers =
      walk-all (count b) (of_tx s) (λ r e. e) (λ t e l r. refl)
      (let a = length-keep (of_tx s) (history b (count b)) in omega (arith, length-history b (count b)))

pub visits : Visits
visits b s e = chain-numbers b (decide-sound b e) s

pub visit-count : VisitCount
visit-count b s e = ap length (visits b s e) ∙ length-numbers (keep (of_tx s) (whole b))
