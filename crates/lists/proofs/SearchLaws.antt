-- What a filter does to the tests over a list, and the oldest and newest that pass.
-- Assumes nothing.
use mathlib.Core.Path.{◌≡◌, refl, sym, ◌∙◌}
use mathlib.Core.Bool.{Bool, true, false, false≢true}
use mathlib.Core.List.{List, [], ◌∷◌}
use mathlib.Core.Option.{none, some, none-ne-some}
use Prim.Native.Nat.{◌≤◌}
use native.Mathlib.Omega.{arith}
use lib.ListN.{length}
use Rattle.std.proofs.lemmas.Bool.{or_left, or_right}
use Rattle.lists.specs.Search.{any, keep, latest, first}
use Rattle.lists.proofs.BoolLaws.{by_cases, or_cases, or-false-left, or-false-right, clash}

module _ {A : Type 0} where
  -- a test that fails on all that the filter drops sees no difference
  pub any-keep : (f k : A → Bool) → ((r : A) → f r ≡ true → k r ≡ true) → (p : List A) → any f (keep k p) ≡ any f p
  any-keep f k h [] = refl
  any-keep f k h (r ∷ p) =
      by_cases (k r)
      (λ e. simp (e, any-keep f k h p))
      (λ e. by_cases (f r) (λ e'. let z : k r ≡ true = h r e' in cc) (λ e'. simp (e, e', any-keep f k h p)))

  pub any-keep-false : (f f' k : A → Bool) → ((r : A) → k r ≡ true → f' r ≡ f r) → (p : List A) → any f p ≡ false → any f' (keep k p) ≡ false
  any-keep-false f f' k h [] n = refl
  any-keep-false f f' k h (r ∷ p) n =
      by_cases (k r)
      (λ e. simp (e, h r e, or-false-left (f r) _ n, any-keep-false f f' k h p (or-false-right (f r) _ n)))
      (λ e. simp (e, any-keep-false f f' k h p (or-false-right (f r) _ n)))

  -- the newest that passes is kept: it is the newest of what is kept
  pub latest-keep : (f f' k : A → Bool) → ((r : A) → k r ≡ true → f' r ≡ f r) → (p : List A) → ((w : A) → latest f p ≡ some w → k w ≡ true)
      → latest f' (keep k p) ≡ latest f p
  latest-keep f f' k h [] n = refl
  latest-keep f f' k h (r ∷ p) n =
      by_cases (f r)
      (λ e. let e' : k r ≡ true = n r (rw e) in simp (e', h r e', e))
      (λ e. let i : latest f' (keep k p) ≡ latest f p = latest-keep f f' k h p (rw e at n) in
      by_cases (k r) (λ e'. simp (e', h r e', e, i)) (λ e'. simp (e', e, i)))

  pub any_none : (f k : A → Bool) → ((r : A) → k r ≡ true → f r ≡ false) → (p : List A) → any f (keep k p) ≡ false
  any_none f k h [] = refl
  any_none f k h (r ∷ p) = by_cases (k r) (λ e. simp (e, h r e, any_none f k h p)) (λ e. simp (e, any_none f k h p))

  pub keep-keep : (k k' : A → Bool) → ((r : A) → k' r ≡ true → k r ≡ true) → (p : List A) → keep k' (keep k p) ≡ keep k' p
  keep-keep k k' h [] = refl
  keep-keep k k' h (r ∷ p) =
      by_cases (k r)
      (λ e. simp (e, keep-keep k k' h p))
      (λ e. by_cases (k' r) (λ e'. let z = h r e' in absurd (false≢true (sym e ∙ z))) (λ e'. simp (e, e', keep-keep k k' h p)))

  pub length-keep : (f : A → Bool) (p : List A) → length (keep f p) ≤ length p
  length-keep f [] = omega arith
  length-keep f (r ∷ p) = grind (arith, length-keep f p)

  pub any-mono : (f g : A → Bool) → ((r : A) → f r ≡ true → g r ≡ true) → (p : List A) → any f p ≡ true → any g p ≡ true
  any-mono f g h [] e = e
  any-mono f g h (r ∷ p) e = or_cases (f r) (any f p) e (λ i. or_left (g r) _ (h r i)) (λ i. or_right (g r) _ (any-mono f g h p i))

  pub first-none : (f : A → Bool) (p : List A) → any f p ≡ false → first f p ≡ none
  first-none f [] e = refl
  first-none f (r ∷ p) e = rw (first-none f p (or-false-right (f r) _ e), or-false-left (f r) _ e)

  pub first_some : (f : A → Bool) (p : List A) → any f p ≡ true → (w : A) × (first f p ≡ some w) × (f w ≡ true)
  first_some f [] e = absurd (false≢true e)
  first_some f (r ∷ p) e =
      by_cases (any f p)
      (λ i. let (w, q, t) = first_some f p i in (w, by_cases (f r) (λ j. rw (j, q)) (λ j. rw (j, q)), t))
      (λ i. or_cases (f r) (any f p) e (λ q. (r, (rw (q, first-none f p i)), q)) (λ q. absurd (false≢true (sym i ∙ q))))

  -- of a list with one element more
  pub first-skip : (f : A → Bool) (r : A) (p : List A) → f r ≡ false → first f (r ∷ p) ≡ first f p
  first-skip f r p e = rw e

  pub first-new : (f : A → Bool) (r : A) (p : List A) → f r ≡ true → any f p ≡ false → first f (r ∷ p) ≡ some r
  first-new f r p e n = rw (e, first-none f p n)

  pub first-old : (f : A → Bool) (r : A) (p : List A) → any f p ≡ true → first f (r ∷ p) ≡ first f p
  first-old f r p e = let (w, q, t) = first_some f p e in by_cases (f r) (λ j. rw (j, q)) (λ j. rw j)

  -- the newest that passes among those kept is kept
  pub latest-kept : (f k : A → Bool) (p : List A) {w : A} → latest f (keep k p) ≡ some w → k w ≡ true
  latest-kept f k [] {w} e = let z : ◌≡◌ {A = Bool} true false = cc in clash refl z
  latest-kept f k (r ∷ p) {w} e =
      by_cases (k r)
      (λ h. let d : latest f (r ∷ keep k p) ≡ some w = rw h at e in
      by_cases (f r)
      (λ g. let i : some r ≡ some w = rw g at d in let i' : r ≡ w = cc in rw (← i') h)
      (λ g. latest-kept f k p (rw g at d)))
      (λ h. latest-kept f k p (rw h at e))

  pub latest-passes : (f : A → Bool) (p : List A) {w : A} → latest f p ≡ some w → f w ≡ true
  latest-passes f [] {w} h = absurd (none-ne-some w h)
  latest-passes f (r ∷ p) {w} h =
      by_cases (f r)
      (λ e. let i : some r ≡ some w = rw e at h in let i' : r ≡ w = cc in rw (← i') e)
      (λ e. latest-passes f p (rw e at h))

  pub latest-none : (f : A → Bool) (p : List A) → latest f p ≡ none → any f p ≡ false
  latest-none f [] e = refl
  latest-none f (r ∷ p) e = by_cases (f r) (λ q. absurd (none-ne-some r (sym (rw q at e)))) (λ q. rw q (latest-none f p (rw q at e)))

  -- what is found passes another test
  pub any-latest : (f g : A → Bool) (p : List A) {w : A} → latest f p ≡ some w → g w ≡ true → any g p ≡ true
  any-latest f g [] {w} e h = absurd (none-ne-some w e)
  any-latest f g (r ∷ p) {w} e h =
      by_cases (f r)
      (λ q. let i : some r ≡ some w = rw q at e in let i' : r ≡ w = cc in or_left (g r) _ (rw i' h))
      (λ q. or_right (g r) _ (any-latest f g p (rw q at e) h))

  -- some element that passes; what holds of it holds of one
  pub any_some : (f : A → Bool) (p : List A) → any f p ≡ true → (r : A) × (f r ≡ true) × ((g : A → Bool) → g r ≡ true → any g p ≡ true)
  any_some f [] e = absurd (false≢true e)
  any_some f (r ∷ p) e =
      by_cases (f r)
      (λ q. (r, q, λ g t. or_left (g r) _ t))
      (λ q. let (w, t, h) = any_some f p (rw q at e) in (w, t, λ g u. or_right (g r) _ (h g u)))
