-- Membership in a list of numbers: by position, in lists joined, in a filter.
-- Assumes nothing.
use mathlib.Core.Path.{◌≡◌, refl, sym}
use mathlib.Core.Bool.{Bool, true, false, ◌&&◌, ◌||◌, false≢true}
use mathlib.Core.List.{List, [], ◌∷◌, ◌++◌}
use Prim.Native.Nat.{ℕ, zero, suc, ◌<◌}
use native.Mathlib.Omega.{arith}
use lib.Dec.{eqb}
use lib.ListN.{length, get_or}
use borrow.Author.Tests.{eqb-true, eq-eqb}
use Rattle.std.proofs.lemmas.Bool.{or_left, or_right}
use Rattle.lists.specs.Search.{keep, member}
use Rattle.lists.proofs.BoolLaws.{by_cases, or_cases}

pub member-at : (l : List ℕ) (k : ℕ) → k < length l → member (get_or l k 0) l ≡ true
member-at [] k h = absurd (omega arith)
member-at (v ∷ l) zero h = or_left (eqb v v) _ (eq-eqb v v refl)
member-at (v ∷ l) (suc k) h = or_right (eqb (get_or l k 0) v) _ (member-at l k (omega arith))

pub member-place : (s : ℕ) (l : List ℕ) → member s l ≡ true → (k : ℕ) × (k < length l) × (get_or l k 0 ≡ s)
member-place s [] e = absurd (false≢true e)
member-place s (v ∷ l) e =
    or_cases (eqb s v) (member s l) e
    (λ q. (0, omega arith, sym (eqb-true s v q)))
    (λ q. let (k, h, i) = member-place s l q in (suc k, omega arith, i))

pub member-append : (s : ℕ) (a b : List ℕ) → member s (a ++ b) ≡ member s a || member s b
member-append s [] b = refl
member-append s (v ∷ a) b = rw (member-append s a b) (or_assoc (eqb s v) (member s a) (member s b))
  where
    or_assoc : (x y z : Bool) → x || (y || z) ≡ x || y || z
    or_assoc true y z = refl
    or_assoc false y z = refl

pub member-keep : (f : ℕ → Bool) (s : ℕ) (l : List ℕ) → member s (keep f l) ≡ f s && member s l
member-keep f s [] = go (f s)
  where
    go : (a : Bool) → false ≡ a && false
    go true = refl
    go false = refl
member-keep f s (v ∷ l) =
    let ih = member-keep f s l in
    by_cases (f v)
    (λ e. rw (e, ih) (by_cases (eqb s v) (λ q. rw (q, eqb-true s v q, e)) (λ q. rw q)))
    (λ e. rw (e, ih) (by_cases (eqb s v) (λ q. rw (q, eqb-true s v q, e)) (λ q. rw q)))
