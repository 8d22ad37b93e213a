-- Case splits on a Bool and what `&&` and `||` say.
-- Assumes nothing.
use mathlib.Core.Path.{◌≡◌, refl, sym, ◌∙◌}
use mathlib.Core.Bool.{Bool, true, false, false≢true, ◌&&◌, ◌||◌}

-- a case on a test, with its equation
pub by_cases {ℓ} : {P : Type ℓ} (b : Bool) → (b ≡ true → P) → (b ≡ false → P) → P
by_cases true f g = f refl
by_cases false f g = g refl

pub or_cases {ℓ} : {P : Type ℓ} (a b : Bool) → a || b ≡ true → (a ≡ true → P) → (b ≡ true → P) → P
or_cases true b e f g = f refl
or_cases false b e f g = g e

-- The kit's and_parts and or_parts give both sides as a pair; these name the side that is meant, in some 250 places.
pub and_left : (a b : Bool) → a && b ≡ true → a ≡ true
and_left true b e = refl
and_left false b e = e

pub and_right : (a b : Bool) → a && b ≡ true → b ≡ true
and_right true b e = e
and_right false b e = cc

pub or-false-left : (a b : Bool) → a || b ≡ false → a ≡ false
or-false-left true b e = cc
or-false-left false b e = refl

pub or-false-right : (a b : Bool) → a || b ≡ false → b ≡ false
or-false-right true b e = cc
or-false-right false b e = e

-- the kit's both_ways gives ⊥, and this what is asked
pub clash {ℓ} : {P : Type ℓ} {b : Bool} → b ≡ true → b ≡ false → P
clash t f = absurd (false≢true (sym f ∙ t))

-- what holds if and only if: two Bools are equal where each is true if the other is
pub same_truth : (a b : Bool) → (a ≡ true → b ≡ true) → (b ≡ true → a ≡ true) → a ≡ b
same_truth true b f g = sym (f refl)
same_truth false true f g = g refl
same_truth false false f g = refl
