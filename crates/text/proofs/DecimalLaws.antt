-- Decimals: they are std's, digit by digit, below zero, by sign and size, and how long they are.
-- Assumes nothing.
use Rattle.std.proofs.Common.{◌≡◌, ℕ, zero, suc, ◌^◌, ◌≤◌, ◌<◌, ltb, true, false, [], ◌∷◌, ◌++◌, ◌/◌, ◌%◌, length, ℤ, pos, negsuc, ap, sym, refl, ◌∙◌, arith, length-append}
use native.Mathlib.Omega.{pow_step}
use Rattle.std.proofs.lemmas.Fmt.{decimal_from_appends, length-decimal-le}
use Rattle.std.specs.Fmt as fmt
use lib.Signed.{mag, lt_z}
use lib.IntN.{nat_abs}
use mir.Syntax.{w64}
use mir.Val.{to_z, of_z, SFits}
use mir.ValLaws.{to_z-of_z}
use borrow.Author.Tests.{lt-ltb, le-ltb, ltb-true, ltb-false}
use Rattle.lists.proofs.BoolLaws.{by_cases, clash}
use Rattle.text.specs.Puts.{labelled}
use Rattle.text.specs.declared.Signed.{Signed}
use Rattle.text.specs.Decimal.{digit, digits, decimal, decimal_z, decimal_s}

-- ---- std's

pub decimal_std : (n : ℕ) → n < 2 ^ 64 → decimal n ≡ fmt.decimal n
unfolding decimal digits
decimal_std n h =
    decimal_from_appends digits
    (record { one = λ k n l. rw (lt-ltb n 10 l); more = λ k n l. rw (le-ltb n 10 l) })
    20 n h (length-decimal-le 20 n (omega arith) (omega arith) h)

pub decimal_z-std : (z : ℤ) → mag z < 2 ^ 63 → decimal_z z ≡ fmt.signed_decimal z
unfolding decimal_z
decimal_z-std (pos n) h = decimal_std n (omega arith)
decimal_z-std (negsuc n) h = ap (λ d. 45 ∷ d) (decimal_std (suc n) (omega arith))

-- ---- digit by digit

digits-few : (k n : ℕ) → n < 10 → digits (suc k) n ≡ digit n ∷ []
unfolding digits
digits-few k n h = rw (lt-ltb n 10 h)

digits-many : (k n : ℕ) → 10 ≤ n → digits (suc k) n ≡ digits k (n / 10) ++ digit (n % 10) ∷ []
unfolding digits
digits-many k n h = rw (le-ltb n 10 h)

-- room for one digit more changes nothing
digits_more : (k n : ℕ) → n < 10 ^ suc k → digits (suc k) n ≡ digits (suc (suc k)) n
digits_more zero n h = digits-few 0 n (omega arith) ∙ sym (digits-few 1 n (omega arith))
digits_more (suc k) n h =
    by_cases (ltb n 10)
    (λ e. let l : n < 10 = ltb-true n 10 e in digits-few (suc k) n l ∙ sym (digits-few (suc (suc k)) n l))
    (λ e. let l : 10 ≤ n = ltb-false n 10 e in
    digits-many (suc k) n l
    ∙ ap (λ d. d ++ digit (n % 10) ∷ []) (digits_more k (n / 10) (omega (arith, pow_step 10 (suc k))))
    ∙ sym (digits-many (suc (suc k)) n l))

pub decimal-few : (n : ℕ) → n < 10 → decimal n ≡ digit n ∷ []
unfolding decimal
decimal-few n h = digits-few 19 n h

-- the last digit, behind the others
pub decimal-many : (n : ℕ) → 10 ≤ n → n < 18446744073709551616 → decimal n ≡ decimal (n / 10) ++ digit (n % 10) ∷ []
unfolding decimal
decimal-many n h k = digits-many 19 n h ∙ ap (λ d. d ++ digit (n % 10) ∷ []) (digits_more 18 (n / 10) (omega arith))

-- ---- a number of 64 bits, by the test whether it is below zero

below : (x : ℤ) → lt_z x (pos 0) ≡ true → decimal_z x ≡ (45 ∷ []) ++ decimal (nat_abs x)
unfolding decimal_z
below (pos n) h = absurd (omega (arith, ltb-true n 0 h))
below (negsuc k) h = refl

plain : (x : ℤ) → lt_z x (pos 0) ≡ false → decimal_z x ≡ decimal (nat_abs x)
unfolding decimal_z
plain (pos n) h = refl
plain (negsuc k) h = clash refl h

-- as it is read from its bits, of size n
module _ (x : ℤ) (f : SFits w64 x) (n : ℕ) (e : n ≡ nat_abs (to_z w64 (of_z w64 x))) where
  pub decimal_z-below : lt_z (to_z w64 (of_z w64 x)) (pos 0) ≡ true → decimal_z x ≡ (45 ∷ []) ++ decimal n
  decimal_z-below h = below x (rw (to_z-of_z w64 x f) at h) ∙ ap (λ d. 45 ∷ decimal d) (sym (rw (to_z-of_z w64 x f) at e))

  pub decimal_z-plain : lt_z (to_z w64 (of_z w64 x)) (pos 0) ≡ false → decimal_z x ≡ decimal n
  decimal_z-plain h = plain x (rw (to_z-of_z w64 x f) at h) ∙ ap decimal (sym (rw (to_z-of_z w64 x f) at e))

-- ---- by sign and size

pub decimal_s-plus : (x : Signed) → x.minus ≡ false → decimal_s x ≡ decimal x.size
unfolding decimal_s
decimal_s-plus x e = rw e

pub decimal_s-minus : (x : Signed) → x.minus ≡ true → decimal_s x ≡ labelled (45 ∷ []) (decimal x.size)
unfolding decimal_s
decimal_s-minus x e = rw e

-- ---- their length, also of numbers with more digits

length_digits : (k n : ℕ) → length (digits k n) ≤ k
unfolding digits
length_digits zero n = omega arith
length_digits (suc k) n =
    by_cases (ltb n 10)
    (λ e. rw e (omega arith))
    (λ e. rw (e, length-append) (omega (arith, length_digits k (n / 10))))

pub length-decimal : (n : ℕ) → length (decimal n) ≤ 20
unfolding decimal
length-decimal n = length_digits 20 n

pub length-decimal_z : (z : ℤ) → length (decimal_z z) ≤ 21
unfolding decimal_z
length-decimal_z (pos n) = omega (arith, length-decimal n)
length-decimal_z (negsuc n) = omega (arith, length-decimal (suc n))
