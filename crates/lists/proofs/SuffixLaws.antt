-- The end of a list, as a list: it is known by its length.
-- Assumes nothing.
use mathlib.Core.Path.{◌≡◌, refl}
use mathlib.Core.List.{List, ◌∷◌}
use Prim.Native.Nat.{◌≤◌}
use native.Mathlib.Omega.{arith}
use lib.ListN.{length}

pub data Suffix {A : Type 0} (p : List A) : List A → Type 0 where
  same : Suffix p p
  behind : {a : A} {l : List A} → Suffix p l → Suffix p (a ∷ l)

module _ {A : Type 0} where
  pub suffix-length : {p l : List A} → Suffix p l → length p ≤ length l
  suffix-length same = omega arith
  suffix-length (behind i) = omega (arith, suffix-length i)

  suffix_whole : {q l : List A} → Suffix q l → length l ≡ length q → l ≡ q
  suffix_whole same e = refl
  suffix_whole (behind i) e = absurd (omega (arith, suffix-length i))

  -- one that is below in both ways: of the lists behind the first element, if each such is known by its length
  suffix_behind : {a : A} {l p : List A} (q : List A) → ((r : List A) → Suffix r l → length p ≡ length r → p ≡ r) → Suffix p l → Suffix q (a ∷ l)
      → length p ≡ length q → p ≡ q
  suffix_behind q h i (behind k) e = h q k e
  suffix_behind q h i same e = absurd (omega (arith, suffix-length i))

  pub suffix-unique : {p q l : List A} → Suffix p l → Suffix q l → length p ≡ length q → p ≡ q
  suffix-unique same k e = suffix_whole k e
  suffix-unique {q = q} (behind i) k e = suffix_behind q (λ r j. suffix-unique {q = r} i j) i k e
