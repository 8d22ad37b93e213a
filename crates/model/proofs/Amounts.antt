-- Amounts compared.
-- Assumes nothing.
use mathlib.Core.Path.{◌≡◌, refl, ap}
use mathlib.Core.Bool.{false≢true, true}
use lib.IntN.{pos, negsuc}
use borrow.Author.Tests.{eqb-true, eq-eqb}
use Rattle.model.specs.History.{Amount, same_amount}

pub same_refl : (a : Amount) → same_amount a a ≡ true
same_refl (pos n) = eq-eqb n n refl
same_refl (negsuc n) = eq-eqb n n refl

pub same-eq : (a b : Amount) → same_amount a b ≡ true → a ≡ b
same-eq (pos m) (pos n) e = ap pos (eqb-true m n e)
same-eq (pos m) (negsuc n) e = absurd (false≢true e)
same-eq (negsuc m) (pos n) e = absurd (false≢true e)
same-eq (negsuc m) (negsuc n) e = ap negsuc (eqb-true m n e)
