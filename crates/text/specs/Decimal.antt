-- Numbers in decimal, as ASCII: 48 is the digit 0, 45 the minus sign.
-- Document 01, "The program's day". Assumes nothing.
use Rattle.std.specs.Prelude.{cond, List, [], ◌∷◌, ◌++◌, ℕ, zero, suc, ◌+◌, ◌/◌, ◌%◌, ltb, ℤ, pos, negsuc}
use Rattle.text.specs.Puts.{labelled}
use Rattle.text.specs.declared.Signed.{Signed}

-- the ASCII code of a digit
abbrev pub digit : ℕ → ℕ
digit d = 48 + d

-- n, of at most k digits: the last digit is n % 10, and those in front of it are the digits of n / 10
unfoldable pub digits : ℕ → ℕ → List ℕ
digits zero n = []
digits (suc k) n = cond (ltb n 10) (digit n ∷ []) (digits k (n / 10) ++ digit (n % 10) ∷ [])

-- a number of up to 64 bits, which has at most 20 digits
unfoldable pub decimal : ℕ → List ℕ
decimal n = digits 20 n

-- a signed number
unfoldable pub decimal_z : ℤ → List ℕ
decimal_z (pos n) = decimal n
decimal_z (negsuc n) = 45 ∷ decimal (suc n)

-- .. as a sign and a size
unfoldable pub decimal_s : Signed → List ℕ
decimal_s x = cond x.minus (labelled (45 ∷ []) (decimal x.size)) (decimal x.size)
