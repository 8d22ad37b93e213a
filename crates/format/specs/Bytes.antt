-- Little-endian numbers of any width, bytes cut into entries, and signed amounts.
-- Document 01, "The journal" and "The program's day". Assumes nothing.
use Rattle.std.specs.Prelude.{List, [], ◌∷◌, ℕ, zero, suc, ◌+◌, ◌*◌, ◌/◌, ◌%◌, ◌<◌, ℤ, length, take, drop}
use Rattle.std.specs.Int.{w32}
use Rattle.std.proofs.Common.{to_z, of_z}
use Rattle.lists.specs.Tables.{tabulate}

-- each element is a byte
pub data Bytes : List ℕ → Type 0 where
  none : Bytes []
  byte : {x : ℕ} {b : List ℕ} → x < 256 → Bytes b → Bytes (x ∷ b)

-- the number whose bytes, lowest first, are b
unfoldable pub value : List ℕ → ℕ
value [] = 0
value (x ∷ b) = x + 256 * value b

-- the w low bytes of a number, lowest first
unfoldable pub bytes : ℕ → ℕ → List ℕ
bytes zero n = []
bytes (suc w) n = n % 256 ∷ bytes w (n / 256)

-- entry i of b, in entries of w bytes
unfoldable pub entry : ℕ → List ℕ → ℕ → ℕ
entry w b i = value (take w (drop (w * i) b))

-- b cut into whole entries of w bytes; a part of an entry at the end is left out
unfoldable pub entries : ℕ → List ℕ → List ℕ
entries w b = tabulate (entry w b) 0 (length b / w)

-- the amount with these 32 bits, in two's complement, and the bits of an amount
abbrev pub amount : ℕ → ℤ
amount n = to_z w32 n

abbrev pub bits : ℤ → ℕ
bits z = of_z w32 z
