-- What a line is made of, and its text.
-- Assumes nothing.
use Rattle.std.specs.Prelude.{List, ℕ, flat_map}
use Rattle.std.proofs.Common.{to_z, of_z, w64}
use Rattle.text.specs.Decimal.{decimal, decimal_z}
use Rattle.text.specs.declared.Part.{Part}
use Rattle.text.specs.declared.Part.TheVariants.{Word, Number, Amount}

-- a word's bytes, or the digits of a number; a signed one is read from its bits, as it is passed on
abbrev pub text_of : Part → List ℕ
text_of (Word w) = w.now
text_of (Number n) = decimal n
text_of (Amount z) = decimal_z (to_z w64 (of_z w64 z))

-- the texts of the parts, joined
abbrev pub texts_of : List Part → List ℕ
texts_of = flat_map text_of
