-- Signed numbers of 32 bits as numbers of 64 bits.
-- Assumes nothing.
use mathlib.Core.Path.{◌≡◌}
use native.Mathlib.Omega.{arith}
use lib.IntN.{ℤ}
use mir.Syntax.{w32, w64}
use mir.Val.{to_z, of_z, SFits}
use mir.ValLaws.{to_z-of_z}

wide : (z : ℤ) → SFits w32 z → SFits w64 z
wide z f = record { sfits = omega (arith, f.sfits) }

pub widened : (z : ℤ) → SFits w32 z → SFits w64 (to_z w32 (of_z w32 z))
widened z f = rw (to_z-of_z w32 z f) (wide z f)

-- what an argument is read back as, at 32 bits and then at 64
pub read_back : (z : ℤ) → SFits w32 z → to_z w64 (of_z w64 (to_z w32 (of_z w32 z))) ≡ z
read_back z f = rw (to_z-of_z w32 z f) (to_z-of_z w64 z (wide z f))
