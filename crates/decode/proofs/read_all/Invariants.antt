use Rattle.std.proofs.Common.{◌≡◌, ℕ, ◌<◌, get_or}
use Rattle.format.specs.Bytes.{entry}
use Rattle.decode.proofs.read_all.Given as goal

-- the first i numbers stand in their places
abbrev pub invariant-loop-i : goal.invariant-loop-i
invariant-loop-i g l = (d : _) (k : ℕ) → k < l.i → get_or l.x-items k d ≡ g.T.Wire.of_bits (entry g.T.Wire.WIDTH l.file k)
