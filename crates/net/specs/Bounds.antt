-- How far one write moves an amount of 32 bits at most: from the lowest to the highest.
-- Assumes nothing.
use Rattle.std.specs.Prelude.{ℕ}

abbrev pub max_difference : ℕ
max_difference = 4294967295
