-- The active transactions, from the working arrays.
-- Assumes nothing.
use Rattle.std.specs.Prelude.{Bool, not, ◌&&◌, List, ℕ, eqb, get_or}

-- transaction s has a record and no end, as the working arrays have it
unfoldable pub active_in : List ℕ → List ℕ → ℕ → Bool
active_in ends firsts s = not (eqb (get_or firsts s 0) 0) && eqb (get_or ends s 0) 0
