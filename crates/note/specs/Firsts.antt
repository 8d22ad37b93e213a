-- A transaction's first record, put where it has none.
-- Assumes nothing.
use Rattle.std.specs.Prelude.{cond, List, ℕ, eqb, get_or, set}

-- l with i at s, if 0 stands there
unfoldable pub first_put : List ℕ → ℕ → ℕ → List ℕ
first_put l s i = cond (eqb (get_or l s 0) 0) (set l s i) l
