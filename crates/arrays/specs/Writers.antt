-- Who touched an item: its last writer, and one transaction more.
-- Assumes nothing.
use Rattle.std.specs.Prelude.{not, ◌&&◌, ◌||◌, List, ℕ, eqb, get_or}
use Rattle.model.specs.History.{History}
use Rattle.arrays.specs.declared.Touched.{Touched}
use Rattle.arrays.specs.Recent.{last_write, by_tx, by_other_active}

-- who wrote item x last, as transaction s asks: another active transaction, or s itself
unfoldable pub writer_of : History → ℕ → ℕ → Touched
writer_of p s x = record { other = by_other_active p s (last_write p x); own = by_tx (last_write p x) s }

-- those of f, and transaction v; `ends` has the end of each transaction
unfoldable pub looked : List ℕ → ℕ → ℕ → Touched → Touched
looked ends s v f = record { other = f.other || (not (eqb s v) && eqb (get_or ends v 0) 0); own = f.own || eqb s v }
