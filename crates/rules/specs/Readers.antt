-- Who has read an item since its last write.
-- Assumes nothing.
use Rattle.std.specs.Prelude.{Bool, ◌||◌, ℕ}
use Rattle.lists.specs.Search.{any}
use Rattle.model.specs.History.{History, tx_of, of_tx}
use Rattle.arrays.specs.declared.Touched.{Touched}
use Rattle.arrays.specs.Recent.{other_active, reads_since}

-- whether a read of item x since its last write is of another active transaction than s
abbrev pub read_by_other : History → ℕ → ℕ → Bool
read_by_other p s x = any (λ r. other_active p s (tx_of r)) (reads_since x p)

-- those of f, and who has read item x since its last write
unfoldable pub readers_of : History → ℕ → ℕ → Touched → Touched
readers_of p s x f = record { other = f.other || read_by_other p s x; own = f.own || any (of_tx s) (reads_since x p) }
