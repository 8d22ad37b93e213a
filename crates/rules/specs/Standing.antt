-- Standing amounts, from what one pass over the records keeps.
-- Assumes nothing.
use Rattle.std.specs.Prelude.{Bool, cond, not, ◌&&◌, ℕ, pos, eqb}
use Rattle.std.proofs.Math.Option.{Option, none, some}
use Rattle.lists.specs.Search.{any}
use Rattle.model.specs.History.{Op, History, Amount, tx_of, after_of, write_to, before_in, same_amount, standing}
use Rattle.arrays.specs.Recent.{end_code, base_write}

-- the standing amount, from the last write: the before image of that transaction's first write, if it aborted
abbrev pub standing_of : History → ℕ → Option Op → Amount → Amount
standing_of p x none d = d
standing_of p x (some w) d = cond (eqb (end_code p (tx_of w)) 2) (before_in (base_write p x) d) (after_of w d)

-- item x was written, and b is not its standing amount
unfoldable pub unlike_standing : History → ℕ → Amount → Bool
unlike_standing p x b = any (write_to x) p && not (same_amount b (standing (pos 0) p x))
