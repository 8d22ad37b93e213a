-- The net change of a journal, by what its head says.
-- Assumes nothing.
use mathlib.Core.Path.{◌≡◌}
use mathlib.Core.List.{List}
use mathlib.Core.Option.{none}
use Prim.Native.Nat.{ℕ}
use Rattle.model.specs.Net.{net_change}
use Rattle.journal.specs.Journal.{whole}
use Rattle.journal.specs.Orders.{decide, open_order}
use Rattle.net.specs.Held.{net_in}

pub net_in-opened : (b : List ℕ) → decide (open_order b) ≡ none → net_in b ≡ net_change (whole b)
unfolding net_in
net_in-opened b e = rw e
