-- The net change of the journal that a buffer holds.
-- Assumes nothing.
use Rattle.std.specs.Prelude.{List, ℕ, pos}
use Rattle.std.proofs.Math.Option.{Option, none, some}
use Rattle.model.specs.History.{Amount}
use Rattle.model.specs.Net.{net_change}
use Rattle.journal.specs.Journal.{whole}
use Rattle.journal.specs.Orders.{Refusal, decide, open_order}

-- an amount where nothing is refused, else 0
abbrev pub unless_refused : Option Refusal → Amount → Amount
unless_refused none v = v
unless_refused (some r) v = pos 0

-- that of the records which its head counts; 0 where the head is refused (1, 2, and 1 for the whole length)
unfoldable pub net_in : List ℕ → Amount
net_in b = unless_refused (decide (open_order b)) (net_change (whole b))
