-- What is decided of the new record after check.
-- Assumes nothing.
use Rattle.std.specs.Prelude.{List, [], ◌∷◌, ℕ}
use Rattle.format.specs.declared.Record.{Record}
use Rattle.journal.specs.Refusals.{RecordCounts}
use Rattle.journal.specs.Orders.{Order, in_turn, counts_order, new_order}

-- append after check: 15, then the new record
unfoldable pub entry_order : List ℕ → RecordCounts → Record → Order
entry_order b c r = in_turn (counts_order b c ∷ new_order b r ∷ [])
