-- The order of check after the head.
-- Assumes nothing.
use Rattle.std.specs.Prelude.{[], ◌∷◌}
use Rattle.journal.specs.Inputs.{Inputs}
use Rattle.journal.specs.Orders.{Order, in_turn, table_order, records_order, settled_order}

-- 3, then 4 to 9
unfoldable pub tabled_order : Inputs → Order
tabled_order d = in_turn (table_order d ∷ records_order d.journal ∷ [])

-- 3, then 4 to 9, then 10
unfoldable pub verified_order : Inputs → Order
verified_order d = in_turn (table_order d ∷ records_order d.journal ∷ settled_order d ∷ [])
