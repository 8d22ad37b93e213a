-- Refusals 12 and 13 from the ends of transactions, and the orders up to 11.
-- Assumes nothing.
use Rattle.std.specs.Prelude.{Bool, not, List, [], ◌∷◌, ℕ}
use Rattle.lists.specs.Tables.{coded}
use Rattle.journal.specs.Inputs.{Inputs}
use Rattle.journal.specs.Refusals.{still_active}
use Rattle.journal.specs.Orders.{Order, in_turn, open_order, table_order, records_order, active_order, known_order, status_order}
use Rattle.journal.specs.Orders.{check_order}

-- 12 from the ends: s names a transaction without a commit
unfoldable pub unknown_in : List ℕ → ℕ → Bool
unknown_in ends s = not (coded 1 ends s)

-- 13, then 12
unfoldable pub admit_order : List ℕ → List ℕ → List ℕ → Order
admit_order ends bad status = in_turn (status_order status ∷ known_order (unknown_in ends) bad ∷ [])

-- check's refusals, then 11
unfoldable pub examined_order : Inputs → Order
examined_order d = in_turn (check_order d ∷ active_order (still_active d.journal) ∷ [])

-- 4 to 9, then 11
unfoldable pub ended_order : List ℕ → Order
ended_order b = in_turn (records_order b ∷ active_order (still_active b) ∷ [])

-- the same as examined_order without 10
unfoldable pub unsettled_order : Inputs → Order
unsettled_order d = in_turn (open_order d.journal ∷ table_order d ∷ ended_order d.journal ∷ [])
