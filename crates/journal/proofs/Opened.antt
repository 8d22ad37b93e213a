-- The orders of all calls, opened at once for a computed instance: `unfolding orders` opens what its own line names.
-- Assumes nothing.
use Rattle.journal.specs.Orders.{try, try_each, in_turn, decide, open_order, table_order, access_order, rule_order, record_order, records_order, settled_order, active_order, known_order, present_order, status_order, capacity_order, counts_order, new_order, check_order, start_order, chain_order, append_order, undo_order}

unfoldable pub orders : Unit {0}
unfolding try try_each in_turn decide open_order table_order access_order rule_order record_order records_order settled_order active_order known_order present_order status_order capacity_order counts_order new_order check_order start_order chain_order append_order undo_order
orders = tt
