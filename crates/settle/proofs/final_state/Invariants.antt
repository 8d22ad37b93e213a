-- No item below x is refused, so what is left decides.
use Rattle.std.proofs.Common.{◌≡◌, ◌-◌, length}
use Rattle.journal.specs.Inputs.{inputs_of}
use Rattle.journal.specs.Orders.{try_each, settled_order, decide}
use Rattle.journal.specs.Refusals.{unsettled}
use Rattle.settle.proofs.final_state.Given as goal

abbrev pub invariant-loop-x : goal.invariant-loop-x
invariant-loop-x l =
    let b = l.amounts.writers.journal.now in
    decide (settled_order (inputs_of b l.table)) ≡ decide (try_each 10 (unsettled b l.table) l.x (length l.table - l.x))
