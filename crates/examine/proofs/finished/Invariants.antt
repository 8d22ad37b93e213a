-- No transaction below s is active, so what is left decides.
use Rattle.std.proofs.Common.{◌≡◌, ◌-◌}
use Rattle.model.specs.History.{active}
use Rattle.journal.specs.Journal.{history}
use Rattle.journal.specs.Orders.{try_each, active_order, decide}
use Rattle.examine.proofs.finished.Given as goal

abbrev pub invariant-loop-s : goal.invariant-loop-s
invariant-loop-s l =
    let p = history l.pass.journal.bytes.now l.pass.n in
    decide (active_order (active p)) ≡ decide (try_each 11 (active p) l.s (1025 - l.s))
