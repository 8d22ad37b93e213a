-- Each position below k names a committed transaction, so what is left decides.
use Rattle.std.proofs.Common.{◌≡◌, ◌-◌, length, map}
use Rattle.journal.specs.Orders.{try_each, known_order, decide}
use Rattle.examine.specs.Stages.{unknown_in}
use Rattle.examine.proofs.StagesLaws.{unknown_at}
use Rattle.examine.proofs.known.Given as goal

abbrev pub invariant-loop-k : goal.invariant-loop-k
invariant-loop-k g l = decide (known_order (unknown_in (map g.E.Code.code l.ends)) l.bad) ≡ decide (try_each 12 (unknown_at (map g.E.Code.code l.ends) l.bad) l.k (length l.bad - l.k))
