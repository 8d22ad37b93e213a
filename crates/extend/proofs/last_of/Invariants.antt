-- What is not found behind record k is the last among the first k.
use Rattle.std.proofs.Common.{◌≡◌}
use Rattle.lists.specs.Search.{latest}
use Rattle.model.specs.History.{of_tx}
use Rattle.journal.specs.Journal.{history}
use Rattle.extend.proofs.last_of.Given as goal

abbrev pub invariant-loop-k : goal.invariant-loop-k
invariant-loop-k l = latest (of_tx l.s.0) (history l.journal l.n) ≡ latest (of_tx l.s.0) (history l.journal l.k)
