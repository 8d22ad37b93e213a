-- Those found so far, with the readers from read k on, are those asked for.
use Rattle.rules.proofs.ReadersLaws.{Walked}
use Rattle.rules.proofs.readers.Given as goal

abbrev pub invariant-loop-k : goal.invariant-loop-k
invariant-loop-k l = Walked l.journal l.touches.writers.n l.s.0 l.fn.x.0 l.fn.found l.k.0 l.all

abbrev pub decreases-loop-k : goal.decreases-loop-k
decreases-loop-k l = l.k.0
