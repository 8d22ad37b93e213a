use Rattle.chain.proofs.Stages.{first-at, first-zero}
use Rattle.chain.proofs.first_of.Goals as goal

pub returns-then-first-eq0 : goal.returns-then-first-eq0
returns-then-first-eq0 c = search first-zero

pub returns-else-first-eq0 : goal.returns-else-first-eq0
returns-else-first-eq0 c = search first-at
