use borrow.Author.Rules.{rules}
use Rattle.settle.proofs.Final.{settled-by}
use Rattle.settle.proofs.settled.Goals as goal

pub returns : goal.returns
returns c = search (settled-by, rules)
