use borrow.Author.Rules.{rules}
use Rattle.rules.proofs.RuleLaws.{write-conflict, write-blind, write-right}
use Rattle.rules.proofs.judge_write.Goals as goal

pub returns-then-touched : goal.returns-then-touched
returns-then-touched c = λ d a. search (write-conflict, rules)

pub returns-then-touched-2 : goal.returns-then-touched-2
returns-then-touched-2 c = λ d a. search (write-right, rules)

pub returns-else-touched-2 : goal.returns-else-touched-2
returns-else-touched-2 c = λ d a. search (write-blind, rules)
