use borrow.Author.Rules.{rules}
use Rattle.rules.proofs.RuleLaws.{unlike-unwritten, unlike-written}
use Rattle.rules.proofs.matches_standing.Goals as goal

pub returns-then-amounts-index-eq0 : goal.returns-then-amounts-index-eq0
returns-then-amounts-index-eq0 c = search (unlike-unwritten, rules)

pub returns-else-amounts-index-eq0 : goal.returns-else-amounts-index-eq0
returns-else-amounts-index-eq0 c = search (unlike-written, rules)
