use Rattle.rules.proofs.RuleLaws.{read-conflict, read-passed}
use Rattle.rules.proofs.judge_read.Goals as goal

pub returns-then-writer : goal.returns-then-writer
returns-then-writer c = search read-conflict

pub returns-else-writer : goal.returns-else-writer
returns-else-writer c = search read-passed
