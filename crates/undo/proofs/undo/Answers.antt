-- 1 to 11 decide before the rest.
use Rattle.undo.proofs.ResultLaws.{result-head}
use Rattle.undo.proofs.undo.Goals as goal

pub returns-in-Err-clause-answer : goal.returns-in-Err-clause-answer
returns-in-Err-clause-answer c = (result-head _ c.args.bad.now c.args.status.now c.args.out.now _ (rw c.in-Err.is at c.examine.ensures.answer)).0

pub returns-in-Err-clause-table : goal.returns-in-Err-clause-table
returns-in-Err-clause-table c = (result-head _ c.args.bad.now c.args.status.now c.args.out.now _ (rw c.in-Err.is at c.examine.ensures.answer)).1.0

pub returns-in-Err-clause-status : goal.returns-in-Err-clause-status
returns-in-Err-clause-status c = (result-head _ c.args.bad.now c.args.status.now c.args.out.now _ (rw c.in-Err.is at c.examine.ensures.answer)).1.1.0

pub returns-in-Err-clause-out : goal.returns-in-Err-clause-out
returns-in-Err-clause-out c = (result-head _ c.args.bad.now c.args.status.now c.args.out.now _ (rw c.in-Err.is at c.examine.ensures.answer)).1.1.1
