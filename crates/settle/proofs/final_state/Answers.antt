use Rattle.journal.proofs.OrdersLaws.{tried-done}
use Rattle.settle.proofs.Final.{settle-start, settle-more, settle-refused}
use Rattle.settle.proofs.final_state.Goals as goal

pub loop-x-init : goal.loop-x-init
loop-x-init c = search settle-start

pub returns-then-not-settled : goal.returns-then-not-settled
returns-then-not-settled c = search settle-refused

pub loop-x-preserved : goal.loop-x-preserved
loop-x-preserved c = search settle-more

pub returns : goal.returns
returns c = search tried-done
