-- One transaction more of the list a turn.
use Rattle.std.proofs.Common.{◌∙◌}
use Rattle.trace.proofs.CodesLaws.{listed_start, listed-step}
use Rattle.trace.proofs.listed.Goals as goal

pub loop-s-init : goal.loop-s-init
loop-s-init c = listed_start c.args.bad.now

pub loop-s-preserved : goal.loop-s-preserved
loop-s-preserved c = c.put.ensures ∙ rw c.loop-s.invariant (listed-step c.args.bad.now c.loop-s.s-index c.loop-s-test.true)
