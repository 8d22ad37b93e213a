use Rattle.scan.proofs.Chain.{back_start, back-start-low, back_step}
use Rattle.scan.proofs.broken_link.Goals as goal

pub loop-j-init : goal.loop-j-init
loop-j-init c = record { slots = search back_start; low = search back-start-low }

pub loop-j-preserved : goal.loop-j-preserved
loop-j-preserved c = let t = c.loop-j-test.true in let a = c.loop-j.auto.j in record { slots = search; low = search back_step }
