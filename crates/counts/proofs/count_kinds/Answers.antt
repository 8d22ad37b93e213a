-- The counts of one record more.
use Rattle.std.proofs.Common.{arith}
use Rattle.counts.proofs.KindCounts.{few, counting-start, counting-step}
use Rattle.counts.proofs.count_kinds.Goals as goal

pub loop-i-init : goal.loop-i-init
loop-i-init c = search counting-start

pub raise-requires : goal.raise-requires
raise-requires c = few _ _ _ (omega arith) c.loop-i.invariant

pub loop-i-preserved : goal.loop-i-preserved
loop-i-preserved c = search counting-step
