-- After the last turn each transaction has its fate.
use Rattle.std.proofs.Common.{arith}
use Rattle.trace.proofs.CodesLaws.{fates-done}
use Rattle.trace.proofs.fates.Goals as goal

pub returns : goal.returns
returns c =
    fates-done _ _ c.loop-i.all c.loop-i.invariant.0 (λ k h. c.loop-i.invariant.1 k (omega arith))
