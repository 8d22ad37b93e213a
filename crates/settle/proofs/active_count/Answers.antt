use native.Mathlib.Omega.{arith}
use Rattle.lists.proofs.TablesLaws.{count-start, count-step, count-few, count-done}
use Rattle.settle.proofs.active_count.Goals as goal

pub loop-s-init : goal.loop-s-init
loop-s-init g c = search count-start

pub overflow_add-count : goal.overflow_add-count
overflow_add-count g c =
    let b = count-few _ _ _ c.loop-s.auto.s c.loop-s.invariant _ _ c.from-count.ensures in
    omega arith

pub loop-s-preserved : goal.loop-s-preserved
loop-s-preserved g c = search count-step

pub returns : goal.returns
returns g c = count-done _ _ _ (omega arith) (omega arith) c.loop-s.invariant
