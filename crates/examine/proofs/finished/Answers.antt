use mathlib.Core.Path.{◌∙◌}
use native.Mathlib.Omega.{arith}
use Rattle.journal.proofs.OrdersLaws.{tried-done}
use Rattle.settle.proofs.Final.{active-at}
use Rattle.examine.proofs.StagesLaws.{active-start, active-passed, active-refused}
use Rattle.examine.proofs.finished.Goals as goal

pub loop-s-init : goal.loop-s-init
loop-s-init c = search active-start

pub returns-then-is_active : goal.returns-then-is_active
returns-then-is_active c =
    let p = c.args.pass.now in
    let a = c.is_active.ensures ∙ active-at p.journal.bytes.now p.n c.loop-s.s p.kept.ends p.kept.firsts p.state.ended p.state.begun (omega arith) in
    search active-refused

pub loop-s-preserved : goal.loop-s-preserved
loop-s-preserved c =
    let p = c.args.pass.now in
    let a = c.is_active.ensures ∙ active-at p.journal.bytes.now p.n c.loop-s.s p.kept.ends p.kept.firsts p.state.ended p.state.begun (omega arith) in
    search active-passed

pub returns : goal.returns
returns c = search tried-done
