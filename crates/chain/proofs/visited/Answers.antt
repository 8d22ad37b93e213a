-- A walk visits as many records as come from it, at most as many as the journal has.
use mathlib.Core.Logic.{inl}
use native.Mathlib.Omega.{arith}
use Rattle.journal.specs.Journal.{count}
use Rattle.chain.proofs.Steps.{length-walk}
use Rattle.chain.proofs.visited.Goals as goal

pub count-requires-clause-fits : goal.count-requires-clause-fits
count-requires-clause-fits c =
    let w = c.args.walk in
    let h = length-walk w.journal.now (count w.journal.now) w.next.0 in
    inl (omega (arith, w.ready.few))

pub returns-clause-bound : goal.returns-clause-bound
returns-clause-bound c =
    let w = c.args.walk in
    let h = length-walk w.journal.now (count w.journal.now) w.next.0 in
    omega (arith, w.ready.few, c.count.ensures.bound)
