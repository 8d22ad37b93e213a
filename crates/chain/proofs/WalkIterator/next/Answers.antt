-- A walk takes one record, and goes on at its next.
use Rattle.std.proofs.Common.{sym, ap, length}
use native.Mathlib.Omega.{arith}
use borrow.Author.Tests.{eqb-true, eqb-false}
use Rattle.chain.proofs.Steps.{walk_end, walk_next, next_low}
use Rattle.chain.proofs.WalkIterator.next.Goals as goal

pub returns-then-eq-clause-steps : goal.returns-then-eq-clause-steps
returns-then-eq-clause-steps c =
    let e = walk_end c.args.self.now.journal.now _ _ (eqb-true _ 0 (sym c.if-eq.ensures)) in (e, e)

pub invariant_of-self : goal.invariant_of-self
invariant_of-self c =
    let w = c.args.self.now in
    record {
      ready = w.ready;
      low = rw c.next_at-self.ensures (next_low w.journal.now w.ready w.next.0 (eqb-false _ 0 (sym c.if-eq.ensures)) w.low);
    }

pub returns-clause-steps : goal.returns-clause-steps
returns-clause-steps c =
    let w = c.args.self.now in
    rw c.next_at-self.ensures (walk_next w.journal.now w.ready w.next.0 (eqb-false _ 0 (sym c.if-eq.ensures)) w.low)

pub returns-clause-goes : goal.returns-clause-goes
returns-clause-goes c =
    let w = c.args.self.now in
    let e = ap length (walk_next w.journal.now w.ready w.next.0 (eqb-false _ 0 (sym c.if-eq.ensures)) w.low) in
    record { on = λ f. (tt, tt, rw c.next_at-self.ensures (omega (arith, e))); keeps = tt; rests = λ f. tt }
