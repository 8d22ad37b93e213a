use Rattle.arrays.proofs.Start.{state-start, ready-start, not_blind-start}
use Rattle.arrays.proofs.pass.Pass.new.Goals as goal

pub invariant_of-result-clause-ready : goal.invariant_of-result-clause-ready
invariant_of-result-clause-ready c = ready-start c.args.journal.bytes.now c.args.journal.records c.args.journal.items c.args.journal.opened

pub invariant_of-result-clause-not_blind : goal.invariant_of-result-clause-not_blind
invariant_of-result-clause-not_blind c = not_blind-start c.args.journal.bytes.now

pub invariant_of-result-clause-state : goal.invariant_of-result-clause-state
invariant_of-result-clause-state c = state-start c.args.journal.bytes.now
