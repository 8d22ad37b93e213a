-- The equation is that of `chain::chain`, and the definition keeps the promise.
use Rattle.certified.proofs.ChainLaws.{chain-certified}
use Rattle.certified.proofs.chain.Goals as goal

pub returns-clause-demands : goal.returns-clause-demands
returns-clause-demands c = chain-certified c.args.journal.now c.args.transaction.0 c.args.lsns.now c.chain.ensures.answer c.chain.ensures.lsns
