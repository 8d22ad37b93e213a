-- The equation is that of `init::start`, and the definition keeps the promise.
use Rattle.certified.proofs.StartLaws.{start-certified}
use Rattle.certified.proofs.start.Goals as goal

pub returns-clause-demands : goal.returns-clause-demands
returns-clause-demands c = start-certified c.args.journal.now c.args.items c.start.ensures.answer c.start.ensures.journal
