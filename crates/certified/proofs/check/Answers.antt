-- The equation is that of `validate::check`, and the definition keeps the promise.
use Rattle.journal.specs.Inputs.{inputs_of}
use Rattle.certified.proofs.CheckLaws.{check-certified}
use Rattle.certified.proofs.check.Goals as goal

pub returns-clause-demands : goal.returns-clause-demands
returns-clause-demands c = check-certified (inputs_of c.args.journal.now c.args.table.now) c.check.ensures
