-- The equation is that of `counts::count_records`, and the definition keeps the promise.
use Rattle.certified.proofs.CountLaws.{count-certified}
use Rattle.certified.proofs.count_records.Goals as goal

pub returns-clause-demands : goal.returns-clause-demands
returns-clause-demands c = count-certified c.args.journal.now c.count_records.ensures
