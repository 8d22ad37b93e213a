use Rattle.validate.proofs.Whole.{table_refused, records_decide}
use Rattle.validate.proofs.verify_records.Goals as goal

pub returns-then-table-pass-clause-answer : goal.returns-then-table-pass-clause-answer
returns-then-table-pass-clause-answer c = search table_refused

pub returns-clause-answer : goal.returns-clause-answer
returns-clause-answer c = search records_decide
