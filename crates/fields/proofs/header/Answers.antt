-- `fields::header` meets its contract.
use Rattle.fields.proofs.Fields.{read-size, open-short, read-truncated, read_head}
use Rattle.fields.proofs.HeadLaws.{read-opened}
use Rattle.fields.proofs.header.Goals as goal

pub returns-then-journal-lt-RECORD_BYTES-clause-answer : goal.returns-then-journal-lt-RECORD_BYTES-clause-answer
returns-then-journal-lt-RECORD_BYTES-clause-answer c = search open-short

pub returns-then-not-head_right-clause-answer : goal.returns-then-not-head_right-clause-answer
returns-then-not-head_right-clause-answer c = search read_head

pub returns-then-journal-size-clause-answer : goal.returns-then-journal-size-clause-answer
returns-then-journal-size-clause-answer c = search read-truncated

pub invariant_of-result : goal.invariant_of-result
invariant_of-result c = record { opened = search read-opened }

pub returns-clause-answer : goal.returns-clause-answer
returns-clause-answer c = search read-size
