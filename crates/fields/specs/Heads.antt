-- What the answer of `header` says.
-- Assumes nothing.
use Rattle.fields.specs.declared.head.Journal.{Journal}
use Rattle.fields.specs.Answers.{Size}

abbrev pub size : Journal → Size
size j = record { records = j.records; items = j.items }
