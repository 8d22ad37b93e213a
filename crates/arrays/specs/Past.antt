-- The records behind what is kept of them.
-- Assumes nothing.
use Rattle.model.specs.History.{History}
use Rattle.journal.specs.Journal.{history}
use Rattle.arrays.specs.declared.kept.Writers.{Writers}

abbrev pub past : Writers → History
past w = history w.journal.now w.n
