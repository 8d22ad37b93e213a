-- The copy's record count, by its bytes.
-- Assumes nothing.
use Rattle.std.specs.Prelude.{ℕ, ◌-◌, ◌/◌}
use Rattle.format.specs.Limits.{record_bytes}
use Rattle.journal.specs.Calls.{UndoTotals}

-- the records of a copy of that many bytes: 20 a record, and one is the head
unfoldable pub records_in : UndoTotals → ℕ
records_in c = c.bytes / record_bytes - 1
