-- What the totals of a take-back are in document 01's terms.
-- Assumes nothing.
use Rattle.journal.specs.Results as results
use Rattle.deliver.specs.declared.UndoTotals.{UndoTotals}

-- surviving (01: kept), undone (taken back), aborted (dropped), and the copy's bytes
abbrev pub totals_of : UndoTotals → results.UndoTotals
totals_of c = record { surviving = c.surviving; undone = c.undone; aborted = c.aborted; bytes = c.bytes }
