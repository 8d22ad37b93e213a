-- The pass begins with the flags of the list and no source, and the fates are the statuses.
use Rattle.trace.proofs.TraceLaws.{trace-done}
use Rattle.trace.proofs.UndoSet.{fates-statuses}
use Rattle.trace.proofs.classify.Goals as goal

pub returns : goal.returns
returns c =
    fates-statuses _ _ c.requires.ready _ c.requires.ended _ _ _ (trace-done _ _ _ _ _ _ _ c.requires.ready c.listed-flags.ensures c.trace_records.ensures) c.fates.ensures
