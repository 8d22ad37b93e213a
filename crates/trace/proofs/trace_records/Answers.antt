-- After i records sources and flags are what they leave.
use Rattle.lists.proofs.TablesLaws.{stepped_start, stepped-turn}
use Rattle.trace.proofs.trace_records.Goals as goal

pub loop-i-init : goal.loop-i-init
loop-i-init g c = stepped_start _ _

pub loop-i-preserved : goal.loop-i-preserved
loop-i-preserved g c = stepped-turn _ _ _ _ _ c.loop-i.invariant c.trace_record.ensures
