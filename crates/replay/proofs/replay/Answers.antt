-- The pass begins with no item marked.
use Rattle.replay.proofs.ReplayLaws.{left-done}
use Rattle.replay.proofs.replay.Goals as goal

pub returns : goal.returns
returns g c = left-done _ _ _ _ _ _ c.requires c.replay_records.ensures
