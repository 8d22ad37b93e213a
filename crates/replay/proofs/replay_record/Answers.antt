-- One record, by its kind.
use Rattle.std.proofs.Common.{rules}
use Rattle.replay.specs.Replaying.{replay_step}
use Rattle.replay.proofs.ReplayLaws.{step-write, step-other}
use Rattle.replay.proofs.replay_record.Goals as goal

pub returns-in-Ok-Write : goal.returns-in-Ok-Write
unfolding replay_step
returns-in-Ok-Write g c =
    rw (← c.at-r.ensures, c.put.ensures, c.marked.ensures, c.replay_write.ensures) (step-write _ _ _ c.args.i.0 c.at-r.result _ _ _ (search rules))

pub returns : goal.returns
unfolding replay_step
returns g c = rw (← c.at-r.ensures) (step-other _ _ _ c.args.i.0 c.at-r.result _ _ _ (search rules))

pub returns-2 : goal.returns-2
unfolding replay_step
returns-2 g c = rw (← c.at-r.ensures) (step-other _ _ _ c.args.i.0 c.at-r.result _ _ _ (search rules))
