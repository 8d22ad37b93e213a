-- After i records it has written what they write.
use Rattle.std.proofs.Common.{refl, ◌∙◌}
use Rattle.lists.proofs.TablesLaws.{stepped_start, stepped-turn}
use Rattle.repair.proofs.CopyLaws.{copy-room}
use Rattle.repair.proofs.copy_records.Goals as goal

pub loop-i-init : goal.loop-i-init
loop-i-init g c = (stepped_start _ _, refl)

pub copy_record-requires-clause-room : goal.copy_record-requires-clause-room
copy_record-requires-clause-room g c = copy-room _ _ _ _ _ _ _ c.requires.ranked c.loop-i-test.true c.requires.room c.loop-i.invariant.1

pub loop-i-preserved : goal.loop-i-preserved
loop-i-preserved g c =
    (stepped-turn _ _ _ _ _ c.loop-i.invariant.0 c.copy_record.ensures, c.copy_record.auto.out ∙ c.loop-i.invariant.1)
