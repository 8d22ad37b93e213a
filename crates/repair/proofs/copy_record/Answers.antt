-- The record is stored at the place of its rank, or nothing is.
use Rattle.std.proofs.Common.{sym, ◌∙◌, rules}
use Rattle.repair.proofs.CopyLaws.{copy-idle, copy-moved}
use Rattle.repair.proofs.copy_record.Goals as goal

pub returns-then-survives : goal.returns-then-survives
returns-then-survives g c =
    copy-moved _ _ _ _ _ _ c.at-r.ensures _ _ _ (sym c.survives.ensures ∙ c.if-survives.true) c.at.ensures c.at-then-survives.ensures (search rules) (search rules) c.put_record.ensures

pub returns-else-survives : goal.returns-else-survives
returns-else-survives g c = copy-idle _ _ _ _ _ _ c.at-r.ensures (sym c.survives.ensures ∙ c.if-survives.false)
