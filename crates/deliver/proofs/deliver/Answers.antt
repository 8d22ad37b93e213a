-- 14 decides; without it the copy, the table and the statuses are written.
use Rattle.std.proofs.Common.{refl, rules}
use Rattle.deliver.proofs.DeliveryLaws.{fates-status, delivers-capacity, delivers-done}
use Rattle.deliver.proofs.deliver.Goals as goal

pub returns-then-out-bytes : goal.returns-then-out-bytes
returns-then-out-bytes c =
    let d = delivers-capacity _ _ _ _ _ _ _ c.requires _ c.ranks-ranks.ensures _ _ c.at.ensures refl c.if-out-bytes.true in
    record { answer = d.0; table = d.1.0; status = d.1.1.0; out = d.1.1.1 }

pub returns : goal.returns
returns c =
    let u = c.totals.ensures in
    let d = delivers-done _ _ _ _ _ _ _ c.requires _ c.ranks-ranks.ensures _ _ c.at.ensures refl c.if-out-bytes.false (fates-status _ (search rules))
    c.totals.result _ _ _ u.0 u.1 u.2 u.3 c.replay.ensures c.publish.ensures c.copy.ensures in
    record { answer = d.0; table = d.1.0; status = d.1.1.0; out = d.1.1.1 }
