-- The files' entries stand at the front of the arrays that take-back is lent.
use Rattle.std.proofs.Common.{refl}
use Rattle.report.proofs.ReportLaws.{length-put}
use Rattle.day_report.proofs.EntriesLaws.{amounts-front, transactions-front, report-printed}
use Rattle.day_report.proofs.report.Goals as goal

pub returns : goal.returns
returns c =
    let r = c.report_on.ensures in
    let old = amounts-front c.args.table.now _ c.read_all-items.ensures.count c.read_all-items.ensures.values in
    let bad = transactions-front c.args.bad.now _ c.read_all-count.ensures.count c.read_all-count.ensures.values in
    let printed = report-printed (r.text, r.demands) c.args.table.now c.args.bad.now old bad refl refl in
    record { size = length-put r.text r.demands; text = printed.0; demands = printed.1 }
