-- The report on the parts of the files that are read.
use Rattle.std.proofs.Common.{arith}
use Rattle.day_report.proofs.PrintedLaws.{files_report-put, files_report-reports}
use Rattle.day_report.proofs.report_files.Goals as goal

pub returns-clause-text : goal.returns-clause-text
returns-clause-text c = (omega arith, files_report-put _ _ _ c.read_of-j.ensures.2 c.read_of-t.ensures.2 c.read_of-b.ensures.2 c.report-n.ensures.text)

pub returns-clause-demands : goal.returns-clause-demands
returns-clause-demands c = files_report-reports _ _ _ c.read_of-j.ensures.2 c.read_of-t.ensures.2 c.read_of-b.ensures.2 c.report-n.ensures.demands
