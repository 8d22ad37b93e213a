-- By the two cases of the answer.
use Rattle.lines.specs.AnswerLines.{lines}
use Rattle.lines.proofs.Report.put_lines.Goals as goal

pub put_reason-requires : goal.put_reason-requires
unfolding lines
put_reason-requires g c = rw c.in-Err.is at c.requires

pub returns-in-Err : goal.returns-in-Err
unfolding lines
returns-in-Err g c = rw c.in-Err.is c.put_reason.ensures
