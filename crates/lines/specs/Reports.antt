-- What a report is made of, and its lines by take-back's answer.
-- Assumes nothing.
use Rattle.std.specs.Prelude.{List, ℕ}
use Rattle.journal.specs.Calls.{Answer, UndoTotals}
use Rattle.lines.specs.declared.Report.{Report}
use Rattle.lines.specs.AnswerLines.{lines}
use Rattle.lines.specs.Counting.{records_in}

-- the copy's record count is by its bytes, its net change the report's sum, which has these digits
abbrev pub report_lines : {S : Type 0} → (S → List ℕ) → Report S → Answer UndoTotals → List ℕ
report_lines digits r = lines r.records records_in (λ c. digits r.sum) r.old.now r.new.now r.status.now
