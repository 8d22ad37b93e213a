-- What is printed of a take-back.
-- Document 01, "The program's day". Assumes nothing.
use Rattle.std.specs.Prelude.{List, ℕ}
use Rattle.journal.specs.Inputs.{Inputs}
use Rattle.journal.specs.Journal.{count}
use Rattle.journal.specs.Calls.{UndoResult}
use Rattle.demands.specs.Undoing.{copy_in}
use Rattle.demands.specs.Requests.{sum_left}
use Rattle.text.specs.Decimal.{decimal_z}
use Rattle.lines.specs.AnswerLines.{lines}

-- the report on a journal and the table before, by what take-back left; the copy stands at the front of the paper
unfoldable pub lines_of : Inputs → UndoResult → List ℕ
lines_of d r =
    lines (count d.journal) (λ c. count (copy_in r c)) (λ c. decimal_z (sum_left r c)) d.table r.table r.status r.answer

-- the room that a report is given
abbrev pub report_bytes : ℕ
report_bytes = 100000
