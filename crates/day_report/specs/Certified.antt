-- What the report on three files promises.
-- Document 01, "The program's day". Assumes nothing.
use Rattle.std.specs.Prelude.{List, ℕ, take, replicate, Option, Some, None}
use Rattle.format.specs.Limits.{status_bytes, max_journal_bytes}
use Rattle.journal.specs.Inputs.{inputs_of}
use Rattle.decode.specs.Files.{read_part, amounts, transactions}
use Rattle.report.specs.Certified.{Reports}

-- the text reports a take-back on the three files, with marks and paper of zeros
abbrev pub ReportsFiles : (journal table bad text : List ℕ) → Type 0
ReportsFiles journal table bad text =
    Reports (inputs_of journal (amounts table)) (transactions bad) (replicate status_bytes 0) (replicate max_journal_bytes 0) text

-- what stands in the buffer reports what is read of the files
abbrev pub PrintsPromise : (journal table bad out : List ℕ) → Option ℕ → Type 0
PrintsPromise journal table bad out (Some n) = ReportsFiles (read_part journal) (read_part table) (read_part bad) (take n out)
PrintsPromise journal table bad out None = Unit {0}
