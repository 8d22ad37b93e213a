-- What printing a report into a buffer answers and leaves, for files and a buffer of any length.
-- Document 01, "The program's day". Assumes nothing.
use Rattle.std.specs.Prelude.{◌≡◌, List, ℕ, ◌≤◌, ◌<◌, length, Option, Some, None}
use Rattle.decode.specs.Files.{read_part}
use Rattle.text.specs.Puts.{Put}
use Rattle.report.specs.Output.{report_bytes}
use Rattle.day_report.specs.Output.{report_of}

-- the report on what is read of the three files
unfoldable pub files_report : List ℕ → List ℕ → List ℕ → List ℕ
files_report journal table bad = report_of (read_part journal) (read_part table) (read_part bad)

-- of a buffer l: the report's length, and the report at the front of it; none in under 100,000 bytes, and nothing is written
abbrev pub Prints : List ℕ → List ℕ → List ℕ → (l out : List ℕ) → Option ℕ → Type 0
Prints journal table bad l out (Some n) = (report_bytes ≤ length l) × Put 0 (files_report journal table bad) l out n
Prints journal table bad l out None = (length l < report_bytes) × (out ≡ l)

-- the report lies within the buffer
abbrev pub Within : List ℕ → Option ℕ → Type 0
Within out (Some n) = n ≤ length out
Within out None = Unit {0}
