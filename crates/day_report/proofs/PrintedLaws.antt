-- The report on what is read of the files.
-- Assumes nothing.
use mathlib.Core.Path.{◌≡◌}
use mathlib.Core.List.{List}
use Prim.Native.Nat.{ℕ}
use Rattle.decode.specs.Files.{read_part}
use Rattle.text.specs.Puts.{Put}
use Rattle.day_report.specs.Output.{report_of}
use Rattle.day_report.specs.Printed.{files_report}
use Rattle.day_report.specs.Certified.{ReportsFiles}

-- the report on the parts that are read
module _ (journal table bad : List ℕ) {j t b : List ℕ} (ej : j ≡ read_part journal) (et : t ≡ read_part table) (eb : b ≡ read_part bad) where
  pub files_report-put : {l out : List ℕ} {end : ℕ} → Put 0 (report_of j t b) l out end → Put 0 (files_report journal table bad) l out end
  unfolding files_report
  files_report-put p = rw (ej, et, eb) at p

  pub files_report-reports : {text : List ℕ} → ReportsFiles j t b text → ReportsFiles (read_part journal) (read_part table) (read_part bad) text
  files_report-reports r = rw (ej, et, eb) at r
