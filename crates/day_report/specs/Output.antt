-- What the program prints, of the bytes of its three files.
-- Document 01, "The program's day". Assumes nothing.
use Rattle.std.specs.Prelude.{List, ℕ, replicate}
use Rattle.format.specs.Limits.{status_bytes, max_journal_bytes}
use Rattle.journal.specs.Inputs.{inputs_of}
use Rattle.journal.specs.Calls.{UndoResult, undo}
use Rattle.decode.specs.Files.{amounts, transactions}
use Rattle.report.specs.Output.{lines_of}

-- take-back on the three files, with marks and paper of zeros; paper of 64,020 bytes holds any copy
unfoldable pub undo_files : List ℕ → List ℕ → List ℕ → UndoResult
undo_files journal table_file bad_file =
    undo (inputs_of journal (amounts table_file)) (transactions bad_file) (replicate status_bytes 0) (replicate max_journal_bytes 0)

-- what is printed
unfoldable pub report_of : List ℕ → List ℕ → List ℕ → List ℕ
report_of journal table_file bad_file = lines_of (inputs_of journal (amounts table_file)) (undo_files journal table_file bad_file)
