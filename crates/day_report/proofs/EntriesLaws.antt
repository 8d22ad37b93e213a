-- The report on the files, by their entries in arrays.
-- Assumes nothing.
use mathlib.Core.Path.{◌≡◌, sym, ◌∙◌}
use mathlib.Core.List.{List, map}
use Prim.Native.Nat.{ℕ, ◌/◌}
use lib.ListN.{length, take, replicate}
use lib.Seq.{take_at}
use Rattle.lists.specs.Tables.{store}
use Rattle.lists.proofs.TablesLaws.{store-front}
use Rattle.format.specs.Bytes.{entries, amount}
use Rattle.format.specs.Limits.{status_bytes, max_journal_bytes}
use Rattle.model.specs.History.{Amount}
use Rattle.journal.specs.Inputs.{inputs_of}
use Rattle.journal.specs.Calls.{undo}
use Rattle.decode.specs.Files.{amounts, transactions}
use Rattle.decode.proofs.FilesLaws.{length-numbers, numbers-amounts, numbers-transactions}
use Rattle.text.specs.Puts.{Put}
use Rattle.report.specs.Output.{lines_of}
use Rattle.report.specs.Certified.{Reports}
use Rattle.day_report.specs.Output.{undo_files, report_of}
use Rattle.day_report.specs.Certified.{ReportsFiles}

-- ---- a list at the front of a longer one

front : {A : Type 0} {v w m : List A} {n k : ℕ} (l : List A) → v ≡ w → length v ≡ k → n ≡ k → m ≡ store 0 v l → take n m ≡ w
front {v = v} {n = n} l o h e g = rw (g, store-front, ← o) (take_at v _ n (h ∙ sym e))

pub amounts-front : (file : List ℕ) (l : List Amount) {m : List Amount} {n : ℕ} → n ≡ length file / 4 → m ≡ store 0 (map amount (entries 4 file)) l → take n m ≡ amounts file
amounts-front file l e g = front l (numbers-amounts file) (length-numbers amount 4 file) e g

pub transactions-front : (file l : List ℕ) {m : List ℕ} {n : ℕ} → n ≡ length file / 2 → m ≡ store 0 (map (λ n. n) (entries 2 file)) l → take n m ≡ transactions file
transactions-front file l e g = front l (numbers-transactions file) (length-numbers (λ n. n) 2 file) e g

-- ---- the report on them, with marks and paper of zeros

pub report-printed : {journal : List ℕ} {old : List Amount} {bad marks paper l out : List ℕ} {end : ℕ}
    → (Put 0 (lines_of (inputs_of journal old) (undo (inputs_of journal old) bad marks paper)) l out end) × Reports (inputs_of journal old) bad marks paper (take end out)
    → (table_file bad_file : List ℕ) → old ≡ amounts table_file → bad ≡ transactions bad_file → marks ≡ replicate status_bytes 0 → paper ≡ replicate max_journal_bytes 0
    → (Put 0 (report_of journal table_file bad_file) l out end) × ReportsFiles journal table_file bad_file (take end out)
unfolding report_of undo_files
report-printed p table_file bad_file eo eb em ep = rw (eo, eb, em, ep) at p
