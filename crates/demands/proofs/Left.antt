-- Take-back's copy with the table left, of a journal and table that pass: the copy that keeps the surviving transactions.
-- Assumes nothing.
use mathlib.Core.Path.{◌≡◌, sym, ◌∙◌}
use mathlib.Core.Bool.{Bool, true}
use mathlib.Core.List.{List}
use Prim.Native.Nat.{ℕ, ◌<◌}
use lib.ListN.{length}
use borrow.Author.Tests.{not-false}
use Rattle.lists.specs.Search.{any}
use Rattle.lists.proofs.BoolLaws.{by_cases, and_left}
use Rattle.lists.proofs.SearchLaws.{first-none}
use Rattle.format.specs.Bytes.{Bytes}
use Rattle.model.specs.History.{of_tx, write_to, committed, ended}
use Rattle.model.specs.Undo.{is_source, surviving, repaired}
use Rattle.model.proofs.ReadsFromLaws.{is_source-test}
use Rattle.model.proofs.Legal.{stand, Legal}
use Rattle.model.proofs.Repair.{survivors-legal, no_blind-fed, stand-unwritten}
use Rattle.model.proofs.Amounts.{same-eq}
use Rattle.model.proofs.Opening.{standing-legal}
use Rattle.journal.specs.Inputs.{Inputs, handed_on}
use Rattle.journal.specs.Journal.{count, items, records, whole, amount_at}
use Rattle.journal.specs.Refusals.{unsettled}
use Rattle.journal.specs.Copy.{copy_records, copy}
use Rattle.journal.specs.Calls.{opening_at, opening_table, table_left}
use Rattle.journal.proofs.Checked.{Checks}
use Rattle.journal.proofs.Passing.{no_blind-whole}
use Rattle.demands.proofs.Surviving.{Keeps, surviving-count, surviving-items, surviving-bytes, surviving-records, surviving-whole, table_surviving-length, table_surviving-amount, surviving-checks, surviving-opening, surviving-opening_table, surviving-ended}
pub use Rattle.demands.proofs.Surviving.{legal-day}

-- the copy and the table left, as the next call gets them
abbrev pub repaired_inputs : List ℕ → Inputs → Inputs
repaired_inputs bad d = handed_on (copy bad d.journal) (table_left bad d) d

module _ (d : Inputs) (bytes : Bytes d.journal) (ok : Checks d) (bad : List ℕ) where
  abbrev b : List ℕ
  b = d.journal

  -- the transactions it keeps
  abbrev k : ℕ → Bool
  k = surviving is_source bad (whole b)

  keeps : Keeps d k
  keeps =
      record {
        commits = λ s h. and_left (committed (whole b) s) _ h;
        legal = survivors-legal is_source is_source-test (opening_at d) bad (whole b) (legal-day d bytes ok) (no_blind-fed is_source is_source-test (opening_at d) bad (whole b) (legal-day d bytes ok) (no_blind-whole b ok.sound));
      }

  -- ---- the copy

  pub copy-count : count (copy bad b) ≡ length (copy_records bad b)
  unfolding copy copy_records
  copy-count = surviving-count d bytes ok k keeps

  pub copy-items : items (copy bad b) ≡ items b
  unfolding copy
  copy-items = surviving-items d bytes ok k keeps

  pub copy-bytes : Bytes (copy bad b)
  unfolding copy
  copy-bytes = surviving-bytes d bytes ok k keeps

  pub copy-records : records (copy bad b) (count (copy bad b)) ≡ copy_records bad b
  unfolding copy copy_records
  copy-records = surviving-records d bytes ok k keeps

  -- its history is the kept records, renumbered
  pub copy-whole : whole (copy bad b) ≡ repaired is_source bad (whole b)
  unfolding copy
  copy-whole = surviving-whole d bytes ok k keeps

  -- every transaction of the copy has an end there
  pub copy_ended : (s : ℕ) → any (of_tx s) (whole (copy bad b)) ≡ true → ended (whole (copy bad b)) s ≡ true
  unfolding copy
  copy_ended = surviving-ended d bytes ok k keeps

  -- ---- the table left

  pub left-length : length (table_left bad d) ≡ length d.table
  unfolding table_left
  left-length = table_surviving-length d bytes ok k keeps

  -- item by item it is what the copy leaves of the opening amount
  pub left-amount : (x : ℕ) → x < length d.table → amount_at (table_left bad d) x ≡ stand (opening_at d) (whole (copy bad b)) x
  unfolding copy table_left
  left-amount = table_surviving-amount d bytes ok k keeps

  -- ---- the two together

  -- check refuses nothing of the copy with the table left
  pub copy-checks : Checks (repaired_inputs bad d)
  unfolding copy table_left
  copy-checks = surviving-checks d bytes ok k keeps

  -- the opening amounts are the same
  pub copy-opening : (x : ℕ) → x < length d.table → opening_at (repaired_inputs bad d) x ≡ opening_at d x
  unfolding copy table_left
  copy-opening = surviving-opening d bytes ok k keeps

  pub copy-opening_table : opening_table (repaired_inputs bad d) ≡ opening_table d
  unfolding copy table_left
  copy-opening_table = surviving-opening_table d bytes ok k keeps

-- ---- the table is the standing amounts at the end

pub table-stands : (d : Inputs) → Checks d → Legal (opening_at d) (whole d.journal) → (x : ℕ) → x < items d.journal
    → stand (opening_at d) (whole d.journal) x ≡ amount_at d.table x
unfolding unsettled opening_at
table-stands d k l x h =
    let j = whole d.journal in
    by_cases (any (write_to x) j)
    (λ w. sym (standing-legal (opening_at d) (amount_at d.table x) j x w) ∙ same-eq _ _ (not-false _ (rw w at (k.settled x h))))
    (λ n. stand-unwritten (opening_at d) x j n ∙ rw (first-none (write_to x) j n))
