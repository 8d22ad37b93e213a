-- The bytes of journals written: a head, records in order, and the copy.
-- Document 01, "The rules of taking back". Assumes nothing.
use Rattle.std.specs.Prelude.{Bool, cond, List, [], ◌∷◌, ◌++◌, ℕ, suc, length}
use Rattle.format.specs.declared.Record.{Record}
use Rattle.format.specs.Layout.{bytes_of}
pub use Rattle.format.specs.Layout.{head_with}
use Rattle.model.specs.History.{History, next_in}
use Rattle.model.specs.Undo.{is_source, surviving, only, renumber}
use Rattle.journal.specs.Journal.{count, items, tx_in, records, whole}

-- the record with another next, all other fields unchanged
abbrev pub linked_to : ℕ → Record → Record
linked_to n r =
    record {
      kind = r.kind;
      reserved = r.reserved;
      transaction = r.transaction;
      next = record { 0 = n };
      item = r.item;
      before = r.before;
      after = r.after;
    }

-- the bytes of records, which come newest first
unfoldable pub encoded : List Record → List ℕ
encoded [] = []
encoded (r ∷ rs) = encoded rs ++ bytes_of r

-- how a kept record stands in the copy, its next aside, by the records that stand before it there
abbrev pub CopyRule : Type 0
CopyRule = List Record → Record → Record

-- 01: all other fields unchanged
abbrev pub unchanged : CopyRule
unchanged rest r = r

-- the records of the transactions of k, newest first, each by the rule φ, with next worked out again in the history h that they
-- make
unfoldable pub copied_by : CopyRule → (ℕ → Bool) → History → List Record → List Record
copied_by φ k h [] = []
copied_by φ k h (r ∷ rs) =
    let rest : List Record = copied_by φ k h rs in
    cond (k (tx_in r)) (linked_to (next_in h (suc (length rest)) (tx_in r)) (φ rest r) ∷ rest) rest

abbrev pub copied : (ℕ → Bool) → History → List Record → List Record
copied k h rs = copied_by unchanged k h rs

-- the bytes of the journal of m items with these records
unfoldable pub journal_of : ℕ → List Record → List ℕ
journal_of m rs = bytes_of (head_with (length rs) m) ++ encoded rs

-- ---- the copy that keeps the transactions of k, by the rule φ

unfoldable pub records_surviving : CopyRule → (ℕ → Bool) → List ℕ → List Record
records_surviving φ k b = copied_by φ k (renumber (only k (whole b))) (records b (count b))

unfoldable pub copy_surviving : CopyRule → (ℕ → Bool) → List ℕ → List ℕ
copy_surviving φ k b = journal_of (items b) (records_surviving φ k b)

-- ---- take-back's

-- 01: the copy's records
unfoldable pub copy_records : List ℕ → List ℕ → List Record
copy_records bad b = records_surviving unchanged (surviving is_source bad (whole b)) b

-- 01: the copy, to the byte
unfoldable pub copy : List ℕ → List ℕ → List ℕ
copy bad b = copy_surviving unchanged (surviving is_source bad (whole b)) b
