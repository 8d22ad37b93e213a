-- Demand 3 and the first half of demand 2, for one take-back: acceptance, what is left passes, the taken-back set, the fewest
-- sales, the delete-transaction model. Each statement is about the result `undo` of a call on bytes; proofs/Undoing.antt proves it.
-- Assumes nothing.
use Rattle.std.specs.Prelude.{◌≡◌, Bool, true, false, ◌↔◌, List, [], ◌∷◌, ℕ, suc, ◌<◌, ◌≤◌, eqb, length, get_or, take, drop}
use Rattle.lists.specs.Search.{keep, member}
use Rattle.lists.specs.Tables.{count_if}
use Rattle.format.specs.Bytes.{Bytes}
use Rattle.format.specs.Layout.{record_at}
use Rattle.format.specs.Limits.{journal_bytes, max_transaction, status_bytes}
use Rattle.model.specs.History.{History, read, tag_in, committed, aborted, current}
use Rattle.model.specs.Undo.{is_source, Upto, Closed, reads_from, only, without, replayed}
use Rattle.journal.specs.Inputs.{Inputs, handed_on}
use Rattle.journal.specs.Journal.{count, items, op_of, history, whole, amount_at, tx_in}
use Rattle.journal.specs.Copy.{copy, linked_to}
use Rattle.journal.specs.Calls.{refused, accepted, UndoTotals, UndoResult, undo, opening_at, opening_table}
use Rattle.demands.specs.Days.{accepts, records_of, Chained, PassFinished, Day}

-- ---- 1. acceptance

-- the list names only committed sales, the marks are 1,025 bytes and the paper holds the copy
pub record Accepting (b bad status out : List ℕ) : Type 0 where
  pub names : (s : ℕ) → member s bad ≡ true → committed (whole b) s ≡ true
  pub status_length : length status ≡ status_bytes
  pub capacity : length (copy bad b) ≤ length out

-- Take-back accepts a list exactly when it names only committed sales, the marks are 1,025 bytes and the paper holds the copy.
abbrev pub Acceptance : Type 0
Acceptance = (d : Inputs) (bad status out : List ℕ) → Day d
    → (accepts (undo d bad status out).answer ≡ true) ↔ Accepting d.journal bad status out

-- What an accepted call was given passes, with every sale finished.
abbrev pub AcceptedPasses : Type 0
AcceptedPasses = (d : Inputs) (bad status out : List ℕ) → accepts (undo d bad status out).answer ≡ true → PassFinished d

-- So acceptance has no premise: exactly if journal and table pass, every sale is finished, and list, marks and paper are as above.
abbrev pub AcceptedExactly : Type 0
AcceptedExactly = (d : Inputs) (bad status out : List ℕ)
    → (accepts (undo d bad status out).answer ≡ true) ↔ (PassFinished d × Accepting d.journal bad status out)

-- The copy is never longer than the journal's 20 × (count + 1) bytes ..
abbrev pub CopyFits : Type 0
CopyFits = (d : Inputs) (bad : List ℕ) → length (copy bad d.journal) ≤ journal_bytes (count d.journal)

-- .. so paper of that size is never refused by 14.
abbrev pub NeverShort : Type 0
NeverShort = (d : Inputs) (bad status out : List ℕ) (place : ℕ) → journal_bytes (count d.journal) ≤ length out
    → (undo d bad status out).answer ≡ refused 14 place → ⊥

-- A repeated number in the list means the same as one: an accepted call depends on the list's members alone, whatever their order
-- and number.
abbrev pub SameNames : Type 0
SameNames = (d : Inputs) (bad names status out : List ℕ) → ((s : ℕ) → member s bad ≡ member s names)
    → accepts (undo d bad status out).answer ≡ true → undo d bad status out ≡ undo d names status out

-- ---- 2. what is left passes

-- an accepted call on bytes, with the counts that it answers
pub record Accepted (d : Inputs) (bad status out : List ℕ) (n : UndoTotals) : Type 0 where
  pub bytes : Bytes d.journal
  pub answer : (undo d bad status out).answer ≡ accepted n

-- the copy that an accepted call wrote, exactly its bytes
abbrev pub copy_in : UndoResult → UndoTotals → List ℕ
copy_in r n = take n.bytes r.out

-- copy and table, as the next call gets them
abbrev pub left_by : Inputs → UndoResult → UndoTotals → Inputs
left_by d r n = handed_on (copy_in r n) r.table d

pub record RepairedDay (d : Inputs) (out : List ℕ) (r : UndoResult) (n : UndoTotals) : Type 0 where
  pub day : Day (left_by d r n)
  pub opening : opening_table (left_by d r n) ≡ opening_table d
  pub size : n.bytes ≡ journal_bytes (count (copy_in r n))
  pub behind : drop n.bytes r.out ≡ drop n.bytes out

-- The copy and table that an accepted call leaves pass too, with every sale finished, and have the same opening table. The paper
-- behind the copy is as it was.
abbrev pub LeftPasses : Type 0
LeftPasses = (d : Inputs) (bad status out : List ℕ) (n : UndoTotals) → Accepted d bad status out n
    → RepairedDay d out (undo d bad status out) n

-- ---- 3. the taken-back set

abbrev pub status_at : UndoResult → ℕ → ℕ
status_at r s = get_or r.status s 0

-- the sales marked 1, and those marked 2
abbrev pub is_surviving : UndoResult → ℕ → Bool
is_surviving r s = eqb (status_at r s) 1

abbrev pub is_undone : UndoResult → ℕ → Bool
is_undone r s = eqb (status_at r s) 2

-- what the marks and counts say
pub record StatusMeaning (b bad : List ℕ) (r : UndoResult) (n : UndoTotals) : Type 0 where
  -- the sales marked 2 are committed, contain the list, and every committed sale with a read fed by a write of one of them
  pub members : (s : ℕ) → status_at r s ≡ 2 → committed (whole b) s ≡ true
  pub closed : Closed is_source bad (whole b) (λ s. status_at r s ≡ 2)
  -- 1 exactly for the kept sales: committed and not taken back; 0 exactly for the numbers of no committed sale
  pub survives : (s : ℕ) → (status_at r s ≡ 1) ↔ ((committed (whole b) s ≡ true) × (status_at r s ≡ 2 → ⊥))
  pub others : (s : ℕ) → (status_at r s ≡ 0) ↔ (committed (whole b) s ≡ false)
  -- one mark for each sale number from 0
  pub size : length r.status ≡ status_bytes
  -- the counts are the numbers of such sales
  pub undone : n.undone ≡ count_if (is_undone r) 1 max_transaction
  pub surviving : n.surviving ≡ count_if (is_surviving r) 1 max_transaction
  pub aborted : n.aborted ≡ count_if (aborted (whole b)) 1 max_transaction

-- with the sales marked 2 the least such set, so 2 exactly for its members
pub record UndoSet (b bad : List ℕ) (r : UndoResult) (n : UndoTotals) : Type 1 where
  pub meaning : StatusMeaning b bad r n
  -- they lie in every set, by any predicate, that contains the list and every committed sale with a read fed by a write of a member
  pub least : (S : ℕ → Type 0) → Closed is_source bad (whole b) S → (s : ℕ) → status_at r s ≡ 2 → S s

-- What is computed is the least set, and marks and counts say it.
abbrev pub LeastSet : Type 1
LeastSet = (d : Inputs) (bad status out : List ℕ) (n : UndoTotals) → Accepted d bad status out n
    → UndoSet d.journal bad (undo d bad status out) n

-- ---- 4. the fewest sales

-- removal of the set g leaves each read of the remaining committed sales fed by the same write (its record number too), or by the
-- opening amount, as before
abbrev pub KeepsReads : List ℕ → (ℕ → Bool) → Type 0
KeepsReads b g = (i s x : ℕ) (p : History) → Upto (read i s x ∷ p) (whole b) → committed (whole b) s ≡ true → g s ≡ false
    → reads_from is_source (without g p) s x ≡ reads_from is_source p s x

-- A set of committed sales that contains the list and whose removal does so. A set is a test here, ℕ → Bool: removal has to decide
-- of each record whether it goes, and `lem`, which would decide for any predicate, is refused. Only 1,024 numbers matter, and on
-- these every set is such a test. (The least set above is stated for any predicate.)
pub record Removable (b bad : List ℕ) (g : ℕ → Bool) : Type 0 where
  pub committed : (s : ℕ) → g s ≡ true → committed (whole b) s ≡ true
  pub lists : (s : ℕ) → member s bad ≡ true → g s ≡ true
  pub keeps : KeepsReads b g

pub record FewestTransactions (b bad : List ℕ) (r : UndoResult) : Type 0 where
  pub removable : Removable b bad (is_undone r)
  pub fewest : (g : ℕ → Bool) → Removable b bad g → (s : ℕ) → is_undone r s ≡ true → g s ≡ true

-- The sales taken back are such a set, and every such set contains all of them.
abbrev pub Fewest : Type 0
Fewest = (d : Inputs) (bad status out : List ℕ) (n : UndoTotals) → Accepted d bad status out n
    → FewestTransactions d.journal bad (undo d bad status out)

-- ---- 5. the delete-transaction model

-- the record number in the copy of record i of a kept sale: how many records up to i are of the kept sales k; 0 of 0
abbrev pub lsn_in_copy : (ℕ → Bool) → List ℕ → ℕ → ℕ
lsn_in_copy k b i = length (only k (history b i))

-- Record i + 1, a read of x by the kept sale s, in the journal c. What feeds it is told by its record number, 0 for the opening
-- amount.
pub record SameRead (k : ℕ → Bool) (d : Inputs) (c : List ℕ) (i s x : ℕ) : Type 0 where
  pub consecutive : lsn_in_copy k d.journal (suc i) ≡ suc (lsn_in_copy k d.journal i)
  pub there : op_of (lsn_in_copy k d.journal (suc i)) (record_at c (lsn_in_copy k d.journal (suc i)))
      ≡ read (lsn_in_copy k d.journal (suc i)) s x
  pub reads_from : tag_in (reads_from is_source (history c (lsn_in_copy k d.journal i)) s x)
      ≡ lsn_in_copy k d.journal (tag_in (reads_from is_source (history d.journal i) s x))
  pub amount : current (opening_at d x) (history c (lsn_in_copy k d.journal i)) x
      ≡ current (opening_at d x) (history d.journal i) x

-- the copy c and the table left, of the call that answered r
pub record Deleted (d : Inputs) (r : UndoResult) (c : List ℕ) : Type 0 where
  -- the same item count and just the kept sales' records in order, all fields but next unchanged, next worked out again
  pub records : records_of c ≡ keep (λ w. is_surviving r (tx_in w)) (records_of d.journal)
  pub chained : Chained c
  pub item_count : items c ≡ items d.journal
  -- record i + 1 of a kept sale is there under its new number, and each read of theirs is fed as before
  pub fields : (i : ℕ) → i < count d.journal → status_at r (tx_in (record_at d.journal (suc i))) ≡ 1
      → linked_to 0 (record_at c (lsn_in_copy (is_surviving r) d.journal (suc i))) ≡ linked_to 0 (record_at d.journal (suc i))
  pub reads : (i s x : ℕ) → i < count d.journal → op_of (suc i) (record_at d.journal (suc i)) ≡ read (suc i) s x
      → status_at r s ≡ 1
      → SameRead (is_surviving r) d c i s x
  -- the opening table with the afters of all kept writes set in record order, which is the copy's standing amounts
  pub size : length r.table ≡ length d.table
  pub replay : (x : ℕ) → x < items d.journal
      → amount_at r.table x ≡ replayed (is_surviving r) (opening_at d x) (whole d.journal) x
  pub standing : (x : ℕ) → x < items d.journal → amount_at r.table x ≡ current (opening_at d x) (whole c) x

-- The copy has just the kept sales' records, and in it each read is fed by the write that fed it on the day, or by the same opening
-- amount, and finds the same standing amount. The table left is the copy's standing amounts from the opening table.
abbrev pub DeleteModel : Type 0
DeleteModel = (d : Inputs) (bad status out : List ℕ) (n : UndoTotals) → Accepted d bad status out n
    → Deleted d (undo d bad status out) (copy_in (undo d bad status out) n)

-- An empty list leaves the table unchanged.
abbrev pub EmptyList : Type 0
EmptyList = (d : Inputs) (status out : List ℕ) → Day d → (undo d [] status out).table ≡ d.table
