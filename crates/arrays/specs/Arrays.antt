-- What the working arrays hold after the first n records of a journal.
-- Assumes nothing.
use Rattle.std.specs.Prelude.{◌≡◌, false, List, ℕ, ◌≤◌, ◌<◌, suc, pred, length, get_or}
use Rattle.lists.specs.Tables.{tabulate}
use Rattle.format.specs.Layout.{record_at}
use Rattle.format.specs.Limits.{journal_bytes, max_records, max_items, record_slots, transaction_slots}
use Rattle.model.specs.History.{History, Tag, tag_in}
use Rattle.journal.specs.Journal.{items, op_of, history}
use Rattle.journal.specs.Refusals.{malformed, wrong_next, terminated, conflicting, blind, mismatched}
use Rattle.arrays.specs.declared.kept.Kept.{Kept}
use Rattle.arrays.specs.Ends.{codes}
use Rattle.arrays.specs.Recent.{end_code, first_tag, last_write, base_write, reads_since, newest}

-- ---- by transaction, 0 to 1,024

-- its end: 0 none, 1 committed, 2 aborted
unfoldable pub ends_of : History → List ℕ
ends_of p = tabulate (end_code p) 0 transaction_slots

-- its first record, 0 none
unfoldable pub firsts_of : History → List ℕ
firsts_of p = tabulate (first_tag p) 0 transaction_slots

-- ---- by item, 0 to 1,023

-- its last write, 0 none
unfoldable pub writes_of : History → List ℕ
writes_of p = tabulate (λ x. tag_in (last_write p x)) 0 max_items

-- the first write of it by the transaction that wrote it last, 0 none
unfoldable pub bases_of : History → List ℕ
bases_of p = tabulate (λ x. tag_in (base_write p x)) 0 max_items

-- its newest read since its last write, 0 none
unfoldable pub reads_of : History → List ℕ
reads_of p = tabulate (λ x. newest (reads_since x p)) 0 max_items

-- ---- by record, 0 to 3,200

-- of a read, the newest read of the item before it since the item's last write, 0 none
unfoldable pub read_before : List ℕ → ℕ → Tag
read_before b k = newest (reads_since (record_at b k).item.0 (history b (pred k)))

pub record Linked (b : List ℕ) (n : ℕ) (l : List ℕ) : Type 0 where
  pub size : length l ≡ record_slots
  pub link : (k : ℕ) → 1 ≤ k → k ≤ n → (record_at b k).kind ≡ 1 → get_or l k 0 ≡ read_before b k

-- ---- records 1 to n pass

-- no refusal of 4 to 7 and 9 at record i, after the history p
pub record CoreRight (b : List ℕ) (i : ℕ) (p : History) : Type 0 where
  pub formed : malformed (items b) (record_at b i) ≡ false
  pub chained : wrong_next b i ≡ false
  pub not_terminated : terminated p (op_of i (record_at b i)) ≡ false
  pub not_conflicting : conflicting p (op_of i (record_at b i)) ≡ false
  pub matched : mismatched p (op_of i (record_at b i)) ≡ false

pub record Ready (b : List ℕ) (n : ℕ) : Type 0 where
  pub long : journal_bytes n ≤ length b
  pub few : n ≤ max_records
  pub items : items b ≤ max_items
  pub passed : (i : ℕ) → i < n → CoreRight b (suc i) (history b i)

-- and rule 8, which only what decides 8 asks for
pub record NoBlindTo (b : List ℕ) (n : ℕ) : Type 0 where
  pub read : (i : ℕ) → i < n → blind (history b i) (op_of (suc i) (record_at b (suc i))) ≡ false

-- ---- what an array holds after the first n records

abbrev pub IsEnds : List ℕ → ℕ → List ℕ → Type 0
IsEnds b n l = l ≡ ends_of (history b n)

abbrev pub IsFirsts : List ℕ → ℕ → List ℕ → Type 0
IsFirsts b n l = l ≡ firsts_of (history b n)

abbrev pub IsWrites : List ℕ → ℕ → List ℕ → Type 0
IsWrites b n l = l ≡ writes_of (history b n)

abbrev pub IsBases : List ℕ → ℕ → List ℕ → Type 0
IsBases b n l = l ≡ bases_of (history b n)

abbrev pub IsReads : List ℕ → ℕ → List ℕ → Type 0
IsReads b n l = l ≡ reads_of (history b n)

pub record State (b : List ℕ) (n : ℕ) (ends firsts writes bases reads links : List ℕ) : Type 0 where
  pub ended : IsEnds b n ends
  pub begun : IsFirsts b n firsts
  pub written : IsWrites b n writes
  pub based : IsBases b n bases
  pub last_read : IsReads b n reads
  pub linked : Linked b n links

-- and of all
abbrev pub Holds : List ℕ → ℕ → Kept → Type 0
Holds b n k = State b n (codes k.ends) k.firsts k.writes k.bases k.reads k.links
