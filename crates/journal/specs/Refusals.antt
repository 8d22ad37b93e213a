-- The reasons for handing it back, 1 to 15, each as a condition of its own.
-- Document 01, "Reasons for handing it back". Assumes nothing.
use Rattle.std.specs.Prelude.{Bool, false, cond, not, ◌&&◌, ◌||◌, List, ℕ, ◌+◌, pos, eqb, ltb, leb, length}
use Rattle.lists.specs.Search.{any, keep}
use Rattle.format.specs.declared.Record.{Record}
use Rattle.format.specs.Layout.{record_at}
use Rattle.format.specs.Limits.{record_bytes, journal_bytes, max_records, max_items, max_transaction, status_bytes}
use Rattle.model.specs.History.{Op, History, Amount, same_amount, write_to, of_tx, committed, active, standing, next_in, is_read}
use Rattle.model.specs.History.{is_write, is_commit, is_abort}
use Rattle.model.specs.Rules as rules
use Rattle.journal.specs.Journal.{count, items, tx_in, whole, amount_at}

-- 1 torn: fewer than 20 bytes ..
unfoldable pub short : List ℕ → Bool
short b = ltb (length b) record_bytes

-- .. or fewer than 20 × (record count + 1)
unfoldable pub truncated : List ℕ → Bool
truncated b = ltb (length b) (journal_bytes (count b))

-- a number from low to high
abbrev pub within : ℕ → ℕ → ℕ → Bool
within low high n = leb low n && leb n high

-- 2 head: start's item count breaks the layout ..
unfoldable pub bad_items : ℕ → Bool
bad_items n = not (within 1 max_items n)

-- .. or a head field does: all others are 0
abbrev pub head_right : Record → Bool
head_right r =
    eqb r.kind 0 && eqb r.reserved 0 && eqb (tx_in r) 0 && leb r.next.0 max_records && within 1 max_items r.item.0
    && same_amount r.before (pos 0) && same_amount r.after (pos 0)

unfoldable pub bad_head : List ℕ → Bool
bad_head b = not (head_right (record_at b 0))

-- 3 table: table length is not the item count
unfoldable pub wrong_table : List ℕ → List Amount → Bool
wrong_table b t = not (eqb (length t) (items b))

-- 4 smudge: a field other than next breaks the layout, which goes by the kind
abbrev pub body_right : ℕ → Record → Bool
body_right n r =
    cond (eqb r.kind 1) (ltb r.item.0 n && same_amount r.before (pos 0) && same_amount r.after (pos 0))
    (cond (eqb r.kind 2) (ltb r.item.0 n)
    (cond (eqb r.kind 3 || eqb r.kind 4)
    (eqb r.item.0 0 && same_amount r.before (pos 0) && same_amount r.after (pos 0))
    false))

unfoldable pub malformed : ℕ → Record → Bool
malformed n r = not (eqb r.reserved 0 && within 1 max_transaction (tx_in r) && body_right n r)

-- 5 chain: next is wrong
unfoldable pub wrong_next : List ℕ → ℕ → Bool
wrong_next b i = not (eqb (record_at b i).next.0 (next_in (whole b) i (tx_in (record_at b i))))

-- 6 to 9: closed, crossed, blind, before, of an operation after a history
unfoldable pub terminated : History → Op → Bool
terminated p r = rules.terminated p r

unfoldable pub conflicting : History → Op → Bool
conflicting p r = rules.conflicting p r

unfoldable pub blind : History → Op → Bool
blind p r = rules.blind p r

unfoldable pub mismatched : History → Op → Bool
mismatched p r = rules.mismatched p r

-- 10 close: a written item's standing amount at the end is not the table's
unfoldable pub unsettled : List ℕ → List Amount → ℕ → Bool
unsettled b t x = any (write_to x) (whole b) && not (same_amount (standing (amount_at t x) (whole b) x) (amount_at t x))

-- 11 open: an open sale
unfoldable pub still_active : List ℕ → ℕ → Bool
still_active b s = active (whole b) s

-- 12 unknown: a listed number is not a committed sale; in slip, a sale without records
unfoldable pub unknown : List ℕ → ℕ → Bool
unknown b s = not (committed (whole b) s)

unfoldable pub absent : List ℕ → ℕ → Bool
absent b s = not (any (of_tx s) (whole b))

-- 13 marks: length is not 1,025
unfoldable pub wrong_status : List ℕ → Bool
wrong_status m = not (eqb (length m) status_bytes)

-- 14 paper: the copy or list is shorter than needed ..
unfoldable pub too_short : {A : Type 0} → List A → ℕ → Bool
too_short l n = ltb (length l) n

-- .. in post, 3,200 records already or under 20 bytes left behind the journal
unfoldable pub no_room : List ℕ → Bool
no_room b = leb max_records (count b) || ltb (length b) (journal_bytes (count b) + record_bytes)

-- record counts by kind (01: tally)
pub record RecordCounts : Type 0 where
  pub reads : ℕ
  pub writes : ℕ
  pub commits : ℕ
  pub aborts : ℕ

unfoldable pub counts_by_kind : History → RecordCounts
counts_by_kind j =
    record {
      reads = length (keep is_read j);
      writes = length (keep is_write j);
      commits = length (keep is_commit j);
      aborts = length (keep is_abort j);
    }

-- 15 tally: differs from the journal
abbrev pub same_counts : RecordCounts → RecordCounts → Bool
same_counts c d =
    eqb c.reads d.reads && eqb c.writes d.writes && eqb c.commits d.commits && eqb c.aborts d.aborts

unfoldable pub wrong_counts : List ℕ → RecordCounts → Bool
wrong_counts b c = not (same_counts c (counts_by_kind (whole b)))
