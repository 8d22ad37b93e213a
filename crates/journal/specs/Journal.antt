-- A journal's bytes as a history.
-- Document 01, "The journal". Assumes nothing.
use Rattle.std.specs.Prelude.{cond, List, [], ◌∷◌, ℕ, zero, suc, pos, eqb, get_or}
use Rattle.format.specs.declared.Record.{Record}
use Rattle.format.specs.Layout.{record_at}
use Rattle.model.specs.History.{Op, History, Amount, Tag, read, write, commit, abort, other}

-- 01: record count
unfoldable pub count : List ℕ → ℕ
count b = (record_at b 0).next.0

-- 01: item count
unfoldable pub items : List ℕ → ℕ
items b = (record_at b 0).item.0

-- 01: bytes 2-3 of a record
abbrev pub tx_in : Record → ℕ
tx_in r = r.transaction.0

-- the operation that a record is, by its kind: 1 read, 2 write, 3 commit, 4 rollback
unfoldable pub op_of : Tag → Record → Op
op_of i r =
    cond (eqb r.kind 1) (read i (tx_in r) r.item.0)
    (cond (eqb r.kind 2) (write i (tx_in r) r.item.0 r.before r.after)
    (cond (eqb r.kind 3) (commit i (tx_in r))
    (cond (eqb r.kind 4) (abort i (tx_in r)) (other i (tx_in r)))))

-- records 1 to n, newest first
unfoldable pub records : List ℕ → ℕ → List Record
records b zero = []
records b (suc n) = record_at b (suc n) ∷ records b n

-- records 1 to n as operations, newest first
unfoldable pub history : List ℕ → ℕ → History
history b zero = []
history b (suc n) = op_of (suc n) (record_at b (suc n)) ∷ history b n

-- all records
unfoldable pub whole : List ℕ → History
whole b = history b (count b)

-- the table's amount of item x
abbrev pub amount_at : List Amount → ℕ → Amount
amount_at t x = get_or t x (pos 0)
