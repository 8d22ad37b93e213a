-- The result of start, post, check, slip, counting and take-back on any input: the answer and every loan afterwards.
-- Document 01, "The rules of taking back" and "The calls beside it". Assumes nothing.
use Rattle.std.specs.Prelude.{cond, List, [], ◌∷◌, ℕ, zero, suc, ◌+◌, ◌*◌, pos, eqb, length}
use Rattle.std.proofs.Math.Option.{Option}
use Rattle.lists.specs.Search.{first, latest}
use Rattle.lists.specs.Tables.{tabulate, store, count_if}
use Rattle.format.specs.declared.Record.{Record}
use Rattle.format.specs.Bytes.{bytes}
use Rattle.format.specs.Layout.{record_at, bytes_of}
use Rattle.format.specs.Limits.{record_bytes, max_transaction}
use Rattle.model.specs.History.{Op, History, Amount, tag_in, of_tx, active, applied}
use Rattle.model.specs.Undo.{is_source, surviving, undone}
use Rattle.journal.specs.Inputs.{Inputs}
use Rattle.journal.specs.Journal.{count, op_of, whole, amount_at}
use Rattle.journal.specs.Refusals.{RecordCounts, counts_by_kind}
use Rattle.journal.specs.Orders.{Refusal, decide, open_order, start_order, check_order, chain_order, append_order, undo_order}
use Rattle.journal.specs.Copy.{head_with, unchanged, copy}
pub use Rattle.journal.specs.Results.{Answer, refused, accepted, answered, loan_after, written, UndoTotals, UndoResult}
unfoldable pub use Rattle.journal.specs.Results.{result, opening_at, opening_table, status_of, statuses, table_left, undo_totals}

-- ---- start: an accepted start answers nothing

pub record StartResult : Type 0 where
  pub answer : Answer (Unit {0})
  pub journal : List ℕ

unfoldable pub start : List ℕ → ℕ → StartResult
start b n =
    let d : Option Refusal = decide (start_order b n) in
    record { answer = answered d tt; journal = loan_after d b (store 0 (bytes_of (head_with 0 n)) b) }

-- ---- check: how many sales are open

unfoldable pub check : Inputs → Answer ℕ
check d = answered (decide (check_order d)) (count_if (active (whole d.journal)) 1 max_transaction)

-- ---- slip

-- the record numbers from record i on along the chain, at most n; 0 ends the chain
unfoldable pub walk : List ℕ → ℕ → ℕ → List ℕ
walk b zero i = []
walk b (suc n) i = let l : List ℕ = walk b n (record_at b i).next.0 in cond (eqb i 0) [] (i ∷ l)

-- the chain of sale s, from its first record
unfoldable pub chain_of : List ℕ → ℕ → List ℕ
chain_of b s = walk b (count b) (tag_in (first (of_tx s) (whole b)))

pub record ChainResult : Type 0 where
  pub answer : Answer ℕ
  pub lsns : List ℕ

unfoldable pub chain : List ℕ → ℕ → List ℕ → ChainResult
chain b s l =
    let c : List ℕ = chain_of b s in
    let d : Option Refusal = decide (chain_order b s l (length c)) in
    record { answer = answered d (length c); lsns = loan_after d l (written c l) }

-- ---- post: an accepted post answers nothing

-- the record that post adds; a write's before comes from the table
abbrev pub new_record : List Amount → ℕ → ℕ → ℕ → Amount → Record
new_record t kind s x a =
    record {
      kind = kind;
      reserved = 0;
      transaction = record { 0 = s };
      next = record { 0 = 0 };
      item = record { 0 = x };
      before = cond (eqb kind 2) (amount_at t x) (pos 0);
      after = a;
    }

-- the journal with n as the next of record i; of no record, where i is 0
unfoldable pub link : ℕ → ℕ → List ℕ → List ℕ
link n i b = cond (eqb i 0) b (store (record_bytes * i + 4) (bytes 4 n) b)

-- the journal with one record more: the record, the next of the sale's last record until now, the record count
unfoldable pub extended : List ℕ → Record → List ℕ
extended b r =
    let n : ℕ = suc (count b) in
    let s : ℕ = r.transaction.0 in
    store 4 (bytes 4 n) (link n (tag_in (latest (of_tx s) (whole b))) (store (record_bytes * n) (bytes_of r) b))

-- the table after one operation more: a write sets its item, a rollback restores
unfoldable pub applied_table : History → Op → List Amount → List Amount
applied_table p o t = tabulate (λ x. applied o p x (amount_at t x)) 0 (length t)

-- one of the four rises by one
unfoldable pub raised : ℕ → RecordCounts → RecordCounts
raised kind c =
    record {
      reads = cond (eqb kind 1) (suc c.reads) c.reads;
      writes = cond (eqb kind 2) (suc c.writes) c.writes;
      commits = cond (eqb kind 3) (suc c.commits) c.commits;
      aborts = cond (eqb kind 4) (suc c.aborts) c.aborts;
    }

pub record AppendResult : Type 0 where
  pub answer : Answer (Unit {0})
  pub journal : List ℕ
  pub table : List Amount
  pub counts : RecordCounts

unfoldable pub append : Inputs → RecordCounts → ℕ → ℕ → ℕ → Amount → AppendResult
append d c kind s x a =
    let b : List ℕ = d.journal in
    let t : List Amount = d.table in
    let r : Record = new_record t kind s x a in
    let v : Option Refusal = decide (append_order d c r) in
    record {
      answer = answered v tt;
      journal = loan_after v b (extended b r);
      table = loan_after v t (applied_table (whole b) (op_of (suc (count b)) r) t);
      counts = loan_after v c (raised kind c);
    }

-- ---- counting: the tally that post is lent, of a stored journal or a copy; 1, 2 and 1 alone are tried

unfoldable pub count_records : List ℕ → Answer RecordCounts
count_records b = answered (decide (open_order b)) (counts_by_kind (whole b))

-- ---- take-back: the result of the transactions that the list leaves

unfoldable pub undo : Inputs → List ℕ → List ℕ → List ℕ → UndoResult
undo d bad status out =
    let j : History = whole d.journal in
    let v : Option Refusal = decide (undo_order d bad status out (length (copy bad d.journal))) in
    result unchanged (undone is_source bad j) (surviving is_source bad j) v d status out
