-- What take-back leaves, by the set of the transactions it keeps: answer, table, marks and paper.
-- Document 01, "The rules of taking back". Assumes nothing.
use Rattle.std.specs.Prelude.{Bool, cond, List, ◌++◌, ℕ, length, drop}
use Rattle.std.proofs.Math.Option.{Option, none, some}
use Rattle.lists.specs.Tables.{tabulate, count_if}
use Rattle.format.specs.Limits.{max_transaction, status_bytes}
use Rattle.model.specs.History.{History, Amount, aborted, initial}
use Rattle.model.specs.Undo.{is_source, surviving, undone, replayed}
use Rattle.journal.specs.Inputs.{Inputs}
use Rattle.journal.specs.Journal.{whole, amount_at}
use Rattle.journal.specs.Orders.{Refusal}
use Rattle.journal.specs.Copy.{CopyRule, copy_surviving, copy}

-- ---- the result of any call

-- number and place, or what the call answers
pub data Answer (A : Type 0) : Type 0 where
  refused : ℕ → ℕ → Answer A
  accepted : A → Answer A

-- the answer, by what the order of the call decides
abbrev pub answered : {A : Type 0} → Option Refusal → A → Answer A
answered none a = accepted a
answered (some r) a = refused r.number r.place

-- a loan afterwards: as it was, where the call is refused
abbrev pub loan_after : {A : Type 0} → Option Refusal → A → A → A
loan_after none old new = new
loan_after (some r) old new = old

-- a list with its front written
abbrev pub written : {A : Type 0} → List A → List A → List A
written new old = new ++ drop (length new) old

-- ---- the opening table

-- the opening amount of item x
unfoldable pub opening_at : Inputs → ℕ → Amount
opening_at d x = initial (amount_at d.table x) (whole d.journal) x

-- 01: opening table
unfoldable pub opening_table : Inputs → List Amount
opening_table d = tabulate (opening_at d) 0 (length d.table)

-- ---- by the kept transactions k, and those taken back, u

-- the mark of a sale number: 2 taken back, 1 kept, 0 no committed sale of that number
unfoldable pub status_of : (ℕ → Bool) → (ℕ → Bool) → ℕ → ℕ
status_of u k s = cond (u s) 2 (cond (k s) 1 0)

unfoldable pub status_vector : (ℕ → Bool) → (ℕ → Bool) → List ℕ
status_vector u k = tabulate (status_of u k) 0 status_bytes

-- the opening table with the afters of all kept writes set in record order
unfoldable pub table_surviving : (ℕ → Bool) → Inputs → List Amount
table_surviving k d = tabulate (λ x. replayed k (opening_at d x) (whole d.journal) x) 0 (length d.table)

-- kept, taken-back and dropped sales, and the copy's bytes
pub record UndoTotals : Type 0 where
  pub surviving : ℕ
  pub undone : ℕ
  pub aborted : ℕ
  pub bytes : ℕ

unfoldable pub totals : (ℕ → Bool) → (ℕ → Bool) → List ℕ → ℕ → UndoTotals
totals u k b n =
    record {
      surviving = count_if k 1 max_transaction;
      undone = count_if u 1 max_transaction;
      aborted = count_if (aborted (whole b)) 1 max_transaction;
      bytes = n;
    }

pub record UndoResult : Type 0 where
  pub answer : Answer UndoTotals
  pub table : List Amount
  pub status : List ℕ
  pub out : List ℕ

-- answer and loans, where the order decides v and the rule φ makes the copy's records
unfoldable pub result : CopyRule → (ℕ → Bool) → (ℕ → Bool) → Option Refusal → Inputs → List ℕ → List ℕ → UndoResult
result φ u k v d status out =
    let c : List ℕ = copy_surviving φ k d.journal in
    record {
      answer = answered v (totals u k d.journal (length c));
      table = loan_after v d.table (table_surviving k d);
      status = loan_after v status (status_vector u k);
      out = loan_after v out (written c out);
    }

-- ---- by the bad list

unfoldable pub statuses : List ℕ → History → List ℕ
statuses bad j = status_vector (undone is_source bad j) (surviving is_source bad j)

-- 01: the table left
unfoldable pub table_left : List ℕ → Inputs → List Amount
table_left bad d = table_surviving (surviving is_source bad (whole d.journal)) d

unfoldable pub undo_totals : List ℕ → List ℕ → UndoTotals
undo_totals bad b = totals (undone is_source bad (whole b)) (surviving is_source bad (whole b)) b (length (copy bad b))
