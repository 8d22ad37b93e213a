-- Begin here: the three demands of the person we build for, as three theorems. Each field is a sentence of theirs, quoted, and
-- the statement that says it; proofs/Demands.antt proves each demand by one term. `undo` is take-back, `append` posts one record,
-- `chain` is slip, each as a definition over inputs of any length and content; the contract of each function is an equation with
-- it. The premises are those of the sentence: that a call is accepted, or that journal and table pass, with every sale finished
-- where it says so. Posting goes on where the tally agrees too (AppendReady), and building anew needs room for the journal.
-- Besides, lists hold what the types of the parameters say: bytes (Bytes), signed 32-bit amounts (Amounts), numbers of their
-- width (Given).
-- Assumes nothing.
use Rattle.std.specs.Prelude.{◌≡◌, false, ◌↔◌, List, ℕ, length}
use Rattle.model.specs.History.{Amount}
use Rattle.journal.specs.Inputs.{Inputs}
use Rattle.journal.specs.Refusals.{RecordCounts}
use Rattle.journal.specs.Orders.{Order, open_order, start_order, check_order, chain_order, append_order, undo_order}
use Rattle.journal.specs.Copy.{copy}
use Rattle.journal.specs.Calls.{Answer, refused, start, check, chain_of, chain, new_record, append, count_records, undo}
use Rattle.demands.specs.Days.{accepts}
use Rattle.demands.specs.Refusing.{Answers, start_numbers, check_numbers, count_numbers, chain_numbers, append_numbers}
use Rattle.demands.specs.Refusing.{undo_numbers, First, StartRefused, Unopened, CheckRefused, ChainRefused, AppendRefused}
use Rattle.demands.specs.Refusing.{UndoRefused, LowestRecord, LowestPlace}
use Rattle.demands.specs.ReadsFrom.{ReadsFrom}
use Rattle.demands.specs.Undoing.{Acceptance, AcceptedExactly, LeftPasses, LeastSet, Fewest, DeleteModel}
use Rattle.demands.specs.Incremental.{OnceJoins, OnceDistinct, IncrementalUndo}
use Rattle.demands.specs.Appending.{AppendedReads, AppendedOnto, AppendedAfter, Rebuilding}

-- ---- demand 1

-- A call with the answer a: its numbers, that all it was lent is as it was, its conditions by number and place, and in their
-- order.
pub record Refuses {A : Type 0} (numbers : List ℕ) (as_lent : Type 0) (condition : ℕ → ℕ → Type 0) (order : Order) (a : Answer A)
    : Type 0 where
  -- "either worked through or refused by a number from our list, at any length and with any content"
  pub answered : Answers numbers a
  -- "A refusal leaves all of them untouched": what is not named here is only read
  pub untouched : accepts a ≡ false → as_lent
  -- "each number comes back only under the condition written for it" ..
  pub only_under : (number place : ℕ) → a ≡ refused number place → condition number place
  -- .. and does come back where this is the first condition of the call's order that holds
  pub exactly : (number place : ℕ) → (a ≡ refused number place) ↔ First number place order

pub record Demand1 : Type 0 where
  -- "A journal handed in with its table, bad list, marks and paper for the copy is either worked through or refused by a number
  -- from our list, at any length and with any content. A refusal leaves all of them untouched, and each number comes back only
  -- under the condition written for it."
  pub undo : (d : Inputs) (bad status out : List ℕ) → Refuses undo_numbers
      (((undo d bad status out).table ≡ d.table) × ((undo d bad status out).status ≡ status) × ((undo d bad status out).out ≡ out))
      (UndoRefused d bad status out) (undo_order d bad status out (length (copy bad d.journal))) (undo d bad status out).answer
  -- "The same holds for posting one record."
  pub append : (d : Inputs) (c : RecordCounts) (kind s x : ℕ) (a : Amount) → Refuses append_numbers
      (((append d c kind s x a).journal ≡ d.journal) × ((append d c kind s x a).table ≡ d.table)
      × ((append d c kind s x a).counts ≡ c))
      (AppendRefused d c (new_record d.table kind s x a)) (append_order d c (new_record d.table kind s x a))
      (append d c kind s x a).answer
  -- the other calls of document 01; check is lent nothing that it writes
  pub start : (b : List ℕ) (n : ℕ) → Refuses start_numbers ((start b n).journal ≡ b)
      (StartRefused b n) (start_order b n) (start b n).answer
  pub check : (d : Inputs) → Refuses check_numbers (Unit {0}) (CheckRefused d) (check_order d) (check d)
  pub chain : (b : List ℕ) (s : ℕ) (l : List ℕ) → Refuses chain_numbers ((chain b s l).lsns ≡ l)
      (ChainRefused b s l) (chain_order b s l (length (chain_of b s))) (chain b s l).answer
  -- counting the records of a stored journal by kind, which checks no record and is lent nothing that it writes
  pub count_records : (b : List ℕ) → Refuses count_numbers (Unit {0}) (Unopened b) (open_order b) (count_records b)
  -- the places that document 01 gives: among 4 to 9 the lowest record, then the lowest number; the lowest item, sale, list
  -- position
  pub lowest_record : LowestRecord
  pub lowest_place : LowestPlace

-- ---- demand 2

pub record Demand2 : Type 1 where
  -- "The sales taken back .. are those of the delete-transaction model": the least set of committed sales that contains the list
  -- and every committed sale with a read fed by a write of a member; marks and counts say it
  pub set : LeastSet
  -- "the table left and the copy written are those of the delete-transaction model": the copy has just the kept sales' records,
  -- each read fed by the same write; the table is their afters set upon the opening table
  pub copy_and_table : DeleteModel
  -- "with the reads-from rule of the published papers": what feeds a read in both, by the rule that document 02, request 3, puts in
  -- its place; in a journal that passes this is the papers' among the writes that changed the amount (`papers`)
  pub reads_from : ReadsFrom
  -- "What posting builds, reading accepts, with the same records and amounts": from start; onto any journal and table that pass;
  -- and onto what a take-back left
  pub built : AppendedReads
  pub built_onto : AppendedOnto
  pub built_after : AppendedAfter
  -- "every accepted journal can be built by posting from its opening table."
  pub rebuilt : Rebuilding

-- ---- demand 3

pub record Demand3 : Type 0 where
  -- "Let a journal and table pass, with every sale finished. Take-back then accepts a list exactly when it names only committed
  -- sales, the marks are 1,025 bytes and the paper holds the copy" ..
  pub acceptance : Acceptance
  -- .. and it accepts no other: what is accepted passes, with every sale finished
  pub exactly : AcceptedExactly
  -- "the copy and table it then leaves pass too, with every sale finished."
  pub left : LeftPasses
  -- "Every set of committed sales that contains an accepted list, and whose removal leaves each read of the remaining committed
  -- sales fed by the same write, or the opening amount, as before, contains all the sales taken back; and these are such a set."
  -- (Sets with a test: Undoing.antt says why.)
  pub fewest : Fewest
  -- "A list may also be cut. Take any sequence of take-backs, refused ones included, with any bad lists, marks and paper. Each
  -- works on the copy and table that the last accepted one left, or on that journal and table until one is accepted; names
  -- already taken back are struck from its list. If any was accepted, the sales taken back, the last table and the last copy are
  -- those of one take-back from that journal and table with the accepted lists joined. If none was, journal and table are
  -- unchanged."
  pub incremental : IncrementalUndo
  -- the accepted lists can be joined with each number once (document 01)
  pub joined : OnceJoins
  pub once : OnceDistinct

-- ---- all three

pub record Demands : Type 1 where
  pub first : Demand1
  pub second : Demand2
  pub third : Demand3
