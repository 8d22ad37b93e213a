-- What delivery leaves, by the fate of each transaction, and what it is given.
-- Document 01, "The rules of taking back". Assumes nothing.
use Rattle.std.specs.Prelude.{◌≡◌, Bool, List, ℕ, length}
use Rattle.std.proofs.Math.Option.{Option}
use Rattle.lists.specs.Tables.{coded}
use Rattle.format.specs.Limits.{status_bytes}
use Rattle.journal.specs.Inputs.{Inputs}
use Rattle.journal.specs.Journal.{count, items, history}
use Rattle.journal.specs.Orders.{capacity_order, Refusal, decide}
use Rattle.journal.specs.Copy.{unchanged, copy_surviving}
use Rattle.journal.specs.Results.{UndoResult, result}
use Rattle.arrays.specs.Arrays.{Ready, ends_of}

-- the result of the transactions of fate 1, where only 14 is left to decide
unfoldable pub delivered : Inputs → List ℕ → List ℕ → List ℕ → UndoResult
delivered d fates status out =
    let k : ℕ → Bool = coded 1 fates in
    let v : Option Refusal = decide (capacity_order out (length (copy_surviving unchanged k d.journal))) in
    result unchanged (coded 2 fates) k v d status out

-- all n records passed, of m items; the end of each transaction; room for the statuses
pub record Deliverable (b : List ℕ) (n m : ℕ) (ends status : List ℕ) : Type 0 where
  pub ready : Ready b n
  pub counted : n ≡ count b
  pub keys : m ≡ items b
  pub ended : ends ≡ ends_of (history b n)
  pub status_length : length status ≡ status_bytes
