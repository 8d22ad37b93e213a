-- The copy in one pass: kept records, each with the rank of its next among the kept records.
-- Assumes nothing.
use Rattle.std.specs.Prelude.{◌≡◌, Bool, cond, List, [], ◌∷◌, ◌++◌, ℕ, zero, suc, ◌*◌, ◌≤◌, length, get_or}
use Rattle.lists.specs.Tables.{store, coded}
use Rattle.format.specs.declared.Record.{Record}
use Rattle.format.specs.Layout.{record_at, bytes_of}
use Rattle.format.specs.Limits.{record_bytes, record_slots}
use Rattle.journal.specs.Journal.{tx_in, records}
use Rattle.journal.specs.Copy.{head_with, linked_to, encoded}

-- how many of records 1 to n are of transactions of k
unfoldable pub rank : (ℕ → Bool) → List ℕ → ℕ → ℕ
rank k b zero = 0
rank k b (suc n) = let m : ℕ = rank k b n in cond (k (tx_in (record_at b (suc n)))) (suc m) m

-- the ranks of records 1 to n
pub record Ranked (b fates : List ℕ) (n : ℕ) (ranks : List ℕ) : Type 0 where
  pub size : length ranks ≡ record_slots
  pub at : (i : ℕ) → i ≤ n → get_or ranks i 0 ≡ rank (coded 1 fates) b i

-- a record with its next by rank
unfoldable pub moved : List ℕ → Record → Record
moved ranks r = linked_to (get_or ranks r.next.0 0) r

-- the kept records, newest first
unfoldable pub moved_all : (ℕ → Bool) → List ℕ → List Record → List Record
moved_all k ranks [] = []
moved_all k ranks (r ∷ rs) = let rest : List Record = moved_all k ranks rs in cond (k (tx_in r)) (moved ranks r ∷ rest) rest

-- the bytes of the kept records of 1 to i
unfoldable pub copy_bytes : List ℕ → List ℕ → List ℕ → ℕ → List ℕ
copy_bytes b fates ranks i = encoded (moved_all (coded 1 fates) ranks (records b i))

-- the bytes of the copy of n records, with m items
unfoldable pub copy_with : List ℕ → List ℕ → List ℕ → ℕ → ℕ → List ℕ
copy_with b fates ranks n m = bytes_of (head_with (get_or ranks n 0) m) ++ copy_bytes b fates ranks n

-- what record i writes
unfoldable pub copy_step : List ℕ → List ℕ → List ℕ → ℕ → List ℕ → List ℕ
copy_step b fates ranks i out =
    let r : Record =
    record_at b i in cond (coded 1 fates (tx_in r)) (store (record_bytes * get_or ranks i 0) (bytes_of (moved ranks r)) out) out
