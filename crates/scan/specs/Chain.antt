-- The chain, worked out from the last record to the first.
-- Assumes nothing.
use Rattle.std.specs.Prelude.{Bool, cond, ◌&&◌, List, ℕ, zero, suc, leb}
use Rattle.lists.specs.Tables.{tabulate}
use Rattle.format.specs.Layout.{record_at}
use Rattle.format.specs.Limits.{max_transaction, transaction_slots}
use Rattle.model.specs.History.{next_in}
use Rattle.journal.specs.Journal.{tx_in, whole}
use Rattle.journal.specs.Refusals.{wrong_next}

-- the lowest later record of each transaction than record i, 0 none
unfoldable pub nexts_of : List ℕ → ℕ → List ℕ
nexts_of b i = tabulate (next_in (whole b) i) 0 transaction_slots

-- next is wrong, in a record whose transaction is not above 1,024
unfoldable pub broken : List ℕ → ℕ → Bool
broken b i = leb (tx_in (record_at b i)) max_transaction && wrong_next b i

-- the lowest such record of i, i + 1, .., n records; 0 none
unfoldable pub lowest_broken : List ℕ → ℕ → ℕ → ℕ
lowest_broken b i zero = 0
lowest_broken b i (suc n) = let l : ℕ = lowest_broken b (suc i) n in cond (broken b i) i l
