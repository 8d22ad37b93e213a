-- The stages that find a transaction's first record, and the walk from there.
-- Assumes nothing.
use Rattle.std.specs.Prelude.{cond, List, [], ◌∷◌, ℕ, eqb, get_or}
use Rattle.journal.specs.Orders.{Order, in_turn, open_order, records_order, present_order}
use Rattle.journal.specs.Journal.{count}
use Rattle.journal.specs.Calls.{Answer, refused, accepted, walk}

-- the first record of transaction s in an array of first records, 0 for none; 12 without one
unfoldable pub first_in : List ℕ → ℕ → Answer ℕ
first_in firsts s = cond (eqb (get_or firsts s 0) 0) (refused 12 0) (accepted (get_or firsts s 0))

-- slip after the head: 4 to 9, then 12
unfoldable pub first_order : List ℕ → ℕ → Order
first_order b s = in_turn (records_order b ∷ present_order b s ∷ [])

-- slip up to 12
unfoldable pub begin_order : List ℕ → ℕ → Order
begin_order b s = in_turn (open_order b ∷ records_order b ∷ present_order b s ∷ [])

-- the record numbers from record i on along the chain
abbrev pub walk_from : List ℕ → ℕ → List ℕ
walk_from b i = walk b (count b) i
