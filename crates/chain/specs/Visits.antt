-- On a journal that passes 1, 2 and 4 to 9 the chain walked is exactly the record numbers of the transaction's records, in order,
-- and as many.
-- Assumes nothing.
use Rattle.std.specs.Prelude.{◌≡◌, List, [], ◌∷◌, ◌++◌, ℕ, length}
use Rattle.std.proofs.Math.Option.{none}
use Rattle.lists.specs.Search.{keep}
use Rattle.model.specs.History.{History, tag_of, of_tx}
use Rattle.journal.specs.Journal.{whole}
use Rattle.journal.specs.Orders.{sound_order, decide}
use Rattle.journal.specs.Calls.{chain_of}

-- the record numbers of operations, oldest first
unfoldable pub lsns_of : History → List ℕ
lsns_of [] = []
lsns_of (r ∷ p) = lsns_of p ++ tag_of r ∷ []

abbrev pub Visits : Type 0
Visits = (b : List ℕ) (s : ℕ) → decide (sound_order b) ≡ none → chain_of b s ≡ lsns_of (keep (of_tx s) (whole b))

abbrev pub VisitCount : Type 0
VisitCount = (b : List ℕ) (s : ℕ) → decide (sound_order b) ≡ none → length (chain_of b s) ≡ length (keep (of_tx s) (whole b))
