-- Working arrays: a flag for each transaction, and its fate.
-- Assumes nothing.
use Rattle.std.specs.Prelude.{Bool, false, cond, List, ℕ, eqb, get_or, map}
use Rattle.lists.specs.Search.{member}
use Rattle.lists.specs.Tables.{tabulate}
unfoldable pub use Rattle.lists.specs.Tables.{coded}
use Rattle.format.specs.Limits.{transaction_slots}
use Rattle.trace.specs.declared.Fate.{Fate}
use Rattle.trace.specs.declared.Fate.TheVariants.{Neither, Surviving, Undone}

-- a flag for each transaction of a list
unfoldable pub flags_of : List ℕ → List Bool
flags_of m = tabulate (λ s. member s m) 0 transaction_slots

-- the status of a fate: 1 surviving, 2 undone, 0 neither
abbrev pub fate_code : Fate → ℕ
fate_code Neither = 0
fate_code Surviving = 1
fate_code Undone = 2

-- the statuses of all transactions
abbrev pub fate_codes : List Fate → List ℕ
fate_codes fates = map fate_code fates

-- its fate, from its end and its flag: surviving (committed, no flag), undone (committed, a flag), neither
abbrev pub fate_of : ℕ → Bool → Fate
fate_of end flag = cond (eqb end 1) (cond flag Undone Surviving) Neither

-- the fates of all transactions
unfoldable pub fates_of : List ℕ → List Bool → List Fate
fates_of ends flags = tabulate (λ s. fate_of (get_or ends s 0) (get_or flags s false)) 0 transaction_slots
