-- What check, post and take-back are lent to read: the journal and the table. The calls, their orders and the statements about them
-- take these as one record; what a journal alone says, its records, history and rules, takes the bytes.
-- Document 01, "The calls beside it". Assumes nothing.
use Rattle.std.specs.Prelude.{List, ℕ}
use Rattle.model.specs.History.{Amount}

pub record Inputs : Type 0 where
  pub journal : List ℕ
  pub table : List Amount

abbrev pub inputs_of : List ℕ → List Amount → Inputs
inputs_of b t = record { journal = b; table = t }

-- with another journal
abbrev pub onto : List ℕ → Inputs → Inputs
onto b d = record { journal = b; table = d.table }

-- with another journal and table, as the next call gets them
abbrev pub handed_on : List ℕ → List Amount → Inputs → Inputs
handed_on b t d = record { journal = b; table = t }
