-- The ends of transactions as numbers: 0 none, 1 committed, 2 aborted.
-- Assumes nothing.
use Rattle.std.specs.Prelude.{List, ℕ, map}
use Rattle.arrays.specs.declared.end.End.{End}
use Rattle.arrays.specs.declared.end.End.TheVariants.{Open, Committed, Aborted}

abbrev pub code_of : End → ℕ
code_of Open = 0
code_of Committed = 1
code_of Aborted = 2

abbrev pub codes : List End → List ℕ
codes l = map code_of l
