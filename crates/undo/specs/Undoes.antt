-- What a take-back answers, and what it leaves in each loan: document 01's result.
-- Assumes nothing.
use Rattle.std.specs.Prelude.{◌≡◌, List, ℕ}
use Rattle.model.specs.History.{Amount}
use Rattle.journal.specs.Inputs.{Inputs}
use Rattle.journal.specs.Calls.{Answer, UndoTotals, UndoResult, undo}

-- a take-back that was lent d, bad, status and out answers a, and leaves the table t', the statuses status' and the paper out'
abbrev pub Undoes : Inputs → List ℕ → List ℕ → List ℕ → Answer UndoTotals → List Amount → List ℕ → List ℕ → Type 0
Undoes d bad status out a t' status' out' =
    let r : UndoResult = undo d bad status out in
    (a ≡ r.answer) × ((t' ≡ r.table) × ((status' ≡ r.status) × (out' ≡ r.out)))
