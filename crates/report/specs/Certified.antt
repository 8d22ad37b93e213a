-- What a report promises: its text is the lines of a take-back that keeps its own promise.
-- Document 01, "The program's day". Assumes nothing.
use Rattle.std.specs.Prelude.{◌≡◌, List, ℕ}
use Rattle.journal.specs.Inputs.{Inputs}
use Rattle.journal.specs.Calls.{UndoResult}
use Rattle.certified.specs.Promises.{UndoPromise}
use Rattle.report.specs.Output.{lines_of}

-- the text reports a take-back of d with this list, marks and paper
pub record Reports (d : Inputs) (bad status out text : List ℕ) : Type 0 where
  pub result : UndoResult
  pub promise : UndoPromise d bad status out result
  pub lines : text ≡ lines_of d result
