-- Counting hands out the tally that post asks for, of a stored journal or of a copy: posting goes on with it.
-- proofs/Counting.antt proves the statement. Assumes nothing.
use Rattle.std.specs.Prelude.{◌≡◌, true, ℕ}
use Rattle.model.specs.History.{Amount}
use Rattle.journal.specs.Inputs.{Inputs}
use Rattle.journal.specs.Refusals.{RecordCounts}
use Rattle.journal.specs.Calls.{refused, accepted, append, count_records}
use Rattle.demands.specs.Days.{accepts, Pass}
use Rattle.demands.specs.Appending.{AppendState, AppendReady}

pub record Counting : Type 0 where
  -- every journal that passes with its table is counted, so each copy that take-back leaves
  pub passing : (d : Inputs) → Pass d → accepts (count_records d.journal) ≡ true
  -- post with the tally answered is never refused by 15
  pub agrees : (d : Inputs) (c : RecordCounts) (kind s x : ℕ) (a : Amount) (place : ℕ) → count_records d.journal ≡ accepted c
      → (append d c kind s x a).answer ≡ refused 15 place → ⊥
  -- where posting can go on, as after any run of posts, it is the tally lent there
  pub ready : (d : AppendState) → AppendReady d → count_records d.inputs.journal ≡ accepted d.counts
