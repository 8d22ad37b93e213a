-- The definition of counting keeps the promise.
-- Assumes nothing.
use mathlib.Core.Path.{◌≡◌}
use mathlib.Core.List.{List}
use Prim.Native.Nat.{ℕ}
use Rattle.journal.specs.Inputs.{inputs_of}
use Rattle.journal.specs.Refusals.{RecordCounts}
use Rattle.journal.specs.Calls.{Answer, count_records}
use Rattle.demands.proofs.Counting.{counts-is, counting}
use Rattle.demands.proofs.Demands.{demand-1}
use Rattle.certified.specs.Promises.{CountPromise}

module _ (b : List ℕ) where
  count-keeps : CountPromise b (count_records b)
  count-keeps =
      record {
        counted = counts-is b;
        passing = λ t. counting.passing (inputs_of b t);
        refuses = demand-1.count_records b;
      }

  -- and so does every call whose answer is the definition's
  pub count-certified : {r : Answer RecordCounts} → r ≡ count_records b → CountPromise b r
  count-certified e = rw e count-keeps
