-- The definition of start keeps the promise.
-- Assumes nothing.
use mathlib.Core.Path.{◌≡◌}
use mathlib.Core.Bool.{true}
use mathlib.Core.List.{List}
use Prim.Native.Nat.{ℕ}
use Rattle.journal.specs.Inputs.{inputs_of}
use Rattle.journal.specs.Calls.{StartResult, start}
use Rattle.journal.proofs.Appending.{length-started, count-started, items-started, checks-started}
use Rattle.demands.specs.Days.{accepts}
use Rattle.demands.proofs.DaysLaws.{checks-pass}
use Rattle.demands.proofs.Appending.{started-clear}
use Rattle.demands.proofs.Demands.{demand-1}
use Rattle.demands.proofs.Behind.{behind}
use Rattle.certified.specs.Promises.{Fresh, StartPromise}

module _ (b : List ℕ) (n : ℕ) where
  fresh : accepts (start b n).answer ≡ true → Fresh b n (start b n).journal
  fresh e =
      let c = started-clear b n e in
      record {
        count = count-started b n c;
        items = items-started b n c;
        pass = λ t h. checks-pass _ (checks-started b n c (inputs_of b t) h);
        size = length-started b n c;
        behind = behind.start b n;
      }

  start-keeps : StartPromise b n (start b n)
  start-keeps =
      record { started = fresh; refuses = demand-1.start b n }

  -- and so does every call whose answer and loan are the definition's
  pub start-certified : {r : StartResult} → r.answer ≡ (start b n).answer → r.journal ≡ (start b n).journal → StartPromise b n r
  start-certified {r} answer journal = let e : r ≡ start b n = λ i. record { answer = answer i; journal = journal i } in rw e start-keeps
