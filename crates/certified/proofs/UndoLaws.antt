-- The definition of take-back keeps the promise, for a journal of bytes.
-- Assumes nothing.
use mathlib.Core.Path.{◌≡◌}
use mathlib.Core.Bool.{true}
use mathlib.Core.List.{List}
use Prim.Native.Nat.{ℕ}
use Rattle.format.specs.Bytes.{Bytes}
use Rattle.journal.specs.Inputs.{Inputs}
use Rattle.journal.specs.Calls.{UndoTotals, UndoResult, undo}
use Rattle.demands.specs.Undoing.{Accepted}
use Rattle.demands.proofs.Demands.{demand-1, demand-2, demand-3}
use Rattle.demands.proofs.Requests.{requests}
use Rattle.certified.specs.Promises.{Repaired, UndoPromise}

module _ (d : Inputs) (bad status out : List ℕ) where
  repaired : (n : UndoTotals) → Accepted d bad status out n → Repaired d bad out (undo d bad status out) n
  repaired n a =
      let u = demand-2.set d bad status out n a in
      record {
        left = demand-3.left d bad status out n a;
        meaning = u.meaning;
        least = λ g. u.least (λ s. g s ≡ true);
        fewest = demand-3.fewest d bad status out n a;
        deleted = demand-2.copy_and_table d bad status out n a;
        sum = requests.sum.tables d bad status out n a;
      }

  module _ (bytes : Bytes d.journal) where
    undo-keeps : UndoPromise d bad status out (undo d bad status out)
    undo-keeps =
        record {
          acceptance = demand-3.exactly d bad status out;
          repaired = λ n e. repaired n (record { bytes = bytes; answer = e });
          refuses = demand-1.undo d bad status out;
          lowest_record = demand-1.lowest_record.undo d bad status out;
          lowest_item = demand-1.lowest_place.undo_item d bad status out;
          lowest_transaction = demand-1.lowest_place.transaction d bad status out;
          lowest_position = demand-1.lowest_place.position d bad status out;
        }

    -- and so does every call whose answer and loans are the definition's
    pub undo-certified : {r : UndoResult} → r.answer ≡ (undo d bad status out).answer → r.table ≡ (undo d bad status out).table
        → r.status ≡ (undo d bad status out).status → r.out ≡ (undo d bad status out).out → UndoPromise d bad status out r
    undo-certified {r} answer table marks paper =
        let e : r ≡ undo d bad status out = λ i. record { answer = answer i; table = table i; status = marks i; out = paper i } in
        rw e undo-keeps
