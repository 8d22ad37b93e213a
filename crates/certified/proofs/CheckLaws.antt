-- The definition of check keeps the promise.
-- Assumes nothing.
use mathlib.Core.Path.{◌≡◌, sym}
use mathlib.Core.Bool.{true, not}
use Prim.Native.Nat.{ℕ, ◌≤◌}
use Rattle.lists.specs.Search.{any}
use Rattle.lists.proofs.BoolLaws.{and_left}
use Rattle.model.specs.History.{of_tx, active, ended}
use Rattle.journal.specs.Inputs.{Inputs}
use Rattle.journal.specs.Journal.{whole}
use Rattle.journal.specs.Orders.{decide, check_order}
use Rattle.journal.specs.Calls.{Answer, check}
use Rattle.journal.proofs.Answered.{accepted-only}
use Rattle.demands.specs.Days.{Pass}
use Rattle.demands.proofs.DaysLaws.{pass-checks}
use Rattle.demands.proofs.Undone.{tx-range}
use Rattle.demands.proofs.Demands.{demand-1}
use Rattle.certified.specs.Promises.{CheckPromise}

module _ (d : Inputs) where
  active-within : Pass d → (s : ℕ) → active (whole d.journal) s ≡ true → (1 ≤ s) × (s ≤ 1024)
  active-within p s e =
      let j = whole d.journal in
      tx-range d.journal (pass-checks d p).sound s (and_left (any (of_tx s) j) (not (ended j s)) e)

  check-keeps : CheckPromise d (check d)
  unfolding check
  check-keeps =
      record {
        acceptance = (λ e. e, λ e. e);
        actives = λ n e. (accepted-only (decide (check_order d)) n _ (sym e)).1;
        within = active-within;
        refuses = demand-1.check d;
        lowest_record = demand-1.lowest_record.check d;
        lowest_item = demand-1.lowest_place.check_item d;
      }

  -- and so does every call whose answer is the definition's
  pub check-certified : {r : Answer ℕ} → r ≡ check d → CheckPromise d r
  check-certified e = rw e check-keeps
