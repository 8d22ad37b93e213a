-- The definition of slip keeps the promise.
-- Assumes nothing.
use mathlib.Core.Path.{◌≡◌, sym, ◌∙◌, ap}
use mathlib.Core.Bool.{true}
use mathlib.Core.List.{List}
use mathlib.Core.Option.{none}
use Prim.Native.Nat.{ℕ}
use lib.ListN.{length}
use Rattle.lists.specs.Search.{keep}
use Rattle.model.specs.History.{of_tx}
use Rattle.journal.specs.Journal.{whole}
use Rattle.journal.specs.Orders.{decide, sound_order, chain_order}
use Rattle.journal.specs.Calls.{ChainResult, accepted, written, chain_of, chain}
use Rattle.journal.proofs.Clear.{clear-turns, turns-clear, decide-clear, clear-decide}
use Rattle.journal.proofs.Answered.{accepted-only}
use Rattle.demands.specs.Days.{accepts}
use Rattle.demands.proofs.DaysLaws.{answered-none}
use Rattle.demands.proofs.Demands.{demand-1}
use Rattle.chain.specs.Visits.{lsns_of}
use Rattle.chain.proofs.Numbers.{visits, visit-count}
use Rattle.certified.specs.Promises.{ChainPromise}

module _ (b : List ℕ) (s : ℕ) (l : List ℕ) where
  decided : accepts (chain b s l).answer ≡ true → decide (chain_order b s l (length (chain_of b s))) ≡ none
  unfolding chain
  decided e = answered-none _ _ e

  sound : accepts (chain b s l).answer ≡ true → decide (sound_order b) ≡ none
  unfolding chain_order sound_order
  sound e = let (opens, (right, rest)) = turns-clear _ (decide-clear _ (decided e)) in clear-decide (clear-turns _ (opens, (right, tt)))

  numbers : accepts (chain b s l).answer ≡ true → (chain b s l).lsns ≡ written (lsns_of (keep (of_tx s) (whole b))) l
  unfolding chain
  numbers e = rw (decided e) (ap (λ v. written v l) (visits b s (sound e)))

  visited : (n : ℕ) → (chain b s l).answer ≡ accepted n → n ≡ length (keep (of_tx s) (whole b))
  unfolding chain
  visited n e = (accepted-only (decide (chain_order b s l (length (chain_of b s)))) n (length (chain_of b s)) (sym e)).1 ∙ visit-count b s (sound (ap accepts e))

  chain-keeps : ChainPromise b s l (chain b s l)
  chain-keeps =
      record {
        sound = sound;
        numbers = numbers;
        visited = visited;
        refuses = demand-1.chain b s l;
        lowest_record = demand-1.lowest_record.chain b s l;
      }

  -- and so does every call whose answer and loan are the definition's
  pub chain-certified : {r : ChainResult} → r.answer ≡ (chain b s l).answer → r.lsns ≡ (chain b s l).lsns → ChainPromise b s l r
  chain-certified {r} answer lsns = let e : r ≡ chain b s l = λ i. record { answer = answer i; lsns = lsns i } in rw e chain-keeps
