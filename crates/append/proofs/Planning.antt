-- Check, then the new record: what is decided of append, and what check leaves for it.
-- Assumes nothing.
use mathlib.Core.Path.{◌≡◌}
use mathlib.Core.List.{[], ◌∷◌}
use mathlib.Core.Option.{none, some}
use Prim.Native.Nat.{ℕ}
use Rattle.lists.specs.Search.{or_else}
use Rattle.format.specs.declared.Record.{Record}
use Rattle.journal.specs.Inputs.{Inputs}
use Rattle.journal.specs.declared.Reason.{Reason}
use Rattle.journal.specs.Reasons.{number_of, place_of}
use Rattle.journal.specs.Journal.{count}
use Rattle.journal.specs.Refusals.{RecordCounts}
use Rattle.journal.specs.Orders.{counts_order, new_order, check_order, append_order, decide}
use Rattle.journal.specs.Calls.{refused, accepted, answered}
use Rattle.journal.specs.Outcomes.{refusal_of}
use Rattle.journal.proofs.OrdersLaws.{decide-turn}
use Rattle.entry.specs.Entries.{entry_order}

module _ (d : Inputs) (c : RecordCounts) (r : Record) where
  append-parts : decide (append_order d c r) ≡ or_else (decide (check_order d)) (decide (entry_order d.journal c r))
  unfolding append_order entry_order
  append-parts = decide-turn (check_order d) (counts_order d.journal c ∷ new_order d.journal r ∷ [])

  pub plan-refused : (why : Reason) → some (refusal_of why) ≡ decide (check_order d) → refused (number_of why) (place_of why) ≡ answered (decide (append_order d c r)) (count d.journal)
  plan-refused why e = rw (append-parts, ← e)

  module _ (e : none ≡ decide (check_order d)) where
    pub plan-barred : (why : Reason) → some (refusal_of why) ≡ decide (entry_order d.journal c r) → refused (number_of why) (place_of why) ≡ answered (decide (append_order d c r)) (count d.journal)
    plan-barred why y = rw (append-parts, ← e, ← y)

    pub plan-entered : (n : ℕ) → n ≡ count d.journal → none ≡ decide (entry_order d.journal c r) → accepted n ≡ answered (decide (append_order d c r)) (count d.journal)
    plan-entered n k y = rw (append-parts, ← e, ← y, k)
