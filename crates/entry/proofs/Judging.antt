-- Rules 15, 4, 6 to 8 and 14 of the new record, one after the other.
-- Assumes nothing.
use mathlib.Core.Path.{◌≡◌, ◌∙◌}
use mathlib.Core.Bool.{cond}
use mathlib.Core.List.{List, [], ◌∷◌}
use mathlib.Core.Option.{none}
use Prim.Native.Nat.{ℕ, ◌+◌}
use native.Mathlib.Numerals.{add-one}
use Rattle.lists.specs.Search.{or_else}
use Rattle.format.specs.declared.Record.{Record}
use Rattle.journal.specs.Journal.{count, items, op_of, history, whole}
use Rattle.journal.specs.Refusals.{RecordCounts, malformed, no_room, wrong_counts}
use Rattle.journal.specs.Orders.{access_order, counts_order, new_order, decide}
use Rattle.journal.proofs.OrdersLaws.{or_else-none, decide-try, decide-turn, decide-over, decide-one}
use Rattle.rules.proofs.RuleLaws.{at}
use Rattle.entry.specs.Entries.{entry_order}

-- 4, then 6 to 8, then 14
pub new_parts : (b : List ℕ) (r : Record) → decide (new_order b r)
    ≡ or_else (cond (malformed (items b) r) (at 4 (count b + 1)) none)
    (or_else (decide (access_order (history b (count b)) (count b + 1) (op_of (count b + 1) r))) (cond (no_room b) (at 14 0) none))
unfolding new_order whole
new_parts b r = simp (add-one, decide-turn, decide-over, decide-try, or_else-none)

-- 15, then the new record
pub entry_parts : (b : List ℕ) (c : RecordCounts) (r : Record) → decide (entry_order b c r) ≡ or_else (cond (wrong_counts b c) (at 15 0) none) (decide (new_order b r))
unfolding entry_order counts_order
entry_parts b c r = decide-turn (counts_order b c) (new_order b r ∷ []) ∙ rw (decide-try 15 0 (wrong_counts b c), decide-one (new_order b r))
