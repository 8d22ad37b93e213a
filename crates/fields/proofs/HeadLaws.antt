-- What follows from the answer of `header`.
-- Assumes nothing.
use mathlib.Core.Path.{◌≡◌, refl, sym, ◌∙◌, ap}
use mathlib.Core.Bool.{Bool, true}
use mathlib.Core.List.{List}
use mathlib.Core.Option.{none}
use Prim.Native.Nat.{ℕ, ◌+◌, ◌*◌, ◌≤◌}
use native.Mathlib.Omega.{arith}
use lib.ListN.{length}
use borrow.Author.Tests.{not-false, ltb-false}
use Rattle.format.specs.declared.Record.{Record}
use Rattle.format.specs.Layout.{record_at}
use Rattle.journal.specs.Journal.{count, items}
use Rattle.journal.specs.Refusals.{head_right, truncated, bad_head}
use Rattle.journal.specs.Orders.{decide, open_order}
use Rattle.journal.proofs.Clear.{decide-clear}
use Rattle.journal.proofs.Checked.{clear-opens}
use Rattle.fields.specs.declared.head.Journal.{Journal}
use Rattle.fields.specs.Answers.{Opened}
use Rattle.fields.proofs.Fields.{head-counts}

module _ (b : List ℕ) where
  pub head_opened : decide (open_order b) ≡ none → Opened b (count b) (items b)
  unfolding truncated bad_head count items
  head_opened e =
      let (s, h, t) = clear-opens b (decide-clear _ e) in
      let (n, l, u) = head-counts (record_at b 0) (not-false _ h) in
      let f : 20 * (count b + 1) ≤ length b = ltb-false (length b) (20 * (count b + 1)) t in
      record { counted = refl; keys = refl; long = omega arith; few = n; some = l; narrow = u }

  -- the same from a record r that was read, and a test h of it
  pub read-opened : (r : Record) (h : Bool) → r ≡ record_at b 0 → h ≡ head_right r → h ≡ true → 20 * (r.next.0 + 1) ≤ length b → Opened b r.next.0 r.item.0
  unfolding count items
  read-opened r h e f g l =
      let (n, s, u) = head-counts r (sym f ∙ g) in
      record { counted = ap (λ r. r.next.0) e; keys = ap (λ r. r.item.0) e; long = l; few = n; some = s; narrow = u }

-- a number is the bytes' record count, where it is that of the journal opened of them
pub opened-count : (n : ℕ) (p q : Journal) (b : List ℕ) → n ≡ p.records → p ≡ q → q.bytes.now ≡ b → n ≡ count b
opened-count n p q b v j h = v ∙ ap (λ j. j.records) j ∙ q.opened.counted ∙ ap count h
