-- Amounts compared by their bits, the layout of the head and of a record, test by test.
-- Assumes nothing.
use mathlib.Core.Path.{◌≡◌, sym, ◌∙◌, ap}
use mathlib.Core.Bool.{Bool, true, false, cond, ◌&&◌}
use mathlib.Core.List.{List}
use mathlib.Core.Option.{none, some}
use Prim.Native.Nat.{ℕ, ◌+◌, ◌*◌, ◌<◌, ◌≤◌}
use lib.IntN.{pos}
use lib.Dec.{eqb, leb}
use lib.ListN.{length}
use borrow.Author.Tests.{eq-eqb, ne_eqb, lt-ltb, le-ltb, leb-true}
use mir.Syntax.{w32}
use mir.Val.{of_z, SFits}
use Rattle.lists.specs.Search.{or_else}
use Rattle.lists.proofs.BoolLaws.{by_cases, and_left, and_right, clash}
use Rattle.format.specs.declared.Record.{Record}
use Rattle.format.specs.Layout.{record_at}
use Rattle.format.proofs.BytesLaws.{amount-bits}
use Rattle.format.specs.Bytes.{amount}
use Rattle.model.specs.History.{Amount, same_amount}
use Rattle.model.proofs.Amounts.{same_refl, same-eq}
use Rattle.journal.specs.Journal.{tx_in, count, items}
use Rattle.journal.specs.Refusals.{within, head_right, malformed, short, truncated, bad_head}
use Rattle.journal.specs.Orders.{decide, open_order}
use Rattle.journal.specs.Calls.{Answer, refused, accepted, answered}
use Rattle.journal.proofs.Unrefused.{formed-cases}
use Rattle.journal.proofs.OrdersLaws.{or_else-none, decide-try, decide-turn, decide-over}
use Rattle.fields.specs.Answers.{Size}

pub same_bits : (a b : Amount) → SFits w32 a → SFits w32 b → eqb (of_z w32 a) (of_z w32 b) ≡ same_amount a b
same_bits a b f g =
    by_cases (same_amount a b)
    (λ e. rw e (eq-eqb _ _ (ap (of_z w32) (same-eq a b e))))
    (λ e. rw e (ne_eqb (of_z w32 a) (of_z w32 b) (λ q. clash (ap (same_amount a) (sym (sym (amount-bits f) ∙ ap amount q ∙ amount-bits g)) ∙ same_refl a) e)))

-- ---- the kind of a record that is not malformed

pub formed-kinds : (n : ℕ) (r : Record) → malformed n r ≡ false → (r.kind ≡ 1 → ⊥) → (r.kind ≡ 2 → ⊥) → (r.kind ≡ 3 → ⊥) → (r.kind ≡ 4 → ⊥) → ⊥
formed-kinds n r f a b c d = formed-cases n r f (λ k l z. a k) (λ k l. b k) (λ k z. c k) (λ k z. d k)

-- ---- the head

-- what its fields are, where it is right
pub head-counts : (r : Record) → head_right r ≡ true → (r.next.0 ≤ 3200) × (1 ≤ r.item.0) × (r.item.0 ≤ 1024)
head-counts r e =
    let a = eqb r.kind 0 in let b = eqb r.reserved 0 in let c = eqb (tx_in r) 0 in let d = leb r.next.0 3200 in
    let f = within 1 1024 r.item.0 in let g = same_amount r.before (pos 0) in
    let e1 = and_left (a && b && c && d && f && g) _ e in
    let e2 = and_left (a && b && c && d && f) _ e1 in
    let e3 = and_left (a && b && c && d) _ e2 in
    let w = and_right (a && b && c && d) _ e2 in
    (leb-true _ _ (and_right (a && b && c) _ e3), leb-true _ _ (and_left (leb 1 r.item.0) _ w), leb-true _ _ (and_right (leb 1 r.item.0) _ w))

-- ---- 1 and 2

module _ {A : Type 0} (b : List ℕ) (a : A) where
  open-parts : decide (open_order b)
      ≡ or_else (cond (short b) (some (record { number = 1; place = 0 })) none) (or_else (cond (bad_head b) (some (record { number = 2; place = 0 })) none) (cond (truncated b) (some (record { number = 1; place = 0 })) none))
  unfolding open_order
  open-parts = simp (decide-turn, decide-over, decide-try, or_else-none)

  pub open-short : length b < 20 → refused 1 0 ≡ answered (decide (open_order b)) a
  unfolding short
  open-short h = rw (open-parts, lt-ltb (length b) 20 h)

  module _ (l : 20 ≤ length b) where
    open-head : head_right (record_at b 0) ≡ false → refused 2 0 ≡ answered (decide (open_order b)) a
    unfolding short bad_head
    open-head h = rw (open-parts, le-ltb (length b) 20 l, h)

    module _ (h : head_right (record_at b 0) ≡ true) where
      open-truncated : length b < 20 * (count b + 1) → refused 1 0 ≡ answered (decide (open_order b)) a
      unfolding short bad_head truncated
      open-truncated t = rw (open-parts, le-ltb (length b) 20 l, h, lt-ltb (length b) (20 * (count b + 1)) t)

      open-right : 20 * (count b + 1) ≤ length b → accepted a ≡ answered (decide (open_order b)) a
      unfolding short bad_head truncated
      open-right t = rw (open-parts, le-ltb (length b) 20 l, h, le-ltb (length b) (20 * (count b + 1)) t)

  -- the same from a record r that was read, and a test h of it
  pub read-truncated : (r : Record) (h : Bool) → 20 ≤ length b → r ≡ record_at b 0 → h ≡ head_right r → h ≡ true → length b < 20 * (r.next.0 + 1) → refused 1 0 ≡ answered (decide (open_order b)) a
  unfolding count
  read-truncated r h l e f g t = open-truncated l (rw (← e) (sym f ∙ g)) (rw e at t)

  pub read_head : (r : Record) (h : Bool) → 20 ≤ length b → r ≡ record_at b 0 → h ≡ head_right r → h ≡ false → refused 2 0 ≡ answered (decide (open_order b)) a
  read_head r h l e f g = open-head l (rw (← e) (sym f ∙ g))

  read_right : (r : Record) (h : Bool) → 20 ≤ length b → r ≡ record_at b 0 → h ≡ head_right r → h ≡ true → 20 * (r.next.0 + 1) ≤ length b → accepted a ≡ answered (decide (open_order b)) a
  unfolding count
  read_right r h l e f g t = open-right l (rw (← e) (sym f ∙ g)) (rw e at t)

pub read-size : (b : List ℕ) (r : Record) (h : Bool) → 20 ≤ length b → r ≡ record_at b 0 → h ≡ head_right r → h ≡ true → 20 * (r.next.0 + 1) ≤ length b
    → ◌≡◌ {A = Answer Size} (accepted (record { records = r.next.0; items = r.item.0 })) (answered (decide (open_order b)) (record { records = count b; items = items b }))
unfolding count items
read-size b r h l e f g t = rw e (read_right b _ r h l e f g t)
