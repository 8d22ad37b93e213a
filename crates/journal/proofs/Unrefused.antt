-- What it says of a journal that refusals 1 to 10 and 14 do not hold, as facts on its bytes, fields and history.
-- Assumes nothing.
use mathlib.Core.Path.{◌≡◌, refl, sym, ◌∙◌, ap}
use mathlib.Core.Bool.{Bool, true, false, ◌&&◌, ◌||◌}
use mathlib.Core.List.{List, ◌∷◌}
use Prim.Native.Nat.{ℕ, zero, suc, ◌+◌, ◌*◌, ◌<◌, ◌≤◌}
use native.Mathlib.Omega.{arith}
use lib.Dec.{eqb, ltb, leb}
use lib.IntN.{pos}
use lib.ListN.{length}
use borrow.Author.Tests.{eqb-true, eq-eqb, ltb-true, ltb-false, leb-true, leb-false, le-leb, lt-leb, le-ltb}
use Rattle.std.proofs.lemmas.Bool.{not-false}
use Rattle.lists.specs.Search.{any}
use Rattle.lists.proofs.BoolLaws.{by_cases, clash, and_left, and_right, or_cases, or-false-left, or-false-right}
use Rattle.format.specs.declared.Record.{Record}
use Rattle.format.specs.Layout.{record_at}
use Rattle.model.specs.History.{Amount, Tag, same_amount, read, write, commit, abort, write_to, current, standing, next_in}
use Rattle.model.specs.Undo.{Upto}
use Rattle.model.proofs.Amounts.{same_refl, same-eq}
use Rattle.model.proofs.Opening.{Passing, opening, legal-passing}
use Rattle.model.proofs.Legal.{Right, Legal, NoBlindWrites}
use Rattle.model.proofs.Extension.{Numbered, Settled, legal-at}
use Rattle.journal.specs.Inputs.{Inputs}
use Rattle.journal.specs.Journal.{count, items, tx_in, op_of, history, whole, amount_at}
use Rattle.journal.specs.Copy.{head_with, linked_to}
use Rattle.journal.specs.Refusals.{within, truncated, head_right, bad_head, wrong_table, body_right, malformed, wrong_next, terminated, conflicting, blind, mismatched, unsettled, no_room}
use Rattle.journal.specs.Calls.{opening_at}
use Rattle.journal.proofs.Checked.{Sound}
use Rattle.journal.proofs.Records.{tag_of-op_of, length-history, history-suc, history-upto}
use Rattle.journal.proofs.Stored.{record-path}

-- ---- 1 and 14: the length and the room

pub sound-long : {b : List ℕ} → Sound b → 20 * (count b + 1) ≤ length b
unfolding truncated
sound-long s = ltb-false _ _ s.full

pub room : (b : List ℕ) → no_room b ≡ false → (count b < 3200) × (20 * (count b + 1) + 20 ≤ length b)
unfolding no_room
room b e = (
  leb-false 3200 (count b) (or-false-left _ (ltb (length b) (20 * (count b + 1) + 20)) e),
  ltb-false (length b) (20 * (count b + 1) + 20) (or-false-right (leb 3200 (count b)) _ e),
)

pub room_for : (b : List ℕ) → count b < 3200 → 20 * (count b + 1) + 20 ≤ length b → no_room b ≡ false
unfolding no_room
room_for b h k = rw (lt-leb 3200 (count b) h, le-ltb (length b) (20 * (count b + 1) + 20) k)

-- ---- 2: the head

pub record HeadFields (r : Record) : Type 0 where
  pub kind : r.kind ≡ 0
  pub reserved : r.reserved ≡ 0
  pub tx : tx_in r ≡ 0
  pub count : r.next.0 ≤ 3200
  pub items : within 1 1024 r.item.0 ≡ true
  pub before : r.before ≡ pos 0
  pub after : r.after ≡ pos 0

head_fields : (r : Record) → head_right r ≡ true → HeadFields r
head_fields r e =
    let c2 : Bool = eqb r.kind 0 && eqb r.reserved 0 in
    let c3 : Bool = c2 && eqb (tx_in r) 0 in
    let c4 : Bool = c3 && leb r.next.0 3200 in
    let c5 : Bool = c4 && within 1 1024 r.item.0 in
    let c6 : Bool = c5 && same_amount r.before (pos 0) in
    let e6 = and_left c6 (same_amount r.after (pos 0)) e in
    let e5 = and_left c5 (same_amount r.before (pos 0)) e6 in
    let e4 = and_left c4 (within 1 1024 r.item.0) e5 in
    let e3 = and_left c3 (leb r.next.0 3200) e4 in
    let e2 = and_left c2 (eqb (tx_in r) 0) e3 in
    record {
      kind = eqb-true r.kind 0 (and_left (eqb r.kind 0) (eqb r.reserved 0) e2);
      reserved = eqb-true r.reserved 0 (and_right (eqb r.kind 0) (eqb r.reserved 0) e2);
      tx = eqb-true (tx_in r) 0 (and_right c2 (eqb (tx_in r) 0) e3);
      count = leb-true r.next.0 3200 (and_right c3 (leb r.next.0 3200) e4);
      items = and_right c4 (within 1 1024 r.item.0) e5;
      before = same-eq r.before (pos 0) (and_right c5 (same_amount r.before (pos 0)) e6);
      after = same-eq r.after (pos 0) (and_right c6 (same_amount r.after (pos 0)) e);
    }

head_right-head_fields : (r : Record) → HeadFields r → head_right r ≡ true
head_right-head_fields r h = rw (h.kind, h.reserved, h.tx, le-leb r.next.0 3200 h.count, h.items, h.before, h.after)

pub head-head_fields : (b : List ℕ) → bad_head b ≡ false → HeadFields (record_at b 0)
unfolding bad_head
head-head_fields b e = head_fields (record_at b 0) (not-false _ e)

pub head_fields-head : (b : List ℕ) → HeadFields (record_at b 0) → bad_head b ≡ false
unfolding bad_head
head_fields-head b h = rw (head_right-head_fields (record_at b 0) h)

pub head-is : (b : List ℕ) → bad_head b ≡ false → record_at b 0 ≡ head_with (count b) (items b)
unfolding count items
head-is b e =
    let h = head-head_fields b e in
    record-path h.kind h.reserved h.tx refl refl h.before h.after

pub count-bound : (b : List ℕ) → bad_head b ≡ false → count b ≤ 3200
unfolding count
count-bound b e = (head-head_fields b e).count

-- ---- 3: the table

pub table-length : (b : List ℕ) (t : List Amount) → wrong_table b t ≡ false → length t ≡ items b
unfolding wrong_table
table-length b t e = eqb-true _ _ (not-false _ e)

pub length-table : (b : List ℕ) (t : List Amount) → length t ≡ items b → wrong_table b t ≡ false
unfolding wrong_table
length-table b t e = rw (eq-eqb _ _ e)

-- ---- 4: a record in its layout

pub record Formed (m : ℕ) (r : Record) : Type 0 where
  pub reserved : r.reserved ≡ 0
  pub tx : within 1 1024 (tx_in r) ≡ true
  pub body : body_right m r ≡ true

pub formed : (m : ℕ) (r : Record) → malformed m r ≡ false → Formed m r
unfolding malformed
formed m r e =
    let h = not-false _ e in
    let g = and_left _ (body_right m r) h in
    record {
      reserved = eqb-true r.reserved 0 (and_left _ (within 1 1024 (tx_in r)) g);
      tx = and_right (eqb r.reserved 0) _ g;
      body = and_right (eqb r.reserved 0 && within 1 1024 (tx_in r)) _ h;
    }

pub malformed-linked_to : (m n : ℕ) (r : Record) → malformed m (linked_to n r) ≡ malformed m r
unfolding malformed
malformed-linked_to m n r = refl

-- the four kinds
pub formed-cases : {P : Type 0} (m : ℕ) (r : Record) → malformed m r ≡ false
    → (r.kind ≡ 1 → r.item.0 < m → r.before ≡ pos 0 → P) → (r.kind ≡ 2 → r.item.0 < m → P)
    → (r.kind ≡ 3 → r.before ≡ pos 0 → P) → (r.kind ≡ 4 → r.before ≡ pos 0 → P) → P
formed-cases m r e f g h k =
    let w : body_right m r ≡ true = (formed m r e).body in
    let i : Bool = ltb r.item.0 m in
    let z : Bool = eqb r.item.0 0 in
    let b : Bool = same_amount r.before (pos 0) in
    let a : Bool = same_amount r.after (pos 0) in
    by_cases (eqb r.kind 1)
    (λ k1. let v : i && b && a ≡ true = rw k1 at w in let u = and_left (i && b) a v in
    f (eqb-true r.kind 1 k1) (ltb-true r.item.0 m (and_left i b u)) (same-eq r.before (pos 0) (and_right i b u)))
    (λ n1. by_cases (eqb r.kind 2)
    (λ k2. g (eqb-true r.kind 2 k2) (ltb-true r.item.0 m (rw (n1, k2) at w)))
    (λ n2. by_cases (eqb r.kind 3 || eqb r.kind 4)
    (λ k3. let v : z && b && a ≡ true = rw (n1, n2, k3) at w in
    let none : r.before ≡ pos 0 = same-eq r.before (pos 0) (and_right z b (and_left (z && b) a v)) in
    or_cases (eqb r.kind 3) (eqb r.kind 4) k3 (λ q. h (eqb-true r.kind 3 q) none) (λ q. k (eqb-true r.kind 4 q) none))
    (λ n3. clash (rw (n1, n2, n3) at w) refl)))

-- the operation, by the kind
pub op_of-read : (i : Tag) (r : Record) → r.kind ≡ 1 → op_of i r ≡ read i (tx_in r) r.item.0
unfolding op_of
op_of-read i r e = rw e

pub op_of-write : (i : Tag) (r : Record) → r.kind ≡ 2 → op_of i r ≡ write i (tx_in r) r.item.0 r.before r.after
unfolding op_of
op_of-write i r e = rw e

pub op_of-commit : (i : Tag) (r : Record) → r.kind ≡ 3 → op_of i r ≡ commit i (tx_in r)
unfolding op_of
op_of-commit i r e = rw e

pub op_of-abort : (i : Tag) (r : Record) → r.kind ≡ 4 → op_of i r ≡ abort i (tx_in r)
unfolding op_of
op_of-abort i r e = rw e

-- ---- 5 and 10: the chain and the amounts

pub chained-next : (b : List ℕ) (i : ℕ) → wrong_next b i ≡ false → (record_at b i).next.0 ≡ next_in (whole b) i (tx_in (record_at b i))
unfolding wrong_next
chained-next b i e = eqb-true _ _ (not-false _ e)

pub next-chained : (b : List ℕ) (i : ℕ) → (record_at b i).next.0 ≡ next_in (whole b) i (tx_in (record_at b i)) → wrong_next b i ≡ false
unfolding wrong_next
next-chained b i e = rw (eq-eqb _ _ e)

pub settled-amount : (b : List ℕ) (t : List Amount) (x : ℕ) → unsettled b t x ≡ false → Settled (amount_at t x) (whole b) x
unfolding unsettled
settled-amount b t x e w = same-eq _ _ (not-false _ (rw w at e))

pub amount-settled : (b : List ℕ) (t : List Amount) (x : ℕ) → Settled (amount_at t x) (whole b) x → unsettled b t x ≡ false
unfolding unsettled
amount-settled b t x h = by_cases (any (write_to x) (whole b)) (λ w. let q : same_amount (standing (amount_at t x) (whole b) x) (amount_at t x) ≡ true = ap (λ v. same_amount v (amount_at t x)) (h w) ∙ same_refl (amount_at t x) in rw (w, q)) (λ w. rw w)

-- ---- 6 to 9: the history

pub history-numbered : (b : List ℕ) (n : ℕ) → Numbered (history b n)
unfolding history
history-numbered b zero = tt
history-numbered b (suc n) = (history-numbered b n, tag_of-op_of (suc n) (record_at b (suc n)) ∙ ap suc (sym (length-history b n)))

pub record-upto : (b : List ℕ) (i n : ℕ) → i < n → Upto (op_of (suc i) (record_at b (suc i)) ∷ history b i) (history b n)
record-upto b i n h = rw (history-suc b i) at (history-upto b (suc i) n h)

pub sound-passing : {b : List ℕ} → Sound b → (n : ℕ) → n ≤ count b → Passing (history b n)
unfolding history terminated conflicting mismatched
sound-passing s zero h = Passing.start
sound-passing s (suc n) h =
    let w = s.right n h in
    Passing.step (sound-passing s n (omega arith)) (record { not_terminated = w.follows.not_terminated; not_conflicting = w.follows.not_conflicting; matched = w.matched })

pub sound-no_blind : {b : List ℕ} → Sound b → (n : ℕ) → n ≤ count b → NoBlindWrites (history b n)
unfolding history blind
sound-no_blind s zero h = tt
sound-no_blind s (suc n) h = (sound-no_blind s n (omega arith), (s.right n h).follows.not_blind)

-- a write's before is the standing amount from the opening table, the item's first write included
pub before-standing : (d : Inputs) → Sound d.journal → (i : ℕ) → i < count d.journal → (record_at d.journal (suc i)).kind ≡ 2
    → (record_at d.journal (suc i)).before
    ≡ current (opening_at d (record_at d.journal (suc i)).item.0) (history d.journal i) (record_at d.journal (suc i)).item.0
unfolding whole opening_at
before-standing d s i h e =
    let b = d.journal in
    let o : ℕ → Amount = opening (amount_at d.table) (history b (count b)) in
    let l : Legal o (history b (count b)) = legal-passing (amount_at d.table) (history b (count b)) (sound-passing s (count b) (omega arith)) in
    let w : Right o (history b i) (op_of (suc i) (record_at b (suc i))) = (legal-at o l (record-upto b i (count b) h)).right in
    rw (op_of-write (suc i) (record_at b (suc i)) e) at w
