-- What start's order decides, and what start then answers and writes.
-- Assumes nothing.
use mathlib.Core.Path.{◌≡◌, ◌∙◌}
use mathlib.Core.Bool.{true}
use mathlib.Core.Logic.{◌⊎◌, inl, inr}
use mathlib.Core.List.{List}
use mathlib.Core.Option.{none, some}
use Prim.Native.Nat.{ℕ, ◌≤◌, ◌<◌}
use lib.ListN.{length}
use borrow.Author.Tests.{lt-ltb, le-ltb, le-leb, lt-leb}
use borrow.Rule.Slice.PartMut.{put_mid}
use Rattle.lists.proofs.TablesLaws.{part-stored}
use Rattle.format.specs.Layout.{bytes_of}
use Rattle.format.proofs.LayoutLaws.{length-bytes_of}
use Rattle.journal.specs.Refusals.{short, bad_items}
use Rattle.journal.specs.Orders.{Refusal, try, decide, start_order}
use Rattle.journal.specs.Copy.{head_with}
use Rattle.journal.specs.Calls.{refused, accepted, start}
use Rattle.journal.proofs.OrdersLaws.{decide-yes, decide-no, decide-one, decide-turn-none, decide-turn-some}

refuses : (b : List ℕ) (n : ℕ) {r : Refusal} → decide (start_order b n) ≡ some r → (refused r.number r.place ≡ (start b n).answer) × (b ≡ (start b n).journal)
unfolding start
refuses b n e = (rw e, rw e)

pub start-truncated : (b : List ℕ) (n : ℕ) → length b < 20 → (refused 1 0 ≡ (start b n).answer) × (b ≡ (start b n).journal)
unfolding start_order short
start-truncated b n h = refuses b n (decide-turn-some _ _ (decide-yes 1 0 (lt-ltb (length b) 20 h)))

past-short : (b : List ℕ) (n : ℕ) → 20 ≤ length b → decide (start_order b n) ≡ decide (try 2 0 (bad_items n))
unfolding start_order short
past-short b n h = decide-turn-none _ _ (decide-no 1 0 (le-ltb (length b) 20 h)) ∙ decide-one (try 2 0 (bad_items n))

pub start-items : (b : List ℕ) (n : ℕ) → 20 ≤ length b → (n < 1) ⊎ ((1 ≤ n) × (1024 < n)) → (refused 2 0 ≡ (start b n).answer) × (b ≡ (start b n).journal)
unfolding bad_items
start-items b n h k = refuses b n (past-short b n h ∙ decide-yes 2 0 (outside k))
  where
    outside : (n < 1) ⊎ ((1 ≤ n) × (1024 < n)) → bad_items n ≡ true
    outside (inl l) = simp (lt-leb 1 n l)
    outside (inr (l, m)) = simp (le-leb 1 n l, lt-leb n 1024 m)

-- the head is written into the first 20 bytes
pub started : (b : List ℕ) (n : ℕ) {v : List ℕ} → 20 ≤ length b → 1 ≤ n → n ≤ 1024 → v ≡ bytes_of (head_with 0 n) → (accepted tt ≡ (start b n).answer) × (put_mid 0 20 b v ≡ (start b n).journal)
unfolding start bad_items
started b n h j k w =
    let e : decide (start_order b n) ≡ none = past-short b n h ∙ decide-no 2 0 (simp (le-leb 1 n j, le-leb n 1024 k)) in
    (rw e, rw (e, w) (part-stored 0 20 (bytes_of (head_with 0 n)) b (length-bytes_of (head_with 0 n))))
