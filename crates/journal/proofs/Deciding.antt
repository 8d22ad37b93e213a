-- Which stage of an order decides a refusal: the one that has its number; and in a stage over places the lowest.
-- Assumes nothing.
use mathlib.Core.Path.{◌≡◌, refl, sym, ◌∙◌, ap}
use mathlib.Core.Bool.{Bool, true, false, cond, not, ◌&&◌}
use mathlib.Core.List.{List, [], ◌∷◌, ◌++◌}
use mathlib.Core.Option.{none, some, none-ne-some}
use Prim.Native.Nat.{ℕ, ◌<◌, ◌≤◌}
use lib.Dec.{eqb}
use borrow.Author.Tests.{ne_eqb}
use Rattle.std.proofs.lemmas.Bool.{not-true, or_left, or_right}
use Rattle.lists.specs.Search.{any, member}
use Rattle.lists.specs.Tables.{each}
use Rattle.lists.proofs.BoolLaws.{by_cases, clash, and_left, and_right, or-false-left, or-false-right}
use Rattle.lists.proofs.MemberLaws.{member-append}
use Rattle.journal.specs.Orders.{Trial, Order, try, try_each, in_turn, decide}
use Rattle.journal.proofs.OrdersLaws.{refusal_at, decide-over, decide-turn-none, decide-turn-some, decide-cases, decide-each}
use Rattle.journal.proofs.Clear.{All, all_append, all_more, all-try, decide-all, decide-clear, try-clear}

-- the number is one of these
abbrev pub NumberIn : List ℕ → Trial → Type 0
NumberIn ns t = member t.refusal.number ns ≡ true

-- ---- the refusal n at place p, and what follows where an order gives it

module _ (n p : ℕ) (Q : Type 0) where
  abbrev pub Says : Order → Type 0
  Says o = decide o ≡ some (refusal_at n p) → Q

  -- of each stage
  abbrev Saying : List Order → Type 0
  Saying [] = Unit {0}
  Saying (o ∷ os) = Says o × Saying os

  pub says-turn : (o : Order) (os : List Order) → Says o → Says (in_turn os) → Says (in_turn (o ∷ os))
  says-turn o os s ss e =
      decide-cases o
      (λ z. ss (sym (decide-turn-none o os z) ∙ e))
      (λ r z. s (z ∙ sym (decide-turn-some o os z) ∙ e))

  says-turns : (os : List Order) → Saying os → Says (in_turn os)
  says-turns [] s e = absurd (none-ne-some (refusal_at n p) (sym decide-over ∙ e))
  says-turns (o ∷ os) (s, ss) e = says-turn o os s (says-turns os ss) e

  -- an order whose conditions are others
  pub elsewhere : (P : Trial → Type 0) {o : Order} → All P o → ((t : Trial) → P t → t.refusal ≡ refusal_at n p → ⊥) → Says o
  elsewhere P a f e = let (t, h, q, x) = decide-all P a (refusal_at n p) e in absurd (f t x q)

-- ---- the stage that has a number of a list

-- the numbers of a stage, and of each stage
abbrev pub Label : Order → Type 0
Label o = (ns : List ℕ) × All (NumberIn ns) o

abbrev pub Labels : List Order → Type 0
Labels [] = Unit {0}
Labels (o ∷ os) = Label o × Labels os

-- all of them
abbrev numbers_in : (os : List Order) → Labels os → List ℕ
numbers_in [] s = []
numbers_in (o ∷ os) s = s.0.0 ++ numbers_in os s.1

pub all-labels : (os : List Order) (s : Labels os) → All (NumberIn (numbers_in os s)) (in_turn os)
unfolding in_turn
all-labels [] s = All.empty
all-labels (o ∷ os) s =
    all_append _
    (all_more (λ t m. rw (member-append t.refusal.number s.0.0 (numbers_in os s.1)) (or_left _ (member t.refusal.number (numbers_in os s.1)) m)) s.0.1)
    (all_more (λ t m. rw (member-append t.refusal.number s.0.0 (numbers_in os s.1)) (or_right (member t.refusal.number s.0.0) _ m)) (all-labels os s.1))

module _ (ms : List ℕ) where
  abbrev has : List ℕ → Bool
  has ns = any (λ k. member k ms) ns

  -- the first such stage
  abbrev stage : (os : List Order) → Labels os → Order
  stage [] l = []
  stage (o ∷ os) l = cond (has l.0.0) o (stage os l.1)

  -- there is none, or just one
  abbrev free : (os : List Order) → Labels os → Bool
  free [] l = true
  free (o ∷ os) l = not (has l.0.0) && free os l.1

  abbrev just_one : (os : List Order) → Labels os → Bool
  just_one [] l = false
  just_one (o ∷ os) l = cond (has l.0.0) (free os l.1) (just_one os l.1)

  module _ (n p : ℕ) (l : member n ms ≡ true) where
    apart : (ns : List ℕ) → has ns ≡ false → member n ns ≡ false
    apart [] e = refl
    apart (k ∷ ns) e =
        let q : eqb n k ≡ false = ne_eqb n k (λ z. clash (rw z at l) (or-false-left (member k ms) (has ns) e)) in
        rw q (apart ns (or-false-right (member k ms) (has ns) e))

    away : {Q : Type 0} (ns : List ℕ) {o : Order} → All (NumberIn ns) o → has ns ≡ false → Says n p Q o
    away {Q} ns a f = elsewhere n p Q (NumberIn ns) a (λ t x q. clash x (rw q (apart ns f)))

    free-never : (Q : Type 0) (os : List Order) (s : Labels os) → free os s ≡ true → Saying n p Q os
    free-never Q [] s f = tt
    free-never Q (o ∷ os) s f =
        (away s.0.0 s.0.1 (not-true _ (and_left _ (free os s.1) f)), free-never Q os s.1 (and_right (not (has s.0.0)) _ f))

    -- it decides
    pub stage-decides : (os : List Order) (s : Labels os) → just_one os s ≡ true → Says n p (decide (stage os s) ≡ some (refusal_at n p)) (in_turn os)
    stage-decides [] s a = clash a refl
    stage-decides (o ∷ os) s a =
        by_cases (has s.0.0)
        (λ h. rw h (says-turn n p _ o os (λ e. e) (says-turns n p _ os (free-never _ os s.1 (rw h at a)))))
        (λ h. rw h (says-turn n p _ o os (away s.0.0 s.0.1 h) (stage-decides os s.1 (rw h at a))))

-- ---- the lowest place

-- the place that decides is the index of the order that decides
pub each-place : (f : ℕ → Order) (i m n p : ℕ) → ((k : ℕ) → All (λ t. t.refusal.place ≡ k) (f k)) → decide (each f i m) ≡ some (refusal_at n p)
    → (decide (f p) ≡ some (refusal_at n p)) × ((k : ℕ) → i ≤ k → k < p → decide (f k) ≡ none)
each-place f i m n p places e = let (k, a, c, g, h) = decide-each f i m (refusal_at n p) e in at k g h
  where
    at : (k : ℕ) → decide (f k) ≡ some (refusal_at n p) → ((j : ℕ) → i ≤ j → j < k → decide (f j) ≡ none)
        → (decide (f p) ≡ some (refusal_at n p)) × ((j : ℕ) → i ≤ j → j < p → decide (f j) ≡ none)
    at k g h =
        let (x, v, w, s) = decide-all (λ t. t.refusal.place ≡ k) (places k) (refusal_at n p) g in
        let q : k ≡ p = sym s ∙ ap (λ o. o.place) w in
        (rw q at g, rw q at h)

-- of single conditions none before the one that decides holds
pub tried-lowest : (f : ℕ → Bool) (i m n p : ℕ) → Says n p ((k : ℕ) → i ≤ k → k < p → f k ≡ false) (try_each n f i m)
unfolding try_each
tried-lowest f i m n p e k l h =
    try-clear n k (f k)
    (decide-clear (try n k (f k)) ((each-place (λ k. try n k (f k)) i m n p (λ k. all-try (λ t. t.refusal.place ≡ k) n k (f k) refl) e).1 k l h))
