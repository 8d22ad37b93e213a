-- An order of refusals in which nothing holds, stage by stage; and what the first that holds says. A stage put into an order is one
-- component more of the tuples that `all-turns` takes and `turns-all` gives.
-- Assumes nothing.
use mathlib.Core.Path.{◌≡◌, refl, sym}
use mathlib.Core.Bool.{Bool, true, false}
use mathlib.Core.List.{List, [], ◌∷◌, ◌++◌}
use mathlib.Core.Option.{none, some, none-ne-some, some-injective}
use Prim.Native.Nat.{ℕ, zero, suc, ◌+◌, ◌<◌, ◌≤◌}
use native.Mathlib.Omega.{arith}
use lib.Dec.{eqb}
use borrow.Author.Tests.{eqb-true, eqb-false}
use Rattle.lists.specs.Tables.{each}
use Rattle.lists.proofs.BoolLaws.{by_cases}
use Rattle.journal.specs.Orders.{Refusal, Trial, trial, Order, try, try_each, in_turn, decide}

-- what holds of each condition of an order
pub data All (P : Trial → Type 0) : Order → Type 0 where
  empty : All P []
  also : {t : Trial} {o : Order} → P t → All P o → All P (t ∷ o)

module _ (P : Trial → Type 0) where
  pub all_append : {a b : Order} → All P a → All P b → All P (a ++ b)
  all_append empty d = d
  all_append (also e c) d = also e (all_append c d)

  all_left : (a b : Order) → All P (a ++ b) → All P a
  all_left [] b c = empty
  all_left (t ∷ a) b (also e c) = also e (all_left a b c)

  all_right : (a b : Order) → All P (a ++ b) → All P b
  all_right [] b c = c
  all_right (t ∷ a) b (also e c) = all_right a b c

  -- the same of each stage, as one tuple in the order of the stages
  abbrev Turns : List Order → Type 0
  Turns [] = Unit {0}
  Turns (o ∷ os) = All P o × Turns os

  pub all-turns : (os : List Order) → Turns os → All P (in_turn os)
  unfolding in_turn
  all-turns [] c = empty
  all-turns (o ∷ os) (c, cs) = all_append c (all-turns os cs)

  turns-all : (os : List Order) → All P (in_turn os) → Turns os
  unfolding in_turn
  turns-all [] c = tt
  turns-all (o ∷ os) c = (all_left o (in_turn os) c, turns-all os (all_right o (in_turn os) c))

  pub all-try : (n p : ℕ) (c : Bool) → P (trial n p c) → All P (try n p c)
  unfolding try
  all-try n p c e = also e empty

  pub all-each : (f : ℕ → Order) (i n : ℕ) → ((k : ℕ) → i ≤ k → k < i + n → All P (f k)) → All P (each f i n)
  unfolding each
  all-each f i zero h = empty
  all-each f i (suc n) h = all_append (h i (omega arith) (omega arith)) (all-each f (suc i) n (λ k a b. h k (omega arith) (omega arith)))

  each_all : (f : ℕ → Order) (i n : ℕ) → All P (each f i n) → (k : ℕ) → i ≤ k → k < i + n → All P (f k)
  unfolding each
  each_all f i zero c k a b = absurd (omega arith)
  each_all f i (suc n) c k a b =
      by_cases (eqb i k)
      (λ e. rw (← eqb-true i k e) (all_left (f i) (each f (suc i) n) c))
      (λ e. let d = eqb-false i k e in each_all f (suc i) n (all_right (f i) (each f (suc i) n) c) k (omega arith) (omega arith))

  pub all-tried : (n : ℕ) (f : ℕ → Bool) (i m : ℕ) → ((k : ℕ) → i ≤ k → k < i + m → P (trial n k (f k))) → All P (try_each n f i m)
  unfolding try_each
  all-tried n f i m h = all-each (λ k. try n k (f k)) i m (λ k l u. all-try n k (f k) (h k l u))

  -- the condition that decides is one of the order's
  pub decide-all : {o : Order} → All P o → (r : Refusal) → decide o ≡ some r → (t : Trial) × (t.holds ≡ true) × (t.refusal ≡ r) × P t
  unfolding decide
  decide-all empty r e = absurd (none-ne-some r e)
  decide-all (also {t} {o} p c) r e =
      by_cases t.holds
      (λ h. (t, h, some-injective t.refusal r (rw h at e), p))
      (λ h. decide-all c r (rw h at e))

pub all_more : {P Q : Trial → Type 0} → ((t : Trial) → P t → Q t) → {o : Order} → All P o → All Q o
all_more f empty = empty
all_more f (also {t} p c) = also (f t p) (all_more f c)

-- no condition of the order holds
abbrev pub Clear : Order → Type 0
Clear o = All (λ t. t.holds ≡ false) o

pub clear-decide : {o : Order} → Clear o → decide o ≡ none
unfolding decide
clear-decide empty = refl
clear-decide (also e c) = rw e (clear-decide c)

pub decide-clear : (o : Order) → decide o ≡ none → Clear o
unfolding decide
decide-clear [] h = empty
decide-clear (t ∷ o) h =
    by_cases t.holds
    (λ e. absurd (none-ne-some t.refusal (sym (rw e at h))))
    (λ e. also e (decide-clear o (rw e at h)))

pub clear-turns : (os : List Order) → Turns (λ t. t.holds ≡ false) os → Clear (in_turn os)
clear-turns os c = all-turns _ os c

pub turns-clear : (os : List Order) → Clear (in_turn os) → Turns (λ t. t.holds ≡ false) os
turns-clear os c = turns-all _ os c

pub clear-try : (n p : ℕ) (c : Bool) → c ≡ false → Clear (try n p c)
clear-try n p c e = all-try (λ t. t.holds ≡ false) n p c e

pub try-clear : (n p : ℕ) (c : Bool) → Clear (try n p c) → c ≡ false
unfolding try
try-clear n p c (also e empty) = e

pub clear-each : (f : ℕ → Order) (i n : ℕ) → ((k : ℕ) → i ≤ k → k < i + n → Clear (f k)) → Clear (each f i n)
clear-each f i n h = all-each _ f i n h

pub each-clear : (f : ℕ → Order) (i n : ℕ) → Clear (each f i n) → (k : ℕ) → i ≤ k → k < i + n → Clear (f k)
each-clear f i n c = each_all _ f i n c

pub clear-tried : (n : ℕ) (f : ℕ → Bool) (i m : ℕ) → ((k : ℕ) → i ≤ k → k < i + m → f k ≡ false) → Clear (try_each n f i m)
clear-tried n f i m h = all-tried (λ t. t.holds ≡ false) n f i m h

pub tried-clear : (n : ℕ) (f : ℕ → Bool) (i m : ℕ) → Clear (try_each n f i m) → (k : ℕ) → i ≤ k → k < i + m → f k ≡ false
unfolding try_each
tried-clear n f i m c k l u = try-clear n k (f k) (each-clear (λ k. try n k (f k)) i m c k l u)
