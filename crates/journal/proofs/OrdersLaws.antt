-- Laws of the order of refusals: the first condition that holds decides, in stages and in a loop over places.
-- Assumes nothing.
use mathlib.Core.Path.{◌≡◌, refl, sym, ap, ◌∙◌}
use mathlib.Core.Bool.{Bool, true, false, cond}
use mathlib.Core.List.{List, [], ◌∷◌, ◌++◌}
use mathlib.Core.Option.{Option, none, some, none-ne-some}
use Prim.Native.Nat.{ℕ, zero, suc, ◌+◌, ◌-◌, ◌<◌, ◌≤◌}
use native.Mathlib.Omega.{arith}
use native.Mathlib.Numerals.{add-one}
use lib.Dec.{eqb}
use borrow.Author.Tests.{eqb-true, eqb-false}
use Rattle.lists.specs.Tables.{each}
use Rattle.lists.proofs.BoolLaws.{by_cases}
use Rattle.lists.proofs.TablesLaws.{each-zero, each-suc, each_last, each-ext}
use Rattle.lists.specs.Search.{or_else}
use Rattle.journal.specs.Orders.{Refusal, Order, try, try_each, in_turn, decide}

-- number and place
abbrev pub refusal_at : ℕ → ℕ → Refusal
refusal_at n p = record { number = n; place = p }

decide-nil : decide [] ≡ none
unfolding decide
decide-nil = refl

-- one condition
pub decide-yes : (n p : ℕ) {c : Bool} → c ≡ true → decide (try n p c) ≡ some (refusal_at n p)
unfolding decide try
decide-yes n p e = simp e

pub decide-no : (n p : ℕ) {c : Bool} → c ≡ false → decide (try n p c) ≡ none
unfolding decide try
decide-no n p e = simp e

-- the one that decides holds
pub try_holds : (n p : ℕ) (c : Bool) {r : Refusal} → decide (try n p c) ≡ some r → c ≡ true
try_holds n p c {r} e = by_cases c (λ h. h) (λ h. absurd (none-ne-some r (sym (decide-no n p h) ∙ e)))

pub decide-try : (n p : ℕ) (c : Bool) → decide (try n p c) ≡ cond c (some (refusal_at n p)) none
unfolding decide try
decide-try n p c = refl

-- conditions, then others: the others decide where none of the first holds
decide-append : (a b : Order) → decide (a ++ b) ≡ or_else (decide a) (decide b)
unfolding decide
decide-append [] b = refl
decide-append (t ∷ a) b = go t.holds (decide-append a b)
  where
    go : (c : Bool) → decide (a ++ b) ≡ or_else (decide a) (decide b) → cond c (some t.refusal) (decide (a ++ b)) ≡ or_else (cond c (some t.refusal) (decide a)) (decide b)
    go true h = refl
    go false h = h

decide-append-none : (a b : Order) → decide a ≡ none → decide (a ++ b) ≡ decide b
decide-append-none a b e = decide-append a b ∙ ap (λ d. or_else d (decide b)) e

decide-append-some : (a b : Order) {r : Refusal} → decide a ≡ some r → decide (a ++ b) ≡ some r
decide-append-some a b e = decide-append a b ∙ ap (λ d. or_else d (decide b)) e

-- ---- stages

pub or_else-none : {A : Type 0} (d : Option A) → or_else d none ≡ d
or_else-none none = refl
or_else-none (some a) = refl

pub or_else-assoc : {A : Type 0} (x y z : Option A) → or_else (or_else x y) z ≡ or_else x (or_else y z)
or_else-assoc none y z = refl
or_else-assoc (some a) y z = refl

pub decide-over : decide (in_turn []) ≡ none
unfolding decide in_turn
decide-over = refl

pub decide-turn : (o : Order) (os : List Order) → decide (in_turn (o ∷ os)) ≡ or_else (decide o) (decide (in_turn os))
unfolding in_turn
decide-turn o os = decide-append o (in_turn os)

pub decide-one : (o : Order) → decide (in_turn (o ∷ [])) ≡ decide o
decide-one o = decide-turn o [] ∙ rw decide-over (or_else-none (decide o))

pub decide-turn-none : (o : Order) (os : List Order) → decide o ≡ none → decide (in_turn (o ∷ os)) ≡ decide (in_turn os)
decide-turn-none o os e = decide-turn o os ∙ ap (λ d. or_else d (decide (in_turn os))) e

pub decide-turn-some : (o : Order) (os : List Order) {r : Refusal} → decide o ≡ some r → decide (in_turn (o ∷ os)) ≡ some r
decide-turn-some o os e = decide-turn o os ∙ ap (λ d. or_else d (decide (in_turn os))) e

-- the first stages together, then the others
pub decide-turns : (os ps : List Order) → decide (in_turn (os ++ ps)) ≡ or_else (decide (in_turn os)) (decide (in_turn ps))
decide-turns [] ps = rw decide-over
decide-turns (o ∷ os) ps =
    decide-turn o (os ++ ps) ∙ ap (or_else (decide o)) (decide-turns os ps) ∙ sym (or_else-assoc (decide o) (decide (in_turn os)) (decide (in_turn ps)))
    ∙ ap (λ d. or_else d (decide (in_turn ps))) (sym (decide-turn o os))

-- either nothing holds, or a first condition does
pub decide-cases {ℓ} : {P : Type ℓ} (o : Order) → (decide o ≡ none → P) → ((r : Refusal) → decide o ≡ some r → P) → P
decide-cases {P} o f g = go (decide o) refl
  where
    go : (d : Option Refusal) → decide o ≡ d → P
    go none e = f e
    go (some r) e = g r e

-- ---- orders by index

-- orders one after the other: the lowest in which something holds decides
pub decide-each : (f : ℕ → Order) (i n : ℕ) (r : Refusal) → decide (each f i n) ≡ some r
    → (k : ℕ) × (i ≤ k) × (k < i + n) × (decide (f k) ≡ some r) × ((m : ℕ) → i ≤ m → m < k → decide (f m) ≡ none)
decide-each f i zero r e = absurd (none-ne-some r (sym decide-nil ∙ (rw (each-zero f i) at e)))
decide-each f i (suc n) r e =
    decide-cases (f i)
    (λ z.
    let (k, a, b, c, d) = decide-each f (suc i) n r (sym (decide-append-none (f i) (each f (suc i) n) z) ∙ (rw (each-suc f i n) at e)) in
    (k, omega arith, omega arith, c, λ m l h. by_cases (eqb i m) (λ q. rw (← eqb-true i m q) z) (λ q. let v = eqb-false i m q in d m (omega arith) h)))
    (λ q z. (i, omega arith, omega arith, z ∙ sym (decide-append-some (f i) (each f (suc i) n) z) ∙ (rw (each-suc f i n) at e), λ m l h. absurd (omega arith)))

-- all up to an index pass, and the next does
pub each_more : (f : ℕ → Order) (n : ℕ) → decide (each f 1 n) ≡ none → decide (f (suc n)) ≡ none → decide (each f 1 (suc n)) ≡ none
each_more f n a c =
    ap decide (each_last f 1 n) ∙ decide-append (each f 1 n) (f (1 + n)) ∙ rw a (ap (λ k. decide (f k)) (omega arith) ∙ c)

-- a loop from the lowest index: what is left from i on decides d
module _ (f : ℕ → Order) (i m : ℕ) (d : Option Refusal) (e : d ≡ decide (each f i (m - i))) where
  pub loop-done : m ≤ i → none ≡ d
  unfolding decide
  loop-done h = let z : m - i ≡ 0 = omega arith in sym (e ∙ rw (z, each-zero f i))

  module _ (h : i < m) where
    next : each f i (m - i) ≡ f i ++ each f (suc i) (m - suc i)
    next = let z : m - i ≡ suc (m - suc i) = omega arith in ap (each f i) z ∙ each-suc f i (m - suc i)

    pub loop-passed : decide (f i) ≡ none → d ≡ decide (each f (i + 1) (m - (i + 1)))
    loop-passed p = rw add-one (e ∙ ap decide next ∙ decide-append-none (f i) (each f (suc i) (m - suc i)) p)

    pub loop-refused : (r : Refusal) → decide (f i) ≡ some r → some r ≡ d
    loop-refused r p = sym (e ∙ ap decide next ∙ decide-append-some (f i) (each f (suc i) (m - suc i)) p)

-- ---- one condition for each place

pub try_each-ext : (n : ℕ) (f g : ℕ → Bool) (i m : ℕ) → ((k : ℕ) → i ≤ k → k < i + m → f k ≡ g k) → try_each n f i m ≡ try_each n g i m
unfolding try_each
try_each-ext n f g i m h = each-ext (λ p. try n p (f p)) (λ p. try n p (g p)) i i m (λ k l. ap (try n (i + k)) (h (i + k) (omega arith) (omega arith)))

pub tried-start : (n : ℕ) (f : ℕ → Bool) (m : ℕ) → decide (try_each n f 0 m) ≡ decide (try_each n f 0 (m - 0))
tried-start n f m = let z : m - 0 ≡ m = omega arith in rw z

-- the loop: the test v at place i is the condition
module _ (n : ℕ) (f : ℕ → Bool) (i m : ℕ) (d : Option Refusal) (e : d ≡ decide (try_each n f i (m - i))) where
  pub tried-done : m ≤ i → none ≡ d
  unfolding try_each
  tried-done h = loop-done (λ p. try n p (f p)) i m d e h

  module _ (h : i < m) where
    pub tried-passed : f i ≡ false → d ≡ decide (try_each n f (i + 1) (m - (i + 1)))
    unfolding try_each
    tried-passed z = loop-passed (λ p. try n p (f p)) i m d e h (decide-no n i z)

    pub tried-refused : f i ≡ true → some (refusal_at n i) ≡ d
    unfolding try_each
    tried-refused z = loop-refused (λ p. try n p (f p)) i m d e h _ (decide-yes n i z)
