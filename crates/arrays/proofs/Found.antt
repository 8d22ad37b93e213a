-- What is found in a journal's history is the record with its number; the transactions of records that passed are 1 to 1,024.
-- Assumes nothing.
use mathlib.Core.Path.{◌≡◌, refl, sym, ◌∙◌}
use mathlib.Core.Bool.{Bool, true, false, cond, not}
use mathlib.Core.List.{List, ◌∷◌}
use mathlib.Core.Option.{Option, none, some, none-ne-some}
use Prim.Native.Nat.{ℕ, zero, suc, ◌<◌, ◌≤◌}
use native.Mathlib.Omega.{arith}
use lib.Dec.{eqb}
use borrow.Author.Tests.{ne_eqb}
use Rattle.lists.specs.Search.{any, latest, or_else, first}
use Rattle.lists.proofs.BoolLaws.{by_cases}
use Rattle.lists.proofs.SearchLaws.{first-none, first_some}
use Rattle.format.specs.Layout.{record_at}
use Rattle.model.specs.History.{Op, History, read, write, commit, abort, other, tag_in}
use Rattle.model.proofs.Legal.{NoBlindWrites}
use Rattle.model.proofs.Opening.{Passing, start, step}
use Rattle.journal.specs.Journal.{items, tx_in, op_of, history}
use Rattle.journal.specs.Refusals.{terminated, conflicting, blind, mismatched}
use Rattle.journal.proofs.Checked.{RecordRight}
use Rattle.journal.proofs.Records.{tag_of-op_of}
use Rattle.journal.proofs.Passing.{malformed-tx}
use Rattle.arrays.specs.Recent.{by_tx, last_write, base_write}
use Rattle.arrays.specs.Arrays.{CoreRight, NoBlindTo}

-- ---- an operation that was looked for

pub data Found (b : List ℕ) (n : ℕ) : Option Op → Type 0 where
  nothing : Found b n none
  at : (t : ℕ) → 1 ≤ t → t ≤ n → Found b n (some (op_of t (record_at b t)))

later : {b : List ℕ} {n : ℕ} {o : Option Op} → Found b n o → Found b (suc n) o
later nothing = nothing
later (at t l m) = at t l (omega arith)

chosen : {b : List ℕ} {n : ℕ} {o q : Option Op} (c : Bool) → Found b n o → Found b n q → Found b n (cond c o q)
chosen true f g = f
chosen false f g = g

pub latest-found : (f : Op → Bool) (b : List ℕ) (n : ℕ) → Found b n (latest f (history b n))
unfolding history
latest-found f b zero = nothing
latest-found f b (suc n) = chosen (f (op_of (suc n) (record_at b (suc n)))) (at (suc n) (omega arith) (omega arith)) (later (latest-found f b n))

pub first_found : (f : Op → Bool) (b : List ℕ) (n : ℕ) → Found b n (first f (history b n))
unfolding history
first_found f b zero = nothing
first_found f b (suc n) =
    let i = later (first_found f b n) in
    chosen (f (op_of (suc n) (record_at b (suc n)))) (either i) i
  where
    either : {o : Option Op} → Found b (suc n) o → Found b (suc n) (or_else o (some (op_of (suc n) (record_at b (suc n)))))
    either nothing = at (suc n) (omega arith) (omega arith)
    either (at t l m) = at t l m

base_step : (b : List ℕ) (n x : ℕ) (p : History) (r : Op) → Found b n (some r) → Found b n (base_write p x) → Found b n (base_write (r ∷ p) x)
base_step b n x p (read t s y) f g = g
base_step b n x p (write t s y c a) f g = chosen (eqb x y) (chosen (by_tx (last_write p x) s) g f) g
base_step b n x p (commit t s) f g = g
base_step b n x p (abort t s) f g = g
base_step b n x p (other t s) f g = g

pub base-found : (x : ℕ) (b : List ℕ) (n : ℕ) → Found b n (base_write (history b n) x)
unfolding history
base-found x b zero = nothing
base-found x b (suc n) = base_step b (suc n) x (history b n) (op_of (suc n) (record_at b (suc n))) (at (suc n) (omega arith) (omega arith)) (later (base-found x b n))

pub found_none : {b : List ℕ} {n : ℕ} {o : Option Op} → Found b n o → tag_in o ≡ 0 → o ≡ none
found_none nothing e = refl
found_none {b} (at t l m) e = let z : t ≡ 0 = sym (tag_of-op_of t (record_at b t)) ∙ e in absurd (omega arith)

pub found-bound : {b : List ℕ} {n : ℕ} {o : Option Op} → Found b n o → tag_in o ≤ n
found-bound nothing = omega arith
found-bound {b} (at t l m) = rw (tag_of-op_of t (record_at b t)) m

pub found_some : {b : List ℕ} {n : ℕ} {o : Option Op} → Found b n o → (tag_in o ≡ 0 → ⊥) → o ≡ some (op_of (tag_in o) (record_at b (tag_in o)))
found_some nothing e = absurd (e refl)
found_some {b} (at t l m) e = rw (tag_of-op_of t (record_at b t))

-- one is there, or the number of the first is 0
pub first_any : (f : Op → Bool) (b : List ℕ) (n : ℕ) → any f (history b n) ≡ not (eqb (tag_in (first f (history b n))) 0)
first_any f b n =
    by_cases (any f (history b n))
    (λ e. let (w, q, t) = first_some f (history b n) e in
    rw (e, ne_eqb (tag_in (first f (history b n))) 0 (λ z. none-ne-some w (sym (found_none (first_found f b n) z) ∙ q))))
    (λ e. rw (e, first-none f (history b n) e))

-- ---- records that passed

pub core-right : {b : List ℕ} {i : ℕ} {p : History} → RecordRight b i p → CoreRight b i p
core-right r = record { formed = r.formed; chained = r.chained; not_terminated = r.follows.not_terminated; not_conflicting = r.follows.not_conflicting; matched = r.matched }

module _ (b : List ℕ) (n : ℕ) (k : (i : ℕ) → i < n → CoreRight b (suc i) (history b i)) where
  pub passed-right : (i : ℕ) → i < n → CoreRight b (suc i) (history b i)
  passed-right = k

  -- their transactions are 1 to 1,024
  pub passed-range : (i : ℕ) → 1 ≤ i → i ≤ n → (1 ≤ tx_in (record_at b i)) × (tx_in (record_at b i) ≤ 1024)
  passed-range zero l h = absurd (omega arith)
  passed-range (suc i) l h = malformed-tx (items b) (record_at b (suc i)) (passed-right i (omega arith)).formed

  -- they are a history that passes
  passing-to : (m : ℕ) → m ≤ n → Passing (history b m)
  unfolding history terminated conflicting mismatched
  passing-to zero h = start
  passing-to (suc m) h =
      let r = passed-right m (omega arith) in
      step (passing-to m (omega arith)) (record { not_terminated = r.not_terminated; not_conflicting = r.not_conflicting; matched = r.matched })

  pub passing-history : Passing (history b n)
  passing-history = passing-to n (omega arith)

-- and each write follows a read
no_blind-to : (b : List ℕ) (n : ℕ) → NoBlindTo b n → (m : ℕ) → m ≤ n → NoBlindWrites (history b m)
unfolding history blind
no_blind-to b n k zero h = tt
no_blind-to b n k (suc m) h = (no_blind-to b n k m (omega arith), k.read m (omega arith))

pub no_blind-history : (b : List ℕ) (n : ℕ) → NoBlindTo b n → NoBlindWrites (history b n)
no_blind-history b n k = no_blind-to b n k n (omega arith)
