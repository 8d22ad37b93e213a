-- Refusals 11 and 12: what one step of the loop over the places decides.
-- Assumes nothing.
use mathlib.Core.Path.{◌≡◌, refl, sym, ◌∙◌, ap}
use mathlib.Core.Bool.{Bool, true, false, not}
use mathlib.Core.List.{List}
use mathlib.Core.Logic.{◌⊎◌, inl, inr}
use mathlib.Core.Option.{Option, some}
use Prim.Native.Nat.{ℕ, ◌+◌, ◌-◌, ◌<◌}
use native.Mathlib.Omega.{arith}
use lib.ListN.{length, get_or}
use borrow.Author.Tests.{eq-eqb, ne_eqb}
use Rattle.journal.specs.Orders.{Refusal, try_each, active_order, known_order, decide}
use Rattle.journal.proofs.OrdersLaws.{tried-start, tried-passed, tried-refused}
use Rattle.arrays.specs.declared.end.End.{End}
use Rattle.arrays.specs.declared.end.End.TheVariants.{Open, Aborted}
use Rattle.arrays.specs.Ends.{code_of, codes}
use Rattle.arrays.proofs.WriterLaws.{code-at}
use Rattle.lists.specs.Tables.{coded}
use Rattle.examine.specs.Stages.{unknown_in}

-- ---- 11

module _ (f : ℕ → Bool) where
  pub active-start : decide (active_order f) ≡ decide (try_each 11 f 1 (1025 - 1))
  unfolding active_order
  active-start = refl

  module _ (s : ℕ) (d : Option Refusal) (e : d ≡ decide (try_each 11 f s (1025 - s))) (h : s < 1025) (v : Bool) (a : v ≡ f s) where
    pub active-passed : v ≡ false → d ≡ decide (try_each 11 f (s + 1) (1025 - (s + 1)))
    active-passed z = tried-passed 11 f s 1025 d e h (sym a ∙ z)

    pub active-refused : v ≡ true → some (record { number = 11; place = s }) ≡ d
    active-refused z = tried-refused 11 f s 1025 d e h (sym a ∙ z)

-- ---- 12

-- position k of the list names no committed transaction
abbrev pub unknown_at : List ℕ → List ℕ → ℕ → Bool
unknown_at ends bad k = unknown_in ends (get_or bad k 0)

-- from any list of codes
module _ (ends bad : List ℕ) where
  pub known_start : decide (known_order (unknown_in ends) bad) ≡ decide (try_each 12 (unknown_at ends bad) 0 (length bad - 0))
  unfolding known_order
  known_start = tried-start 12 (unknown_at ends bad) (length bad)

  module _ (k : ℕ) (d : Option Refusal) (e : d ≡ decide (try_each 12 (unknown_at ends bad) k (length bad - k))) (h : k < length bad) (end : ℕ) (b : end ≡ get_or ends (get_or bad k 0) 0) where
    pub known-passed : end ≡ 1 → d ≡ decide (try_each 12 (unknown_at ends bad) (k + 1) (length bad - (k + 1)))
    unfolding unknown_in coded
    known-passed z =
        tried-passed 12 (unknown_at ends bad) k (length bad) d e h (ap not (eq-eqb (get_or ends (get_or bad k 0) 0) 1 (sym b ∙ z)))

    pub known_refused : (end ≡ 1 → ⊥) → some (record { number = 12; place = k }) ≡ d
    unfolding unknown_in coded
    known_refused z =
        tried-refused 12 (unknown_at ends bad) k (length bad) d e h (ap not (ne_eqb (get_or ends (get_or bad k 0) 0) 1 (λ q. z (b ∙ q))))

-- from the ends themselves
module _ (ends : List End) (bad : List ℕ) (k : ℕ) (d : Option Refusal) (e : d ≡ decide (try_each 12 (unknown_at (codes ends) bad) k (length bad - k))) (h : k < length bad)
    (end : End) (q : end ≡ get_or ends (get_or bad k 0) Open) where
  end-is : code_of end ≡ get_or (codes ends) (get_or bad k 0) 0
  end-is = rw (q, code-at ends (get_or bad k 0))

  pub known_open : (end ≡ Open) ⊎ (end ≡ Aborted) → some (record { number = 12; place = k }) ≡ d
  known_open z = known_refused (codes ends) bad k d e h (code_of end) end-is (no-commit z)
    where
      no-commit : (end ≡ Open) ⊎ (end ≡ Aborted) → code_of end ≡ 1 → ⊥
      no-commit (inl o) c = let f : ◌≡◌ {A = ℕ} 0 1 = ap code_of (sym o) ∙ c in omega arith
      no-commit (inr o) c = let f : ◌≡◌ {A = ℕ} 2 1 = ap code_of (sym o) ∙ c in omega arith
