-- Tests over a list whose newest element comes first: whether one passes, those that pass, the newest and the oldest that passes.
-- Assumes nothing.
use Rattle.std.specs.Prelude.{Bool, false, cond, ◌||◌, List, [], ◌∷◌, ℕ, eqb}
use Rattle.std.proofs.Math.Option.{Option, none, some}

module _ {A : Type 0} where
  -- an element passes
  abbrev pub any : (A → Bool) → List A → Bool
  any f [] = false
  any f (r ∷ p) = f r || any f p

  -- the elements that pass, in order
  abbrev pub keep : (A → Bool) → List A → List A
  keep f [] = []
  keep f (r ∷ p) = let q : List A = keep f p in cond (f r) (r ∷ q) q

  -- the newest that passes
  abbrev pub latest : (A → Bool) → List A → Option A
  latest f [] = none
  latest f (r ∷ p) = cond (f r) (some r) (latest f p)

  -- the first of two, if there is one
  abbrev pub or_else : Option A → Option A → Option A
  or_else none d = d
  or_else (some a) d = some a

  -- the oldest that passes
  abbrev pub first : (A → Bool) → List A → Option A
  first f [] = none
  first f (r ∷ p) = let o : Option A = first f p in cond (f r) (or_else o (some r)) o

-- a number is in a list of numbers
abbrev pub member : ℕ → List ℕ → Bool
member s [] = false
member s (v ∷ l) = eqb s v || member s l
