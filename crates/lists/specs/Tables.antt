-- Lists made by index, parts of a list stored anew, steps by number, arrays of codes, and how many indices pass a test.
-- Assumes nothing.
use Rattle.std.specs.Prelude.{Bool, cond, List, [], ◌∷◌, ◌++◌, ℕ, zero, suc, ◌+◌, eqb, length, get_or, take, drop}

module _ {A : Type 0} where
  -- f i, f (i + 1), .. : n elements
  unfoldable pub tabulate : (ℕ → A) → ℕ → ℕ → List A
  tabulate f i zero = []
  tabulate f i (suc n) = f i ∷ tabulate f (suc i) n

  -- the lists f i, f (i + 1), .., n of them, joined
  unfoldable pub each : (ℕ → List A) → ℕ → ℕ → List A
  each f i zero = []
  each f i (suc n) = f i ++ each f (suc i) n

  -- l with v in place of what stands from `at` on
  unfoldable pub store : ℕ → List A → List A → List A
  store at v l = take at l ++ v ++ drop (at + length v) l

  -- what the steps 1, 2, .., n make of s
  unfoldable pub stepped : (ℕ → A → A) → ℕ → A → A
  stepped f zero s = s
  stepped f (suc n) s = f (suc n) (stepped f n s)

-- element i of an array of codes is v
unfoldable pub coded : ℕ → List ℕ → ℕ → Bool
coded v l i = eqb (get_or l i 0) v

-- how many of i, i + 1, .., n numbers, pass
unfoldable pub count_if : (ℕ → Bool) → ℕ → ℕ → ℕ
count_if f i zero = 0
count_if f i (suc n) = let k : ℕ = count_if f (suc i) n in cond (f i) (suc k) k
