-- Texts written into a buffer from a place on: the room that they need, what they leave, and a word with digits behind it.
-- Assumes nothing.
use Rattle.std.specs.Prelude.{◌≡◌, ℕ, ◌+◌, ◌≤◌, length}
use mathlib.Core.List.{List, [], ◌∷◌, flatten}
use Rattle.lists.specs.Tables.{store}

-- a word with digits behind it
abbrev pub labelled : List ℕ → List ℕ → List ℕ
labelled word digits = flatten (word ∷ digits ∷ [])

-- a buffer l has room for v from `at` on
pub record Fits (at : ℕ) (v l : List ℕ) : Type 0 where
  pub room : at + length v ≤ length l

-- of a buffer l with v written from `at` on: what it becomes, and where v ends
pub record Put (at : ℕ) (v l out : List ℕ) (end : ℕ) : Type 0 where
  pub holds : out ≡ store at v l
  pub size : end ≡ at + length v
