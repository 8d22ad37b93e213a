-- What loading a file says of the buffer: the bytes read stand within it.
-- Assumes nothing.
use Rattle.std.specs.Prelude.{◌≡◌, ◌≤◌, ◌<◌, List, ℕ, Option, Some, None, Result, length, take, MatchResult, ⊤}
use Rattle.std.specs.Io.KnownBytes.{Consumes, IsAtEnd}

-- the first n of the elements are there, and are n
abbrev pub IsPrefixLen : ℕ → List ℕ → Type 0
IsPrefixLen n xs = (n ≤ length xs) × (n ≡ length (take n xs))

abbrev pub Loads : Option ℕ → List ℕ → Type 0
Loads (Some n) buffer = IsPrefixLen n buffer
Loads None buffer = Unit {0}

-- Of a reader that had `old` left and has `new`, where that is known: on `Ok(n)` the first n bytes of what it had stand at the front of
-- the buffer, and it has nothing left where the buffer is not full.
abbrev pub ReadsFront : {E : Type 0} → Option (List ℕ) → Option (List ℕ) → Result ℕ E → List ℕ → Type 0
ReadsFront old new r buffer = MatchResult r (λ n. Consumes old new (take n buffer) × (n < length buffer → IsAtEnd new)) (λ _. ⊤)
