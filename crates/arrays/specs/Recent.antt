-- What one pass over the records keeps of a history: of each transaction its end and its first record; of each item its last write,
-- the first write by that transaction, and the reads since.
-- Assumes nothing.
use Rattle.std.specs.Prelude.{Bool, false, cond, not, ◌&&◌, [], ◌∷◌, ℕ, eqb}
use Rattle.std.proofs.Math.Option.{Option, none, some}
use Rattle.lists.specs.Search.{first, latest}
use Rattle.model.specs.History.{Op, History, Tag, read, write, commit, abort, other, tx_of, tag_of, tag_in, of_tx, write_to}

-- ---- transactions

-- the end of transaction s: 0 none, 1 committed, 2 aborted
abbrev pub end_code : History → ℕ → ℕ
end_code [] s = 0
end_code (read t v y ∷ p) s = end_code p s
end_code (write t v y b a ∷ p) s = end_code p s
end_code (commit t v ∷ p) s = let e : ℕ = end_code p s in cond (eqb s v) 1 e
end_code (abort t v ∷ p) s = let e : ℕ = end_code p s in cond (eqb s v) 2 e
end_code (other t v ∷ p) s = end_code p s

-- the first record of transaction s, 0 if it has none
abbrev pub first_tag : History → ℕ → Tag
first_tag p s = tag_in (first (of_tx s) p)

-- another transaction than s, without an end
abbrev pub other_active : History → ℕ → ℕ → Bool
other_active p s v = not (eqb s v) && eqb (end_code p v) 0

-- ---- items

-- the last write of item x
abbrev pub last_write : History → ℕ → Option Op
last_write p x = latest (write_to x) p

-- an operation that was looked for is of transaction s
abbrev pub by_tx : Option Op → ℕ → Bool
by_tx none s = false
by_tx (some w) s = eqb s (tx_of w)

-- an operation that was looked for is of another active transaction than s
abbrev pub by_other_active : History → ℕ → Option Op → Bool
by_other_active p s none = false
by_other_active p s (some w) = other_active p s (tx_of w)

-- the first write of item x by the transaction that wrote it last
abbrev pub base_write : History → ℕ → Option Op
base_write [] x = none
base_write (read t s y ∷ p) x = base_write p x
base_write (write t s y b a ∷ p) x =
    let w : Option Op = base_write p x in
    cond (eqb x y) (cond (by_tx (last_write p x) s) w (some (write t s y b a))) w
base_write (commit t s ∷ p) x = base_write p x
base_write (abort t s ∷ p) x = base_write p x
base_write (other t s ∷ p) x = base_write p x

-- the reads of item x since its last write, newest first
abbrev pub reads_since : ℕ → History → History
reads_since x [] = []
reads_since x (read t s y ∷ p) = let q : History = reads_since x p in cond (eqb x y) (read t s y ∷ q) q
reads_since x (write t s y b a ∷ p) = let q : History = reads_since x p in cond (eqb x y) [] q
reads_since x (commit t s ∷ p) = reads_since x p
reads_since x (abort t s ∷ p) = reads_since x p
reads_since x (other t s ∷ p) = reads_since x p

-- the record number of the newest, 0 if there is none
abbrev pub newest : History → Tag
newest [] = 0
newest (r ∷ p) = tag_of r
