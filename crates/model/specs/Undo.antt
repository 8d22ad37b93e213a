-- The rules of taking back: what feeds a read, the undo set, removal, the repaired history and the table left.
-- Document 01, "The rules of taking back", as document 02, request 3, amends it. Assumes nothing.
use Rattle.std.specs.Prelude.{◌≡◌, Bool, true, false, cond, not, ◌&&◌, ◌||◌, List, [], ◌∷◌, ℕ, suc, length, eqb}
use Rattle.std.proofs.Math.Option.{Option, none, some}
use Rattle.lists.specs.Search.{keep, latest, member}
use Rattle.model.specs.History.{Op, History, Amount, Tag, same_amount, read, write, commit, abort, other, tx_of, by_kind}
use Rattle.model.specs.History.{unread, never, committed}

-- ---- record numbers

-- the operation with another record number
abbrev pub retag : Tag → Op → Op
retag i (read t s x) = read i s x
retag i (write t s x b a) = write i s x b a
retag i (commit t s) = commit i s
retag i (abort t s) = abort i s
retag i (other t s) = other i s

-- a test that does not look at the record number
abbrev pub Untagged : (Op → Bool) → Type 0
Untagged f = (i : Tag) (r : Op) → f (retag i r) ≡ f r

-- ---- which writes may feed (the field: be the source of a read)

-- Document 02, request 3: one that changed the amount, its after image not its before image. This is the one test that the calls
-- and the statements give to what follows; only its laws look into it.
unfoldable pub is_source : Op → Bool
is_source = by_kind unread (λ s x b a. not (same_amount b a)) never never

-- what such a test has to meet: a write that may not feed leaves the amount as it was
pub record SourceTest (φ : Op → Bool) : Type 0 where
  pub untagged : Untagged φ
  pub still : (t : Tag) (s x : ℕ) (b a : Amount) → φ (write t s x b a) ≡ false → b ≡ a

-- ---- fed (the field: reads-from)

-- a write of item x by a transaction of the set g
abbrev pub write_by : (ℕ → Bool) → ℕ → Op → Bool
write_by g x = by_kind unread (λ v y b a. eqb x y && g v) never never

-- one that may feed
abbrev pub source_by : (Op → Bool) → (ℕ → Bool) → ℕ → Op → Bool
source_by φ g x w = write_by g x w && φ w

-- the transactions whose writes may feed a read by s after p: s itself and those already committed
abbrev pub visible_to : History → ℕ → ℕ → Bool
visible_to p s v = eqb s v || committed p v

-- ---- the taken-back set

-- p is what stands before some record of j, or all of j
pub data Upto (p : History) : History → Type 0 where
  all : Upto p p
  more : {q : Op} {j : History} → Upto p j → Upto p (q ∷ j)

-- whether there is a feeding write, and by a transaction of the list
abbrev pub by_member : List ℕ → Option Op → Bool
by_member l none = false
by_member l (some w) = member (tx_of w) l

-- the committed transactions in a list, and those not in it
abbrev pub committed_in : List ℕ → History → ℕ → Bool
committed_in m j s = committed j s && member s m

abbrev pub committed_out : List ℕ → History → ℕ → Bool
committed_out m j s = committed j s && not (member s m)

-- φ w: the write w may feed
module _ (φ : Op → Bool) where
  -- 01, 02 (request 3): fed: the write that feeds a read of x by s after p, the highest of them; none: the opening amount
  unfoldable pub reads_from : History → ℕ → ℕ → Option Op
  reads_from p s x = latest (source_by φ (visible_to p s) x) p

  -- a set that contains the bad list, and every committed transaction with a read fed by a write of a member
  pub record Closed (bad : List ℕ) (j : History) (S : ℕ → Type 0) : Type 0 where
    pub lists : (s : ℕ) → member s bad ≡ true → S s
    pub readers : {t : Tag} {s x : ℕ} {p : History} {w : Op} → Upto (read t s x ∷ p) j → committed j s ≡ true
        → reads_from p s x ≡ some w
        → S (tx_of w) → S s

  -- The set as one pass over the records computes it: the listed transactions, and each with a read fed by one of them.
  abbrev pub reached : List ℕ → History → List ℕ
  reached bad [] = bad
  reached bad (read t s x ∷ p) = let m : List ℕ = reached bad p in cond (by_member m (reads_from p s x)) (s ∷ m) m
  reached bad (write t s x b a ∷ p) = reached bad p
  reached bad (commit t s ∷ p) = reached bad p
  reached bad (abort t s ∷ p) = reached bad p
  reached bad (other t s ∷ p) = reached bad p

  -- 01: taken back
  abbrev pub undone : List ℕ → History → ℕ → Bool
  undone bad j = committed_in (reached bad j) j

  -- 01: kept
  abbrev pub surviving : List ℕ → History → ℕ → Bool
  surviving bad j = committed_out (reached bad j) j

-- ---- removal

-- the records of the transactions of k, with their record numbers
abbrev pub only : (ℕ → Bool) → History → History
only k p = keep (λ r. k (tx_of r)) p

-- 01: removal of the set g
abbrev pub without : (ℕ → Bool) → History → History
without g p = only (λ s. not (g s)) p

-- ---- the copy and the table left

-- 01: renumbered: record numbers count from 1
abbrev pub renumber : History → History
renumber [] = []
renumber (r ∷ p) = retag (suc (length p)) r ∷ renumber p

module _ (φ : Op → Bool) where
  -- just the kept transactions' records, in order
  abbrev pub survivors : List ℕ → History → History
  survivors bad j = only (surviving φ bad j) j

  -- 01: the copy, as a history: renumbered
  abbrev pub repaired : List ℕ → History → History
  repaired bad j = renumber (survivors bad j)

-- an item that begins at d, with the after images of all writes by transactions of k set in record order
abbrev pub replayed : (ℕ → Bool) → Amount → History → ℕ → Amount
replayed k d [] x = d
replayed k d (read t s y ∷ p) x = replayed k d p x
replayed k d (write t s y b a ∷ p) x = cond (eqb x y && k s) a (replayed k d p x)
replayed k d (commit t s ∷ p) x = replayed k d p x
replayed k d (abort t s ∷ p) x = replayed k d p x
replayed k d (other t s ∷ p) x = replayed k d p x
