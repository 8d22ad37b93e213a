-- Transaction histories: the operations of a journal, newest first, and the state of transactions and items after them.
-- Document 01, "The journal". Assumes nothing.
use Rattle.std.specs.Prelude.{Bool, true, false, cond, not, ◌&&◌, List, [], ◌∷◌, ℕ, ℤ, pos, negsuc, eqb, ltb}
use Rattle.std.proofs.Math.Option.{Option, none, some}
use Rattle.lists.specs.Search.{any, first}

-- An amount, in whole pence.
abbrev pub Amount : Type 0
Amount = ℤ

abbrev pub same_amount : Amount → Amount → Bool
same_amount (pos m) (pos n) = eqb m n
same_amount (pos m) (negsuc n) = false
same_amount (negsuc m) (pos n) = false
same_amount (negsuc m) (negsuc n) = eqb m n

-- What rules 6 to 9 and feeding never look at: the record number (LSN), by which the chain goes. Two writes are the same write if
-- they are equal, their record numbers too.
abbrev pub Tag : Type 0
Tag = ℕ

-- A record by its effect: tag, transaction (01: sale), item, before image, after image. `other` is a record of a kind that the
-- layout does not know; refusal 4 stops there, so rules 6 to 9 never meet one. The chain counts it by its bytes 2-3.
pub data Op : Type 0 where
  read : Tag → ℕ → ℕ → Op
  write : Tag → ℕ → ℕ → Amount → Amount → Op
  commit : Tag → ℕ → Op
  abort : Tag → ℕ → Op
  other : Tag → ℕ → Op

-- Newest first, so that what stands before an operation is the list's tail.
abbrev pub History : Type 0
History = List Op

abbrev pub tx_of : Op → ℕ
tx_of (read t s x) = s
tx_of (write t s x b a) = s
tx_of (commit t s) = s
tx_of (abort t s) = s
tx_of (other t s) = s

abbrev pub tag_of : Op → Tag
tag_of (read t s x) = t
tag_of (write t s x b a) = t
tag_of (commit t s) = t
tag_of (abort t s) = t
tag_of (other t s) = t

-- the before image of a write; d for any other operation
abbrev pub before_of : Op → Amount → Amount
before_of (read t s x) d = d
before_of (write t s x b a) d = b
before_of (commit t s) d = d
before_of (abort t s) d = d
before_of (other t s) d = d

-- the after image of a write; d for any other operation
abbrev pub after_of : Op → Amount → Amount
after_of (read t s x) d = d
after_of (write t s x b a) d = a
after_of (commit t s) d = d
after_of (abort t s) d = d
after_of (other t s) d = d

-- ---- tests on one operation

-- A test by kind: of reads by transaction and item, of writes by transaction, item and images, of commits and of aborts by
-- transaction.
-- Nothing else passes.
abbrev pub by_kind : (ℕ → ℕ → Bool) → (ℕ → ℕ → Amount → Amount → Bool) → (ℕ → Bool) → (ℕ → Bool) → Op → Bool
by_kind r w c a (read t s x) = r s x
by_kind r w c a (write t s x before after) = w s x before after
by_kind r w c a (commit t s) = c s
by_kind r w c a (abort t s) = a s
by_kind r w c a (other t s) = false

-- what passes no read, no write, and no commit or abort
abbrev pub unread : ℕ → ℕ → Bool
unread s x = false

abbrev pub unwritten : ℕ → ℕ → Amount → Amount → Bool
unwritten s x b a = false

abbrev pub never : ℕ → Bool
never s = false

-- transaction s at item x
abbrev pub item_of : ℕ → ℕ → ℕ → ℕ → Bool
item_of s x v y = eqb s v && eqb x y

-- an operation of transaction s
abbrev pub of_tx : ℕ → Op → Bool
of_tx s r = eqb s (tx_of r)

abbrev pub read_of : ℕ → ℕ → Op → Bool
read_of s x = by_kind (item_of s x) unwritten never never

abbrev pub write_of : ℕ → ℕ → Op → Bool
write_of s x = by_kind unread (λ v y b a. item_of s x v y) never never

-- a read or a write of item x by transaction s
abbrev pub access_of : ℕ → ℕ → Op → Bool
access_of s x = by_kind (item_of s x) (λ v y b a. item_of s x v y) never never

-- a write of item x
abbrev pub write_to : ℕ → Op → Bool
write_to x = by_kind unread (λ v y b a. eqb x y) never never

-- a read or a write of item x
abbrev pub access_to : ℕ → Op → Bool
access_to x = by_kind (λ v y. eqb x y) (λ v y b a. eqb x y) never never

abbrev pub commit_of : ℕ → Op → Bool
commit_of s = by_kind unread unwritten (eqb s) never

abbrev pub abort_of : ℕ → Op → Bool
abort_of s = by_kind unread unwritten never (eqb s)

-- an end of transaction s (01: commit or rollback)
abbrev pub end_of : ℕ → Op → Bool
end_of s = by_kind unread unwritten (eqb s) (eqb s)

-- ---- transactions after p

-- 01: committed
abbrev pub committed : History → ℕ → Bool
committed p s = any (commit_of s) p

-- 01: rolled back, and so dropped
abbrev pub aborted : History → ℕ → Bool
aborted p s = any (abort_of s) p

-- 01: finished
abbrev pub ended : History → ℕ → Bool
ended p s = any (end_of s) p

-- 01: open: it has an operation and no end
abbrev pub active : History → ℕ → Bool
active p s = any (of_tx s) p && not (ended p s)

-- ---- items after p

-- the before image of an operation that was looked for; d if there is none
abbrev pub before_in : Option Op → Amount → Amount
before_in none d = d
before_in (some w) d = before_of w d

-- What operation r does to an item x that stands at v after p: a write sets its after image, an abort returns the item to the
-- before image of the transaction's first write of it.
abbrev pub applied : Op → History → ℕ → Amount → Amount
applied (read t s y) p x v = v
applied (write t s y b a) p x v = cond (eqb x y) a v
applied (commit t s) p x v = v
applied (abort t s) p x v = before_in (first (write_of s x) p) v
applied (other t s) p x v = v

-- the amount of item x after all of p, aborts included, where it began at d
abbrev pub current : Amount → History → ℕ → Amount
current d [] x = d
current d (r ∷ p) x = applied r p x (current d p x)

-- 01: opening amount: the before image of the item's first write, or else its amount v in the table
abbrev pub initial : Amount → History → ℕ → Amount
initial v j x = before_in (first (write_to x) j) v

-- 01: standing amount, where the table has v
abbrev pub standing : Amount → History → ℕ → Amount
standing v p x = current (initial v p x) p x

-- ---- the chain

-- a later operation than tag i, of transaction s
abbrev pub later_of : Tag → ℕ → Op → Bool
later_of i s r = eqb s (tx_of r) && ltb i (tag_of r)

abbrev pub tag_in : Option Op → Tag
tag_in none = 0
tag_in (some r) = tag_of r

-- 01: next: the lowest later record of the same transaction; 0 if there is none
abbrev pub next_in : History → Tag → ℕ → Tag
next_in j i s = tag_in (first (later_of i s) j)

-- ---- record counts by kind (01: tally)

abbrev pub is_read : Op → Bool
is_read = by_kind (λ s x. true) unwritten never never

abbrev pub is_write : Op → Bool
is_write = by_kind unread (λ s x b a. true) never never

abbrev pub is_commit : Op → Bool
is_commit = by_kind unread unwritten (λ s. true) never

abbrev pub is_abort : Op → Bool
is_abort = by_kind unread unwritten never (λ s. true)
