-- Tests on the operations of one transaction, parts of a history, and ends: what rule 6 says of commits and aborts.
-- Assumes nothing.
use mathlib.Core.Path.{◌≡◌, refl}
use mathlib.Core.Bool.{Bool, true, false, ◌||◌}
use mathlib.Core.List.{[], ◌∷◌}
use Prim.Native.Nat.{ℕ, ◌≤◌}
use native.Mathlib.Omega.{arith}
use lib.Dec.{eqb}
use lib.ListN.{length}
use borrow.Author.Tests.{eqb-true}
use Rattle.std.proofs.lemmas.Bool.{or_right}
use Rattle.lists.specs.Search.{any}
use Rattle.lists.proofs.BoolLaws.{by_cases, or_cases, and_left, and_right, clash}
use Rattle.lists.proofs.SearchLaws.{any-mono}
use Rattle.model.specs.History.{Op, History, Amount, read, write, commit, abort, other, tx_of, by_kind, item_of, read_of, write_of, access_of, write_to, access_to, commit_of, abort_of, end_of, committed, aborted, ended}
use Rattle.model.specs.Undo.{Upto, all, more, Untagged}

-- ---- tests by kind

-- a test on the operations of one transaction
abbrev pub OfTx : (Op → Bool) → ℕ → Type 0
OfTx f s = (r : Op) → f r ≡ true → s ≡ tx_of r

module _ (r : ℕ → ℕ → Bool) (w : ℕ → ℕ → Amount → Amount → Bool) (c a : ℕ → Bool) where
  pub by_kind-untagged : Untagged (by_kind r w c a)
  by_kind-untagged i (read t s x) = refl
  by_kind-untagged i (write t s x b d) = refl
  by_kind-untagged i (commit t s) = refl
  by_kind-untagged i (abort t s) = refl
  by_kind-untagged i (other t s) = refl

  by_kind-of : (s : ℕ) → ((v y : ℕ) → r v y ≡ true → s ≡ v) → ((v y : ℕ) (b d : Amount) → w v y b d ≡ true → s ≡ v) → ((v : ℕ) → c v ≡ true → s ≡ v) → ((v : ℕ) → a v ≡ true → s ≡ v)
      → OfTx (by_kind r w c a) s
  by_kind-of s f g h k (read t v y) e = f v y e
  by_kind-of s f g h k (write t v y b d) e = g v y b d e
  by_kind-of s f g h k (commit t v) e = h v e
  by_kind-of s f g h k (abort t v) e = k v e
  by_kind-of s f g h k (other t v) e = clash e refl

  by_kind-mono : (r' : ℕ → ℕ → Bool) (w' : ℕ → ℕ → Amount → Amount → Bool) (c' a' : ℕ → Bool) → ((v y : ℕ) → r v y ≡ true → r' v y ≡ true) → ((v y : ℕ) (b d : Amount) → w v y b d ≡ true → w' v y b d ≡ true)
      → ((v : ℕ) → c v ≡ true → c' v ≡ true) → ((v : ℕ) → a v ≡ true → a' v ≡ true) → (o : Op) → by_kind r w c a o ≡ true → by_kind r' w' c' a' o ≡ true
  by_kind-mono r' w' c' a' f g h k (read t v y) e = f v y e
  by_kind-mono r' w' c' a' f g h k (write t v y b d) e = g v y b d e
  by_kind-mono r' w' c' a' f g h k (commit t v) e = h v e
  by_kind-mono r' w' c' a' f g h k (abort t v) e = k v e
  by_kind-mono r' w' c' a' f g h k (other t v) e = e

no : {P : Type 0} → false ≡ true → P
no e = clash e refl

item-of : (s x v y : ℕ) → item_of s x v y ≡ true → s ≡ v
item-of s x v y e = eqb-true s v (and_left _ (eqb x y) e)

item-to : (s x v y : ℕ) → item_of s x v y ≡ true → eqb x y ≡ true
item-to s x v y e = and_right (eqb s v) _ e

pub commit-of : (s : ℕ) → OfTx (commit_of s) s
commit-of s = by_kind-of _ _ _ _ s (λ v y. no) (λ v y b d. no) (eqb-true s) (λ v. no)

pub abort-of : (s : ℕ) → OfTx (abort_of s) s
abort-of s = by_kind-of _ _ _ _ s (λ v y. no) (λ v y b d. no) (λ v. no) (eqb-true s)

pub end-of : (s : ℕ) → OfTx (end_of s) s
end-of s = by_kind-of _ _ _ _ s (λ v y. no) (λ v y b d. no) (eqb-true s) (eqb-true s)

pub read-of : (s x : ℕ) → OfTx (read_of s x) s
read-of s x = by_kind-of _ _ _ _ s (item-of s x) (λ v y b d. no) (λ v. no) (λ v. no)

pub write-of : (s x : ℕ) → OfTx (write_of s x) s
write-of s x = by_kind-of _ _ _ _ s (λ v y. no) (λ v y b d. item-of s x v y) (λ v. no) (λ v. no)

pub access-of : (s x : ℕ) → OfTx (access_of s x) s
access-of s x = by_kind-of _ _ _ _ s (item-of s x) (λ v y b d. item-of s x v y) (λ v. no) (λ v. no)

pub write-to : (s x : ℕ) (r : Op) → write_of s x r ≡ true → write_to x r ≡ true
write-to s x = by_kind-mono _ _ _ _ _ _ _ _ (λ v y. no) (λ v y b d. item-to s x v y) (λ v. no) (λ v. no)

pub access-to : (s x : ℕ) (r : Op) → access_of s x r ≡ true → access_to x r ≡ true
access-to s x = by_kind-mono _ _ _ _ _ _ _ _ (item-to s x) (λ v y b d. item-to s x v y) (λ v. no) (λ v. no)

pub write-access : (s x : ℕ) (r : Op) → write_of s x r ≡ true → access_of s x r ≡ true
write-access s x = by_kind-mono _ _ _ _ _ _ _ _ (λ v y. no) (λ v y b d e. e) (λ v. no) (λ v. no)

pub write-touch : (s x : ℕ) (r : Op) → write_of s x r ≡ true → access_to x r ≡ true
write-touch s x r e = access-to s x r (write-access s x r e)

pub read-access : (s x : ℕ) (r : Op) → read_of s x r ≡ true → access_of s x r ≡ true
read-access s x = by_kind-mono _ _ _ _ _ _ _ _ (λ v y e. e) (λ v y b d. no) (λ v. no) (λ v. no)

commit-end : (s : ℕ) (r : Op) → commit_of s r ≡ true → end_of s r ≡ true
commit-end s = by_kind-mono _ _ _ _ _ _ _ _ (λ v y. no) (λ v y b d. no) (λ v e. e) (λ v. no)

abort-end : (s : ℕ) (r : Op) → abort_of s r ≡ true → end_of s r ≡ true
abort-end s = by_kind-mono _ _ _ _ _ _ _ _ (λ v y. no) (λ v y b d. no) (λ v. no) (λ v e. e)

-- ---- parts of a history

pub tail-ends : {r : Op} {p j : History} → Upto (r ∷ p) j → Upto p j
tail-ends all = more all
tail-ends (more e) = more (tail-ends e)

pub any-ends : (f : Op → Bool) {p j : History} → Upto p j → any f p ≡ true → any f j ≡ true
any-ends f all h = h
any-ends f (more {q} {j} e) h = or_right (f q) (any f j) (any-ends f e h)

pub none-ends : (f : Op → Bool) {p j : History} → Upto p j → any f j ≡ false → any f p ≡ false
none-ends f {p} i n = by_cases (any f p) (λ e. clash (any-ends f i e) n) (λ e. e)

pub upto-length : {p j : History} → Upto p j → length p ≤ length j
upto-length all = omega arith
upto-length (more i) = omega (arith, upto-length i)

-- two parts of a history of the same length are the same
pub upto-unique : {p q j : History} → Upto p j → Upto q j → length p ≡ length q → p ≡ q
upto-unique all all e = refl
upto-unique all (more i) e = absurd (omega (arith, upto-length i))
upto-unique (more i) all e = absurd (omega (arith, upto-length i))
upto-unique (more i) (more k) e = upto-unique i k e

-- ---- ends

-- each transaction's records end with its end: rule 6
abbrev pub EndsLast : History → Type 0
EndsLast [] = Unit {0}
EndsLast (r ∷ p) = EndsLast p × (ended p (tx_of r) ≡ false)

pub committed-ended : (s : ℕ) (p : History) → committed p s ≡ true → ended p s ≡ true
committed-ended s p h = any-mono (commit_of s) (end_of s) (commit-end s) p h

pub not-committed : (s : ℕ) (p : History) → ended p s ≡ false → committed p s ≡ false
not-committed s p e = by_cases (committed p s) (λ q. clash (committed-ended s p q) e) (λ q. q)

pub not-aborted : (s : ℕ) (p : History) → ended p s ≡ false → aborted p s ≡ false
not-aborted s p e = by_cases (aborted p s) (λ q. clash (any-mono (abort_of s) (end_of s) (abort-end s) p q) e) (λ q. q)

-- a commit of s after p with s open, and no abort
commit-only : (s : ℕ) (r : Op) (p : History) → ended p (tx_of r) ≡ false → commit_of s r ≡ true → abort_of s r || aborted p s ≡ false
commit-only s (read t v x) p e h = no h
commit-only s (write t v x b a) p e h = no h
commit-only s (commit t v) p e h = not-aborted s p (rw (eqb-true s v h) e)
commit-only s (abort t v) p e h = no h
commit-only s (other t v) p e h = no h

-- a committed transaction was not rolled back
pub committed-unaborted : (s : ℕ) (j : History) → EndsLast j → committed j s ≡ true → aborted j s ≡ false
committed-unaborted s [] c h = refl
committed-unaborted s (r ∷ p) c h =
    or_cases (commit_of s r) (committed p s) h
    (commit-only s r p c.1)
    (λ z. rw (committed-unaborted s p c.0 z)
    (by_cases (abort_of s r) (λ q. clash (committed-ended s p z) (rw (← abort-of s r q) at c.1)) (λ q. rw q)))

-- once a transaction has ended, it is committed or not for good
pub after-end : (v : ℕ) {p j : History} → EndsLast j → Upto p j → ended p v ≡ true → committed j v ≡ committed p v
after-end v c all e = refl
after-end v c (more {q} {j} i) e =
    by_cases (commit_of v q)
    (λ h. clash (rw (commit-of v q h) at (any-ends (end_of v) i e)) c.1)
    (λ h. rw h (after-end v c.0 i e))
