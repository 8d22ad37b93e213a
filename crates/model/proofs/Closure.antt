-- The transactions taken back are the least set: they hold the list, each committed transaction with a read fed by a member is one, and any set like that holds them.
-- Assumes nothing.
use mathlib.Core.Path.{◌≡◌, refl, sym, ◌∙◌}
use mathlib.Core.Bool.{Bool, false≢true, true, false, cond}
use mathlib.Core.Logic.{⊎_elim}
use mathlib.Core.List.{List, [], ◌∷◌}
use mathlib.Core.Option.{Option, none, some}
use Prim.Native.Nat.{ℕ}
use lib.Dec.{eqb}
use borrow.Author.Tests.{eqb-true, eq-eqb}
use Rattle.std.proofs.lemmas.Bool.{or_left, or_right}
use Rattle.lists.specs.Search.{member}
use Rattle.lists.proofs.BoolLaws.{by_cases, or_cases}
use Rattle.model.specs.History.{Op, History, Tag, read, write, commit, abort, other, tx_of, commit_of, end_of, committed, ended}
use Rattle.model.specs.Undo.{Upto, all, more, Closed, reads_from, by_member, reached}
use Rattle.model.proofs.Ends.{tail-ends, any-ends, EndsLast, committed-ended}
use Rattle.model.proofs.ReadsFromLaws.{reads_from-tx}

-- ---- membership

pub by_member-agree : (m n : List ℕ) (o : Option Op) → ((w : Op) → o ≡ some w → member (tx_of w) m ≡ member (tx_of w) n) → by_member m o ≡ by_member n o
by_member-agree m n none h = refl
by_member-agree m n (some w) h = h w refl

pub member-cond : (s v : ℕ) (m n : List ℕ) (b : Bool) → member s m ≡ member s n → member s (cond b (v ∷ m) m) ≡ member s (cond b (v ∷ n) n)
member-cond s v m n true h = rw h
member-cond s v m n false h = h

-- ---- the transactions reached

module _ (φ : Op → Bool) (l : List ℕ) where
  reached-step : (s : ℕ) (r : Op) (p : History) → member s (reached φ l p) ≡ true → member s (reached φ l (r ∷ p)) ≡ true
  reached-step s (read t v x) p h =
      by_cases (by_member (reached φ l p) (reads_from φ p v x)) (λ e. rw e (or_right (eqb s v) _ h)) (λ e. rw e h)
  reached-step s (write t v x b a) p h = h
  reached-step s (commit t v) p h = h
  reached-step s (abort t v) p h = h
  reached-step s (other t v) p h = h

  reached-ends : (s : ℕ) {p j : History} → Upto p j → member s (reached φ l p) ≡ true → member s (reached φ l j) ≡ true
  reached-ends s all h = h
  reached-ends s (more {q} {j} e) h = reached-step s q j (reached-ends s e h)

  pub reached-list : (s : ℕ) (j : History) → member s l ≡ true → member s (reached φ l j) ≡ true
  reached-list s [] h = h
  reached-list s (r ∷ p) h = reached-step s r p (reached-list s p h)

  -- a record of another transaction decides nothing on s
  pub reached-skip : (s : ℕ) (r : Op) (p : History) → eqb s (tx_of r) ≡ false → member s (reached φ l (r ∷ p)) ≡ member s (reached φ l p)
  reached-skip s (read t v x) p n = by_cases (by_member (reached φ l p) (reads_from φ p v x)) (λ e. rw (e, n)) (λ e. rw e)
  reached-skip s (write t v x b a) p n = refl
  reached-skip s (commit t v) p n = refl
  reached-skip s (abort t v) p n = refl
  reached-skip s (other t v) p n = refl

  -- once a transaction has ended, it is decided
  reached-ended : (s : ℕ) {p j : History} → EndsLast j → Upto p j → ended p s ≡ true → member s (reached φ l j) ≡ true → member s (reached φ l p) ≡ true
  reached-ended s c all e h = h
  reached-ended s c (more {q} {j} i) e h =
      reached-ended s c.0 i e
      (sym (reached-skip s q j
      (by_cases (eqb s (tx_of q))
      (λ k. let a : ended j s ≡ true = any-ends (end_of s) i e in let b : ended j (tx_of q) ≡ false = c.1 in let d = eqb-true s (tx_of q) k in cc)
      (λ k. k))) ∙ h)

  by_member-some : (m : List ℕ) (o : Option Op) {w : Op} → o ≡ some w → member (tx_of w) m ≡ true → by_member m o ≡ true
  by_member-some m o e h = rw e h

  by_member-true : (m : List ℕ) (o : Option Op) → by_member m o ≡ true → (w : Op) × (o ≡ some w) × (member (tx_of w) m ≡ true)
  by_member-true m none h = absurd (false≢true h)
  by_member-true m (some w) h = (w, refl, h)

  -- a transaction with a read fed by a write of a member is a member
  pub reached-closed : {j : History} → EndsLast j → {t : Tag} {s x : ℕ} {p : History} {w : Op} → Upto (read t s x ∷ p) j
      → reads_from φ p s x ≡ some w → member (tx_of w) (reached φ l j) ≡ true → member s (reached φ l j) ≡ true
  reached-closed {j} c {t} {s} {x} {p} {w} i e h =
      ⊎_elim
      (λ (k : s ≡ tx_of w). rw k h)
      (λ (k : committed p (tx_of w) ≡ true).
      let m = reached-ended (tx_of w) c (tail-ends i) (committed-ended (tx_of w) p k) h in
      let f = by_member-some (reached φ l p) (reads_from φ p s x) e m in
      reached-ends s i (rw f (or_left (eqb s s) _ (eq-eqb s s refl))))
      (reads_from-tx φ p s x e)

  -- and every set that has the list and is closed has the committed members
  module _ (j : History) (S : ℕ → Type 0) (m : Closed φ l j S) where
    least : (p : History) → Upto p j → (s : ℕ) → committed j s ≡ true → member s (reached φ l p) ≡ true → S s
    least [] i s c h = m.lists s h
    least (read t v x ∷ p) i s c h =
        by_cases (by_member (reached φ l p) (reads_from φ p v x))
        (λ e. or_cases (eqb s v) _ (rw e at h)
        (λ k. let (w, ew, n) = by_member-true (reached φ l p) (reads_from φ p v x) e in
        let k' : s ≡ v = eqb-true s v k in
        ⊎_elim
        (λ (g : v ≡ tx_of w). least p (tail-ends i) s c (rw (k', g) n))
        (λ (g : committed p (tx_of w) ≡ true). rw k' (m.readers i (rw k' at c) ew (least p (tail-ends i) (tx_of w) (any-ends (commit_of (tx_of w)) (tail-ends i) g) n)))
        (reads_from-tx φ p v x ew))
        (λ k. least p (tail-ends i) s c k))
        (λ e. least p (tail-ends i) s c (rw e at h))
    least (write t v x b a ∷ p) i s c h = least p (tail-ends i) s c h
    least (commit t v ∷ p) i s c h = least p (tail-ends i) s c h
    least (abort t v ∷ p) i s c h = least p (tail-ends i) s c h
    least (other t v ∷ p) i s c h = least p (tail-ends i) s c h

    pub reached-least : (s : ℕ) → committed j s ≡ true → member s (reached φ l j) ≡ true → S s
    reached-least s c h = least j all s c h

-- nothing is reached from the empty list
pub reached-empty : (φ : Op → Bool) (j : History) → reached φ [] j ≡ []
reached-empty φ [] = refl
reached-empty φ (read t s x ∷ p) = rw (reached-empty φ p) (none-by_member (reads_from φ p s x))
  where
    none-by_member : (o : Option Op) → cond (by_member [] o) (s ∷ []) [] ≡ []
    none-by_member none = refl
    none-by_member (some w) = refl
reached-empty φ (write t s x b a ∷ p) = reached-empty φ p
reached-empty φ (commit t s ∷ p) = reached-empty φ p
reached-empty φ (abort t s ∷ p) = reached-empty φ p
reached-empty φ (other t s ∷ p) = reached-empty φ p
