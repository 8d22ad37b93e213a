-- Record numbers play no part in the rules: a renumbered history passes where the history does, and undoes the same transactions.
-- Assumes nothing.
use mathlib.Core.Path.{◌≡◌, refl, sym, ◌∙◌, ap, fun_ext}
use mathlib.Core.Bool.{Bool, not, ◌&&◌, ◌||◌}
use mathlib.Core.List.{List, [], ◌∷◌}
use mathlib.Core.Option.{Option, none, some}
use Prim.Native.Nat.{ℕ, suc}
use lib.ListN.{length}
use lib.Dec.{eqb}
use Rattle.lists.specs.Search.{any, latest, or_else, first, member}
use Rattle.lists.proofs.BoolLaws.{by_cases}
use Rattle.model.specs.History.{Op, History, Amount, Tag, read, write, commit, abort, other, tx_of, tag_of, before_of, unread, never, of_tx, read_of, write_of, write_to, access_to, commit_of, end_of, committed, ended, before_in, applied, current}
use Rattle.model.specs.Rules.{by_other, blind}
use Rattle.model.specs.Undo.{retag, Untagged, SourceTest, source_by, visible_to, reads_from, by_member, reached, surviving, only, renumber, repaired}
use Rattle.model.proofs.Ends.{by_kind-untagged}
use Rattle.model.proofs.ReadsFromLaws.{reads_from-by}
use Rattle.model.proofs.Legal.{LegalStep, Legal, NoBlindWrites}
use Rattle.model.proofs.Extension.{Numbered}

pub tx_of-retag : (i : Tag) (r : Op) → tx_of (retag i r) ≡ tx_of r
tx_of-retag i (read t s x) = refl
tx_of-retag i (write t s x b a) = refl
tx_of-retag i (commit t s) = refl
tx_of-retag i (abort t s) = refl
tx_of-retag i (other t s) = refl

pub of_tx-untagged : (s : ℕ) → Untagged (of_tx s)
of_tx-untagged s i r = ap (eqb s) (tx_of-retag i r)

-- ---- tests over a renumbered history

pub any-renumber : (f : Op → Bool) → Untagged f → (p : History) → any f (renumber p) ≡ any f p
any-renumber f u [] = refl
any-renumber f u (r ∷ p) = rw (u (suc (length p)) r, any-renumber f u p)

pub length-renumber : (p : History) → length (renumber p) ≡ length p
length-renumber [] = refl
length-renumber (r ∷ p) = ap suc (length-renumber p)

-- the two operations are there or not together, and differ in the record number at most
data Like : Option Op → Option Op → Type 0 where
  neither : Like none none
  both : (i : Tag) (r : Op) → Like (some (retag i r)) (some r)

latest-renumber : (f : Op → Bool) → Untagged f → (p : History) → Like (latest f (renumber p)) (latest f p)
latest-renumber f u [] = neither
latest-renumber f u (r ∷ p) = by_cases (f r) (λ e. rw (u (suc (length p)) r, e) (both _ r)) (λ e. rw (u (suc (length p)) r, e) (latest-renumber f u p))

like-or_else : {a b c d : Option Op} → Like a b → Like c d → Like (or_else a c) (or_else b d)
like-or_else neither m = m
like-or_else (both i r) m = both i r

first-renumber : (f : Op → Bool) → Untagged f → (p : History) → Like (first f (renumber p)) (first f p)
first-renumber f u [] = neither
first-renumber f u (r ∷ p) =
    by_cases (f r)
    (λ e. rw (u (suc (length p)) r, e) (like-or_else (first-renumber f u p) (both _ r)))
    (λ e. rw (u (suc (length p)) r, e) (first-renumber f u p))

before_of-retag : (i : Tag) (r : Op) (d : Amount) → before_of (retag i r) d ≡ before_of r d
before_of-retag i (read t s x) d = refl
before_of-retag i (write t s x b a) d = refl
before_of-retag i (commit t s) d = refl
before_of-retag i (abort t s) d = refl
before_of-retag i (other t s) d = refl

before_in-like : {a b : Option Op} → Like a b → (d : Amount) → before_in a d ≡ before_in b d
before_in-like neither d = refl
before_in-like (both i r) d = before_of-retag i r d

by_member-like : (l : List ℕ) {a b : Option Op} → Like a b → by_member l a ≡ by_member l b
by_member-like l neither = refl
by_member-like l (both i r) = ap (λ s. member s l) (tx_of-retag i r)

-- ---- items

applied-renumber : (i : Tag) (r : Op) (p : History) (x : ℕ) (v : Amount) → applied (retag i r) (renumber p) x v ≡ applied r p x v
applied-renumber i (read t s y) p x v = refl
applied-renumber i (write t s y b a) p x v = refl
applied-renumber i (commit t s) p x v = refl
applied-renumber i (abort t s) p x v = before_in-like (first-renumber (write_of s x) (by_kind-untagged _ _ _ _) p) v
applied-renumber i (other t s) p x v = refl

pub current-renumber : (d : Amount) (p : History) (x : ℕ) → current d (renumber p) x ≡ current d p x
current-renumber d [] x = refl
current-renumber d (r ∷ p) x = applied-renumber (suc (length p)) r p x (current d (renumber p) x) ∙ ap (applied r p x) (current-renumber d p x)

-- ---- transactions

pub committed-renumber : (p : History) (s : ℕ) → committed (renumber p) s ≡ committed p s
committed-renumber p s = any-renumber (commit_of s) (by_kind-untagged _ _ _ _) p

pub ended-renumber : (p : History) (s : ℕ) → ended (renumber p) s ≡ ended p s
ended-renumber p s = any-renumber (end_of s) (by_kind-untagged _ _ _ _) p

-- ---- the rules

by_other-renumber : (f : Op → Bool) → Untagged f → (p : History) (s : ℕ) → by_other f (renumber p) s ≡ by_other f p s
by_other-renumber f u p s =
    ap (λ (e : ℕ → Bool). any (λ r. f r && (not (eqb s (tx_of r)) && not (e (tx_of r)))) (renumber p)) (fun_ext (ended-renumber p))
    ∙ any-renumber (λ r. f r && (not (eqb s (tx_of r)) && not (ended p (tx_of r)))) (λ i r. rw (u i r, tx_of-retag i r)) p

legal_step-renumber : (o : ℕ → Amount) (i : Tag) (p : History) (r : Op) → LegalStep o p r → LegalStep o (renumber p) (retag i r)
legal_step-renumber o i p (read t s x) k = record { not_terminated = ended-renumber p s ∙ k.not_terminated; not_conflicting = by_other-renumber (write_to x) (by_kind-untagged _ _ _ _) p s ∙ k.not_conflicting; right = tt }
legal_step-renumber o i p (write t s x b a) k =
    record {
      not_terminated = ended-renumber p s ∙ k.not_terminated;
      not_conflicting = by_other-renumber (access_to x) (by_kind-untagged _ _ _ _) p s ∙ k.not_conflicting;
      right = k.right ∙ sym (current-renumber (o x) p x);
    }
legal_step-renumber o i p (commit t s) k = record { not_terminated = ended-renumber p s ∙ k.not_terminated; not_conflicting = refl; right = tt }
legal_step-renumber o i p (abort t s) k = record { not_terminated = ended-renumber p s ∙ k.not_terminated; not_conflicting = refl; right = tt }
legal_step-renumber o i p (other t s) k = record { not_terminated = ended-renumber p s ∙ k.not_terminated; not_conflicting = refl; right = tt }

pub legal-renumber : (o : ℕ → Amount) (p : History) → Legal o p → Legal o (renumber p)
legal-renumber o [] k = tt
legal-renumber o (r ∷ p) k = (legal-renumber o p k.0, legal_step-renumber o (suc (length p)) p r k.1)

blind-renumber : (i : Tag) (p : History) (r : Op) → blind (renumber p) (retag i r) ≡ blind p r
blind-renumber i p (read t s x) = refl
blind-renumber i p (write t s x b a) = ap not (any-renumber (read_of s x) (by_kind-untagged _ _ _ _) p)
blind-renumber i p (commit t s) = refl
blind-renumber i p (abort t s) = refl
blind-renumber i p (other t s) = refl

pub no_blind-renumber : (p : History) → NoBlindWrites p → NoBlindWrites (renumber p)
no_blind-renumber [] g = tt
no_blind-renumber (r ∷ p) g = (no_blind-renumber p g.0, blind-renumber (suc (length p)) p r ∙ g.1)

-- ---- the undo set

module _ (φ : Op → Bool) (law : SourceTest φ) where
  -- what feeds is found by one test, which does not look at record numbers
  pub reads_from-found : (p : History) (s x : ℕ) → (f : Op → Bool) × Untagged f × (reads_from φ p s x ≡ latest f p) × (reads_from φ (renumber p) s x ≡ latest f (renumber p))
  reads_from-found p s x = (
    source_by φ (visible_to p s) x,
    λ i r. rw (by_kind-untagged unread (λ v y b a. eqb x y && visible_to p s v) never never i r, law.untagged i r),
    reads_from-by φ (visible_to p s) p s x (λ v q. refl),
    reads_from-by φ (visible_to p s) (renumber p) s x (λ v q. ap (λ c. eqb s v || c) (committed-renumber p v)),
  )

  reads_from-renumber : (p : History) (s x : ℕ) → Like (reads_from φ (renumber p) s x) (reads_from φ p s x)
  reads_from-renumber p s x = let (f, u, e, e') = reads_from-found p s x in rw (e, e') (latest-renumber f u p)

  reached-cond : (i : Tag) (l : List ℕ) (r : Op) (p : History) → reached φ l (renumber p) ≡ reached φ l p → reached φ l (retag i r ∷ renumber p) ≡ reached φ l (r ∷ p)
  reached-cond i l (read t s x) p h = rw (h, by_member-like (reached φ l p) (reads_from-renumber p s x))
  reached-cond i l (write t s x b a) p h = h
  reached-cond i l (commit t s) p h = h
  reached-cond i l (abort t s) p h = h
  reached-cond i l (other t s) p h = h

  reached-renumber : (l : List ℕ) (p : History) → reached φ l (renumber p) ≡ reached φ l p
  reached-renumber l [] = refl
  reached-renumber l (r ∷ p) = reached-cond (suc (length p)) l r p (reached-renumber l p)

  pub surviving-renumber : (l : List ℕ) (p : History) (s : ℕ) → surviving φ l (renumber p) s ≡ surviving φ l p s
  surviving-renumber l p s = rw (committed-renumber p s, reached-renumber l p)

retag-retag : (i j : Tag) (r : Op) → retag i (retag j r) ≡ retag i r
retag-retag i j (read t s x) = refl
retag-retag i j (write t s x b a) = refl
retag-retag i j (commit t s) = refl
retag-retag i j (abort t s) = refl
retag-retag i j (other t s) = refl

length-only-renumber : (k : ℕ → Bool) (p : History) → length (only k (renumber p)) ≡ length (only k p)
length-only-renumber k [] = refl
length-only-renumber k (r ∷ p) =
    by_cases (k (tx_of r))
    (λ e. rw (tx_of-retag (suc (length p)) r, e) (ap suc (length-only-renumber k p)))
    (λ e. rw (tx_of-retag (suc (length p)) r, e) (length-only-renumber k p))

-- a selection of renumbered records, renumbered, is the selection renumbered
renumber-only : (k : ℕ → Bool) (p : History) → renumber (only k (renumber p)) ≡ renumber (only k p)
renumber-only k [] = refl
renumber-only k (r ∷ p) =
    by_cases (k (tx_of r))
    (λ e. rw (tx_of-retag (suc (length p)) r, e) (rw (length-only-renumber k p, retag-retag (suc (length (only k p))) (suc (length p)) r, renumber-only k p)))
    (λ e. rw (tx_of-retag (suc (length p)) r, e) (renumber-only k p))

-- a take-back of the renumbered history leaves the same
pub repaired-renumber : (φ : Op → Bool) → SourceTest φ → (l : List ℕ) (p : History) → repaired φ l (renumber p) ≡ repaired φ l p
repaired-renumber φ law l p = ap (λ k. renumber (only k (renumber p))) (fun_ext (surviving-renumber φ law l p)) ∙ renumber-only (surviving φ l p) p

-- ---- record numbers of a renumbered history

pub tag_of-retag : (i : Tag) (r : Op) → tag_of (retag i r) ≡ i
tag_of-retag i (read t s x) = refl
tag_of-retag i (write t s x b a) = refl
tag_of-retag i (commit t s) = refl
tag_of-retag i (abort t s) = refl
tag_of-retag i (other t s) = refl

pub renumber-numbered : (p : History) → Numbered (renumber p)
renumber-numbered [] = tt
renumber-numbered (r ∷ p) = (renumber-numbered p, tag_of-retag (suc (length p)) r ∙ ap suc (sym (length-renumber p)))
