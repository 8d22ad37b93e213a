-- Rule 9 and the opening amount as document 01 words them, and the table: what they say of a legal history.
-- Assumes nothing.
use mathlib.Core.Path.{◌≡◌, refl, sym, ◌∙◌, ap}
use mathlib.Core.Bool.{Bool, false≢true, true, false}
use mathlib.Core.List.{[], ◌∷◌}
use mathlib.Core.Option.{some}
use Prim.Native.Nat.{ℕ}
use lib.IntN.{pos}
use lib.Dec.{eqb}
use borrow.Author.Tests.{eq-eqb, ne_eqb, not-false}
use Rattle.std.proofs.lemmas.Bool.{or_left}
use Rattle.lists.specs.Search.{any, first}
use Rattle.lists.proofs.BoolLaws.{by_cases, clash}
use Rattle.lists.proofs.SearchLaws.{any-mono, first-none, first-old}
use Rattle.model.specs.History.{Op, History, Amount, Tag, same_amount, read, write, commit, abort, other, tx_of, of_tx, write_of, write_to, end_of, committed, ended, active, before_in, applied, current, initial, standing}
use Rattle.model.specs.Rules.{conflicting, mismatched}
use Rattle.model.specs.Undo.{Upto, all, more, only, replayed}
use Rattle.model.proofs.Amounts.{same_refl, same-eq}
use Rattle.model.proofs.Ends.{OfTx, end-of, write-of, tail-ends, any-ends, EndsLast, committed-unaborted}
use Rattle.model.proofs.Legal.{stand, LegalStep, Legal}
use Rattle.model.proofs.Strict.{inv, replayed-by}
use Rattle.model.proofs.Repair.{replayed-only, stand-unwritten}

-- ---- with a write, the standing amount does not depend on where the item began

applied-written : (r : Op) (p : History) (x : ℕ) (v w : Amount) → any (write_to x) (r ∷ p) ≡ true → (any (write_to x) p ≡ true → v ≡ w) → applied r p x v ≡ applied r p x w
applied-written (read t s y) p x v w h f = f h
applied-written (write t s y b a) p x v w h f = by_cases (eqb x y) (λ e. rw e) (λ e. rw e (f (rw e at h)))
applied-written (commit t s) p x v w h f = f h
applied-written (abort t s) p x v w h f = ap (before_in (first (write_of s x) p)) (f h)
applied-written (other t s) p x v w h f = f h

pub current-written : (d e : Amount) (p : History) (x : ℕ) → any (write_to x) p ≡ true → current d p x ≡ current e p x
current-written d e [] x h = absurd (false≢true h)
current-written d e (r ∷ p) x h = applied-written r p x _ _ h (current-written d e p x)

-- ---- rules 6, 7 and 9 as conditions

pub record Passes (p : History) (r : Op) : Type 0 where
  pub not_terminated : ended p (tx_of r) ≡ false
  pub not_conflicting : conflicting p r ≡ false
  pub matched : mismatched p r ≡ false

pub data Passing : History → Type 0 where
  start : Passing []
  step : {r : Op} {p : History} → Passing p → Passes p r → Passing (r ∷ p)

pub passing-ends : {p : History} → Passing p → EndsLast p
passing-ends start = tt
passing-ends (step k l) = (passing-ends k, l.not_terminated)

-- the opening amounts of j, where the table has t
abbrev pub opening : (ℕ → Amount) → History → ℕ → Amount
opening t j x = initial (t x) j x

first-upto : (f : Op → Bool) {r : Op} {p j : History} → Upto (r ∷ p) j → f r ≡ true → any f p ≡ false → first f j ≡ some r
first-upto f {r} {p} all e n = rw (e, first-none f p n)
first-upto f {r} {p} (more {q} {j} i) e n = first-old f q j (any-ends f i (or_left (f r) _ e)) ∙ first-upto f i e n

module _ (t : ℕ → Amount) (j : History) where
  right-write : (g : Tag) (s x : ℕ) (b a : Amount) (p : History) → Upto (write g s x b a ∷ p) j → mismatched p (write g s x b a) ≡ false → b ≡ stand (opening t j) p x
  right-write g s x b a p i m =
      by_cases (any (write_to x) p)
      (λ w. same-eq _ _ (not-false _ (rw w at m)) ∙ current-written _ _ p x w)
      (λ n. sym (stand-unwritten (opening t j) x p n ∙ ap (λ w. before_in w (t x)) (first-upto (write_to x) i (eq-eqb x x refl) n)))

  legal_step-passes : (r : Op) (p : History) → Upto (r ∷ p) j → Passes p r → LegalStep (opening t j) p r
  legal_step-passes (read g s x) p i k = record { not_terminated = k.not_terminated; not_conflicting = k.not_conflicting; right = tt }
  legal_step-passes (write g s x b a) p i k = record { not_terminated = k.not_terminated; not_conflicting = k.not_conflicting; right = right-write g s x b a p i k.matched }
  legal_step-passes (commit g s) p i k = record { not_terminated = k.not_terminated; not_conflicting = k.not_conflicting; right = tt }
  legal_step-passes (abort g s) p i k = record { not_terminated = k.not_terminated; not_conflicting = k.not_conflicting; right = tt }
  legal_step-passes (other g s) p i k = record { not_terminated = k.not_terminated; not_conflicting = k.not_conflicting; right = tt }

  legal-upto : (p : History) → Upto p j → Passing p → Legal (opening t j) p
  legal-upto [] i start = tt
  legal-upto (r ∷ p) i (step k l) = (legal-upto p (tail-ends i) k, legal_step-passes r p i l)

-- what passes is legal from its opening amounts
pub legal-passing : (t : ℕ → Amount) (j : History) → Passing j → Legal (opening t j) j
legal-passing t j k = legal-upto t j j all k

module _ (o : ℕ → Amount) where
  mismatched-legal : (r : Op) (p : History) → LegalStep o p r → mismatched p r ≡ false
  mismatched-legal (read g s x) p k = refl
  mismatched-legal (write g s x b a) p k =
      by_cases (any (write_to x) p)
      (λ w. let e : same_amount b (standing (pos 0) p x) ≡ true = ap (same_amount b) (current-written _ (o x) p x w ∙ sym k.right) ∙ same_refl b in rw (w, e))
      (λ n. rw n)
  mismatched-legal (commit g s) p k = refl
  mismatched-legal (abort g s) p k = refl
  mismatched-legal (other g s) p k = refl

  passes-legal : (r : Op) (p : History) → LegalStep o p r → Passes p r
  passes-legal r p k = record { not_terminated = k.not_terminated; not_conflicting = k.not_conflicting; matched = mismatched-legal r p k }

  -- what is legal passes
  pub passing-legal : (p : History) → Legal o p → Passing p
  passing-legal [] k = start
  passing-legal (r ∷ p) k = step (passing-legal p k.0) (passes-legal r p k.1)

  -- a written item's standing amount, whatever the table has, is the one from the opening amount
  pub standing-legal : (v : Amount) (p : History) (x : ℕ) → any (write_to x) p ≡ true → standing v p x ≡ stand o p x
  standing-legal v p x w = current-written _ _ p x w

-- ---- the table left

-- the table that a set of committed transactions leaves is what their records alone leave
pub left-stands : (k : ℕ → Bool) (o : ℕ → Amount) (j : History) → EndsLast j → ((s : ℕ) → k s ≡ true → committed j s ≡ true) → (x : ℕ)
    → replayed k (o x) j x ≡ stand o (only k j) x
left-stands k o j c h x = replayed-only k (o x) x j (λ s e. committed-unaborted s j c (h s e))

-- every transaction with an operation has an end
abbrev AllEnded : History → Type 0
AllEnded j = (s : ℕ) → active j s ≡ false

no-op : (f : Op → Bool) (s : ℕ) → OfTx f s → (j : History) → any (of_tx s) j ≡ false → any f j ≡ false
no-op f s h j n = by_cases (any f j) (λ q. clash (any-mono f (of_tx s) (λ r e. eq-eqb s (tx_of r) (h r e)) j q) n) (λ q. q)

finished-ended : (j : History) → AllEnded j → (s : ℕ) → any (of_tx s) j ≡ true → ended j s ≡ true
finished-ended j f s e = not-false (ended j s) (rw e at (f s))

-- with every transaction finished, an item stands where the committed writes set it
pub finished-stand : (o : ℕ → Amount) (j : History) → Legal o j → AllEnded j → (s : ℕ) → any (of_tx s) j ≡ false → (x : ℕ)
    → stand o j x ≡ replayed (committed j) (o x) j x
finished-stand o j k f s n x =
    (inv o x j k).amount s (no-op (end_of s) s (end-of s) j n)
    (λ v m e. by_cases (any (of_tx v) j) (λ q. clash (finished-ended j f v q) e) (λ q. no-op (write_of v x) v (write-of v x) j q))
    ∙ replayed-by _ _ _ x j (λ u q. rw (ne_eqb s u (λ z. clash (rw (← z) at q) (no-op (write_of s x) s (write-of s x) j n))))

-- one operation more, where the item stands at v if it is written before
pub current-step : (d v : Amount) (r : Op) (p : History) (x : ℕ) → any (write_to x) (r ∷ p) ≡ true → (any (write_to x) p ≡ true → current d p x ≡ v) → current d (r ∷ p) x ≡ applied r p x v
current-step d v r p x h f = applied-written r p x (current d p x) v h f
