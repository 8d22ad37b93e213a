-- The end of a transaction, as a code.
-- Assumes nothing.
use mathlib.Core.Path.{◌≡◌, refl, ◌∙◌, ap}
use mathlib.Core.Bool.{not, not-not}
use mathlib.Core.List.{[], ◌∷◌}
use Prim.Native.Nat.{ℕ}
use lib.Dec.{eqb}
use borrow.Author.Tests.{eqb-true}
use Rattle.lists.proofs.BoolLaws.{by_cases}
use Rattle.model.specs.History.{History, read, write, commit, abort, other, ended, committed, aborted}
use Rattle.model.proofs.Ends.{EndsLast, not-committed, not-aborted}
use Rattle.arrays.specs.Recent.{end_code}

pub ended-code : (p : History) (s : ℕ) → ended p s ≡ not (eqb (end_code p s) 0)
ended-code [] s = refl
ended-code (read t v y ∷ p) s = ended-code p s
ended-code (write t v y b a ∷ p) s = ended-code p s
ended-code (commit t v ∷ p) s = by_cases (eqb s v) (λ e. rw e) (λ e. rw e (ended-code p s))
ended-code (abort t v ∷ p) s = by_cases (eqb s v) (λ e. rw e) (λ e. rw e (ended-code p s))
ended-code (other t v ∷ p) s = ended-code p s

pub active-code : (p : History) (s : ℕ) → not (ended p s) ≡ eqb (end_code p s) 0
active-code p s = ap not (ended-code p s) ∙ not-not (eqb (end_code p s) 0)

-- ---- where no transaction goes on after its end

pub code-committed : (s : ℕ) (p : History) → EndsLast p → eqb (end_code p s) 1 ≡ committed p s
code-committed s [] c = refl
code-committed s (read t v x ∷ p) c = code-committed s p c.0
code-committed s (write t v x b a ∷ p) c = code-committed s p c.0
code-committed s (commit t v ∷ p) c = by_cases (eqb s v) (λ e. rw e) (λ e. rw e (code-committed s p c.0))
code-committed s (abort t v ∷ p) c =
    by_cases (eqb s v)
    (λ e. rw (e, not-committed s p (rw (eqb-true s v e) c.1)))
    (λ e. rw e (code-committed s p c.0))
code-committed s (other t v ∷ p) c = code-committed s p c.0

pub code-aborted : (s : ℕ) (p : History) → EndsLast p → eqb (end_code p s) 2 ≡ aborted p s
code-aborted s [] c = refl
code-aborted s (read t v x ∷ p) c = code-aborted s p c.0
code-aborted s (write t v x b a ∷ p) c = code-aborted s p c.0
code-aborted s (commit t v ∷ p) c =
    by_cases (eqb s v)
    (λ e. rw (e, not-aborted s p (rw (eqb-true s v e) c.1)))
    (λ e. rw e (code-aborted s p c.0))
code-aborted s (abort t v ∷ p) c = by_cases (eqb s v) (λ e. rw e) (λ e. rw e (code-aborted s p c.0))
code-aborted s (other t v ∷ p) c = code-aborted s p c.0
