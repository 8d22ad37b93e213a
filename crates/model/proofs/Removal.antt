-- What feeds a kept transaction's read is the same write after the transactions taken back are removed, and in the copy.
-- Assumes nothing.
use mathlib.Core.Path.{◌≡◌, refl}
use mathlib.Core.Bool.{Bool, true, false, not, ◌&&◌}
use mathlib.Core.Logic.{⊎_elim}
use mathlib.Core.List.{List, ◌∷◌}
use mathlib.Core.Option.{some}
use Prim.Native.Nat.{ℕ}
use Rattle.std.proofs.lemmas.Bool.{and_from}
use Rattle.lists.specs.Search.{any, member}
use Rattle.lists.proofs.BoolLaws.{by_cases, and_left, and_right}
use Rattle.lists.proofs.SearchLaws.{any-keep}
use Rattle.model.specs.History.{Op, History, Tag, read, tx_of, commit_of, committed, aborted}
use Rattle.model.specs.Undo.{Upto, reads_from, reached, undone, surviving, only}
use Rattle.model.proofs.Ends.{OfTx, tail-ends, any-ends, EndsLast, committed-unaborted}
use Rattle.model.proofs.ReadsFromLaws.{reads_from-tx, reads_from-only}
use Rattle.model.proofs.Closure.{reached-closed}

pub any-only : (k : ℕ → Bool) (f : Op → Bool) (s : ℕ) → OfTx f s → k s ≡ true → (p : History) → any f (only k p) ≡ any f p
any-only k f s h e p = any-keep f (λ r. k (tx_of r)) (λ r i. rw (← h r i) e) p

surviving-stays : (a b : Bool) → a && not b ≡ true → not (a && b) ≡ true
surviving-stays true b e = e
surviving-stays false b e = refl

module _ (φ : Op → Bool) (l : List ℕ) (j : History) (c : EndsLast j) where
  -- a kept transaction was not rolled back
  pub surviving-unaborted : (s : ℕ) → surviving φ l j s ≡ true → aborted j s ≡ false
  surviving-unaborted s h = committed-unaborted s j c (and_left (committed j s) _ h)

  -- what feeds a read of a kept transaction is a write of a kept transaction
  pub reads_from-surviving : {t : Tag} {s x : ℕ} {p : History} {w : Op} → Upto (read t s x ∷ p) j → surviving φ l j s ≡ true → reads_from φ p s x ≡ some w → surviving φ l j (tx_of w) ≡ true
  reads_from-surviving {t} {s} {x} {p} {w} i h e =
      ⊎_elim
      (λ (g : s ≡ tx_of w). rw (← g) h)
      (λ (g : committed p (tx_of w) ≡ true).
      and_from _ _ (any-ends (commit_of (tx_of w)) (tail-ends i) g)
      (by_cases (member (tx_of w) (reached φ l j))
      (λ m. let n = reached-closed φ l c i e m in let q = and_right (committed j s) _ h in cc)
      (λ m. rw m)))
      (reads_from-tx φ p s x e)

  -- the reads of the kept transactions are fed by the same write where the transactions taken back are removed
  pub reads_from-without : {t : Tag} {s x : ℕ} {p : History} → Upto (read t s x ∷ p) j → surviving φ l j s ≡ true → reads_from φ (only (λ v. not (undone φ l j v)) p) s x ≡ reads_from φ p s x
  reads_from-without {t} {s} {x} {p} i h = reads_from-only φ (λ v. not (undone φ l j v)) s x p (λ w e. surviving-stays (committed j (tx_of w)) _ (reads_from-surviving i h e))

  -- and so in the copy
  pub reads_from-copy : {t : Tag} {s x : ℕ} {p : History} → Upto (read t s x ∷ p) j → surviving φ l j s ≡ true → reads_from φ (only (surviving φ l j) p) s x ≡ reads_from φ p s x
  reads_from-copy {t} {s} {x} {p} i h = reads_from-only φ (surviving φ l j) s x p (λ w e. reads_from-surviving i h e)
