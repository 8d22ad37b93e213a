-- Laws of what feeds a read. Only they look into `is_source`; into `reads_from` also what says document 01's rule in words (demands,
-- ReadsFrom), and the days that are computed.
-- Assumes nothing.
use mathlib.Core.Path.{◌≡◌, refl}
use mathlib.Core.Bool.{Bool, true, false, cond, not, ◌&&◌}
use mathlib.Core.Logic.{◌⊎◌, inl, inr}
use mathlib.Core.List.{[], ◌∷◌}
use mathlib.Core.Option.{some}
use Prim.Native.Nat.{ℕ}
use lib.Dec.{eqb}
use borrow.Author.Tests.{eqb-true, eq-eqb, not-false}
use Rattle.std.proofs.lemmas.Bool.{or_right}
use Rattle.lists.specs.Search.{any, latest}
use Rattle.lists.proofs.BoolLaws.{by_cases, or_cases, and_left, and_right, clash}
use Rattle.lists.proofs.SearchLaws.{any-keep, latest-keep, latest-kept, latest-passes}
use Rattle.model.specs.History.{Op, History, Amount, Tag, same_amount, read, write, commit, abort, other, tx_of, write_of, write_to, commit_of, committed}
use Rattle.model.specs.Undo.{is_source, SourceTest, write_by, source_by, visible_to, reads_from, only}
use Rattle.model.proofs.Amounts.{same_refl, same-eq}
use Rattle.model.proofs.Ends.{by_kind-untagged, commit-of}

-- ---- a write feeds if it changed the amount

module _ (t : Tag) (s x : ℕ) (b a : Amount) where
  pub is_source-write : is_source (write t s x b a) ≡ not (same_amount b a)
  unfolding is_source
  is_source-write = refl

  pub is_source-changed : (b ≡ a → ⊥) → is_source (write t s x b a) ≡ true
  is_source-changed h = by_cases (same_amount b a) (λ e. absurd (h (same-eq b a e))) (λ e. rw (is_source-write, e))

  pub changed-is_source : is_source (write t s x b a) ≡ true → b ≡ a → ⊥
  changed-is_source h e = clash h (rw (is_source-write, e, same_refl a))

pub is_source-test : SourceTest is_source
unfolding is_source
is_source-test = record { untagged = by_kind-untagged _ _ _ _; still = λ t s x b a h. same-eq b a (not-false _ h) }

-- ---- the newest write that may feed

by-tx : (g : ℕ → Bool) (x : ℕ) (w : Op) → write_by g x w ≡ true → g (tx_of w) ≡ true
by-tx g x (read t v y) h = clash h refl
by-tx g x (write t v y b a) h = and_right (eqb x y) _ h
by-tx g x (commit t v) h = clash h refl
by-tx g x (abort t v) h = clash h refl
by-tx g x (other t v) h = clash h refl

module _ (φ : Op → Bool) where
  -- which transactions count matters only at the item's writers
  latest-by : (g g' : ℕ → Bool) (x : ℕ) (p : History) → ((v : ℕ) → any (write_of v x) p ≡ true → g v ≡ g' v) → latest (source_by φ g x) p ≡ latest (source_by φ g' x) p
  latest-by g g' x [] h = refl
  latest-by g g' x (read t v y ∷ p) h = latest-by g g' x p h
  latest-by g g' x (write t v y b a ∷ p) h =
      let ih = latest-by g g' x p (λ u q. h u (or_right (eqb u v && eqb x y) _ q)) in
      by_cases (eqb x y) (λ e. simp (h v (rw (eq-eqb v v refl, e)), ih)) (λ e. simp (e, ih))
  latest-by g g' x (commit t v ∷ p) h = latest-by g g' x p h
  latest-by g g' x (abort t v ∷ p) h = latest-by g g' x p h
  latest-by g g' x (other t v ∷ p) h = latest-by g g' x p h

  pub latest-tx : (g : ℕ → Bool) (x : ℕ) (p : History) {w : Op} → latest (source_by φ g x) p ≡ some w → g (tx_of w) ≡ true
  latest-tx g x p {w} h = by-tx g x w (and_left (write_by g x w) (φ w) (latest-passes (source_by φ g x) p h))

  -- ---- one read

  -- what feeds it is a write of the transaction itself or of one committed before
  pub reads_from-tx : (p : History) (s x : ℕ) {w : Op} → reads_from φ p s x ≡ some w → (s ≡ tx_of w) ⊎ (committed p (tx_of w) ≡ true)
  unfolding reads_from
  reads_from-tx p s x {w} h = or_cases (eqb s (tx_of w)) _ (latest-tx (visible_to p s) x p h) (λ e. inl (eqb-true s (tx_of w) e)) inr

  -- and one that may feed
  pub reads_from-passes : (p : History) (s x : ℕ) {w : Op} → reads_from φ p s x ≡ some w → φ w ≡ true
  unfolding reads_from
  reads_from-passes p s x {w} h = and_right (write_by (visible_to p s) x w) (φ w) (latest-passes (source_by φ (visible_to p s) x) p h)

  -- where those that it sees are those of g, as far as they wrote the item
  pub reads_from-by : (g : ℕ → Bool) (p : History) (s x : ℕ) → ((v : ℕ) → any (write_of v x) p ≡ true → visible_to p s v ≡ g v) → reads_from φ p s x ≡ latest (source_by φ g x) p
  unfolding reads_from
  reads_from-by g p s x h = latest-by (visible_to p s) g x p h

  -- ---- one operation more

  -- a write of the item by the reader itself
  pub reads_from-own : (t : Tag) (s x : ℕ) (b a : Amount) (p : History) → reads_from φ (write t s x b a ∷ p) s x ≡ cond (φ (write t s x b a)) (some (write t s x b a)) (reads_from φ p s x)
  unfolding reads_from
  reads_from-own t s x b a p = rw (eq-eqb s s refl, eq-eqb x x refl)

  -- an operation that neither writes the item nor commits one of its writers
  pub reads_from-still : (r : Op) (p : History) (s x : ℕ) → write_to x r ≡ false → ((v : ℕ) → any (write_of v x) p ≡ true → commit_of v r ≡ false) → reads_from φ (r ∷ p) s x ≡ reads_from φ p s x
  unfolding reads_from
  reads_from-still (read t v y) p s x e h = refl
  reads_from-still (write t v y b a) p s x e h = rw e
  reads_from-still (commit t v) p s x e h = latest-by (visible_to (commit t v ∷ p) s) (visible_to p s) x p (λ u q. rw (h u q))
  reads_from-still (abort t v) p s x e h = refl
  reads_from-still (other t v) p s x e h = refl

  -- ---- the records of the transactions of k

  module _ (k : ℕ → Bool) where
    visible_to-only : (s x : ℕ) (p : History) (r : Op) → k (tx_of r) ≡ true → source_by φ (visible_to (only k p) s) x r ≡ source_by φ (visible_to p s) x r
    visible_to-only s x p (read t v y) h = refl
    visible_to-only s x p (write t v y b a) h = simp (any-keep (commit_of v) (λ r. k (tx_of r)) (λ r i. rw (← commit-of v r i) h) p)
    visible_to-only s x p (commit t v) h = refl
    visible_to-only s x p (abort t v) h = refl
    visible_to-only s x p (other t v) h = refl

    pub reads_from-only : (s x : ℕ) (p : History) → ((w : Op) → reads_from φ p s x ≡ some w → k (tx_of w) ≡ true) → reads_from φ (only k p) s x ≡ reads_from φ p s x
    unfolding reads_from
    reads_from-only s x p h = latest-keep _ _ (λ r. k (tx_of r)) (visible_to-only s x p) p h

    pub reads_from-member : (s x : ℕ) (p : History) {w : Op} → reads_from φ (only k p) s x ≡ some w → k (tx_of w) ≡ true
    unfolding reads_from
    reads_from-member s x p h = latest-kept (source_by φ (visible_to (only k p) s) x) (λ r. k (tx_of r)) p h
