-- The reads-from rule of specs/ReadsFrom.antt, proved.
-- Assumes nothing.
use mathlib.Core.Path.{◌≡◌, refl, ap, ◌∙◌}
use mathlib.Core.Bool.{Bool, true, false, not, ◌&&◌}
use mathlib.Core.List.{[], ◌∷◌, head-eq_of_cons-eq}
use mathlib.Core.Option.{Option, none, some, none-ne-some, some-injective}
use Prim.Native.Nat.{ℕ, ◌≤◌}
use native.Mathlib.Omega.{arith}
use lib.Dec.{eqb}
use lib.ListN.{length}
use borrow.Author.Tests.{eqb-true, eq-eqb}
use Rattle.std.proofs.lemmas.Bool.{and_from, or_left, or_right}
use Rattle.lists.specs.Search.{any, latest}
use Rattle.lists.proofs.BoolLaws.{by_cases, or_cases, and_left, and_right, clash}
use Rattle.lists.proofs.SearchLaws.{any_some, latest-none}
use Rattle.model.specs.History.{Op, History, Amount, Tag, read, write, commit, abort, other, tx_of, write_of, write_to, commit_of, abort_of, end_of, committed, aborted, ended}
use Rattle.model.specs.Undo.{is_source, Upto, all, more, reads_from, source_by, visible_to}
use Rattle.model.proofs.Ends.{upto-length, upto-unique, tail-ends, EndsLast, not-aborted, committed-unaborted}
use Rattle.model.proofs.ReadsFromLaws.{is_source-changed, changed-is_source, reads_from-by}
use Rattle.model.proofs.Legal.{Legal}
use Rattle.model.proofs.Strict.{legal-ends_last, Alone, alone-read}
use Rattle.model.proofs.Repair.{legal-ends}
use Rattle.model.proofs.Opening.{opening, legal-passing}
use Rattle.model.proofs.Extension.{legal-at}
use Rattle.journal.specs.Inputs.{Inputs}
use Rattle.journal.specs.Journal.{whole, amount_at}
use Rattle.journal.proofs.Passing.{passing-whole}
use Rattle.demands.specs.Days.{Pass}
use Rattle.demands.specs.ReadsFrom.{Source, by_itself, by-committed, Highest, last_unaborted, ReadsFrom}
use Rattle.demands.proofs.DaysLaws.{pass-checks}

-- ---- the newest that passes a test

module _ (f : Op → Bool) where
  upto-any : {w : Op} {q p : History} → Upto (w ∷ q) p → f w ≡ true → any f p ≡ true
  upto-any {w} {q} all e = or_left (f w) (any f q) e
  upto-any (more {q = r} {j} u) e = or_right (f r) (any f j) (upto-any u e)

  -- it stands in p, passes, and none that passes stands higher
  record Newest (p : History) (w : Op) : Type 0 where
    earlier : History
    there : Upto (w ∷ earlier) p
    passes : f w ≡ true
    newest : (v : Op) (q : History) → Upto (v ∷ q) p → f v ≡ true → length q ≤ length earlier

  latest-newest : (p : History) (w : Op) → latest f p ≡ some w → Newest p w
  latest-newest [] w e = absurd (none-ne-some w e)
  latest-newest (r ∷ p) w e =
      by_cases (f r)
      (λ h. let q : r ≡ w = some-injective r w (rw h at e) in
      rw (← q) (record { earlier = p; there = all; passes = h; newest = λ v q u _. bound u }))
      (λ h. let n = latest-newest p w (rw h at e) in
      record { earlier = n.earlier; there = more n.there; passes = n.passes; newest = λ v q u g. below n.earlier h n.newest u g })
    where
      bound : {v : Op} {q : History} → Upto (v ∷ q) (r ∷ p) → length q ≤ length p
      bound u = omega (arith, upto-length u)

      below : {v : Op} {q : History} (l : History) → f r ≡ false → ((v : Op) (q : History) → Upto (v ∷ q) p → f v ≡ true → length q ≤ length l)
          → Upto (v ∷ q) (r ∷ p) → f v ≡ true → length q ≤ length l
      below l h n all g = clash g h
      below l h n (more u) g = n _ _ u g

-- ---- the writes that may feed

module _ (p : History) (s x : ℕ) where
  source-passes : {w : Op} → Source p s x w → source_by is_source (visible_to p s) x w ≡ true
  source-passes (by_itself n) =
      and_from _ _ (and_from _ _ (eq-eqb x x refl) (or_left (eqb s s) (committed p s) (eq-eqb s s refl))) n
  source-passes (by-committed {i} {v} n c) =
      and_from _ _ (and_from _ _ (eq-eqb x x refl) (or_right (eqb s v) (committed p v) c)) n

  passes-source : (w : Op) → source_by is_source (visible_to p s) x w ≡ true → Source p s x w
  passes-source (read i v y) e = clash e refl
  passes-source (write i v y b a) e =
      let h = and_left (eqb x y && visible_to p s v) _ e in
      let xy = eqb-true x y (and_left (eqb x y) _ h) in
      let n : is_source (write i v x b a) ≡ true = rw xy (and_right (eqb x y && visible_to p s v) _ e) in
      rw (← xy)
      (or_cases (eqb s v) (committed p v) (and_right (eqb x y) _ h) (λ q. rw (← eqb-true s v q) (by_itself {i = i} {b = b} {a = a} (rw (eqb-true s v q) n))) (by-committed n))
  passes-source (commit i v) e = clash e refl
  passes-source (abort i v) e = clash e refl
  passes-source (other i v) e = clash e refl

  reads_from-highest : (w : Op) → reads_from is_source p s x ≡ some w → Highest p s x w
  unfolding reads_from
  reads_from-highest w e =
      let n = latest-newest (source_by is_source (visible_to p s) x) p w e in
      record { source = passes-source w n.passes; earlier = n.earlier; there = n.there; highest = λ v q u h. n.newest v q u (source-passes h) }

  -- two are the same
  highest-same : {w v : Op} → Highest p s x w → Highest p s x v → v ≡ w
  highest-same {w} {v} h k =
      let l : length (v ∷ k.earlier) ≡ length (w ∷ h.earlier) =
      omega (arith, h.highest v k.earlier k.there k.source, k.highest w h.earlier h.there h.source) in
      head-eq_of_cons-eq (upto-unique k.there h.there l)

  none-source : reads_from is_source p s x ≡ none → (w : Op) (q : History) → Upto (w ∷ q) p → Source p s x w → ⊥
  unfolding reads_from
  none-source e w q u h = clash (upto-any (source_by is_source (visible_to p s) x) u (source-passes h)) (latest-none (source_by is_source (visible_to p s) x) p e)

  by-reads_from : (P : Option Op → Type 0) → (reads_from is_source p s x ≡ none → P none) → ((v : Op) → reads_from is_source p s x ≡ some v → P (some v)) → P (reads_from is_source p s x)
  by-reads_from P f g = go (reads_from is_source p s x) refl
    where
      go : (o : Option Op) → reads_from is_source p s x ≡ o → P o
      go none e = f e
      go (some v) e = g v e

-- ---- the papers' rule

-- an end is a commit or an abort
ended-aborted : (v : ℕ) (p : History) → ended p v ≡ true → committed p v ≡ false → aborted p v ≡ true
ended-aborted v p e n = let (r, h, f) = any_some (end_of v) p e in of r h (f (commit_of v)) (f (abort_of v))
  where
    of : (r : Op) → end_of v r ≡ true → (commit_of v r ≡ true → committed p v ≡ true) → (abort_of v r ≡ true → aborted p v ≡ true) → aborted p v ≡ true
    of (read t u y) h c a = clash h refl
    of (write t u y b d) h c a = clash h refl
    of (commit t u) h c a = clash (c h) n
    of (abort t u) h c a = a h
    of (other t u) h c a = clash h refl

-- for a reader with no end, alone at the item, the writers that may feed are those not aborted
visible_to-unaborted : (o : ℕ → Amount) (p : History) (s x : ℕ) → EndsLast p → ended p s ≡ false → Alone o x p s
    → (v : ℕ) → any (write_of v x) p ≡ true → visible_to p s v ≡ not (aborted p v)
visible_to-unaborted o p s x c n a v w =
    by_cases (eqb s v)
    (λ e. rw (e, not-aborted v p (rw (eqb-true s v e) at n)))
    (λ e. by_cases (committed p v)
    (λ h. rw (e, h, committed-unaborted v p c h))
    (λ h. by_cases (ended p v) (λ d. rw (e, h, ended-aborted v p d h)) (λ d. clash w (a v e d))))

-- by kind
latest-sources : (g : ℕ → Bool) (x : ℕ) (p : History) → latest (source_by is_source g x) p ≡ latest (λ w. (write_to x w && g (tx_of w)) && is_source w) p
latest-sources g x [] = refl
latest-sources g x (read t v y ∷ p) = latest-sources g x p
latest-sources g x (write t v y b a ∷ p) = rw (latest-sources g x p)
latest-sources g x (commit t v ∷ p) = latest-sources g x p
latest-sources g x (abort t v ∷ p) = latest-sources g x p
latest-sources g x (other t v ∷ p) = latest-sources g x p

reads_from-papers : (d : Inputs) → Pass d → (i : Tag) (s x : ℕ) (p : History) → Upto (read i s x ∷ p) (whole d.journal)
    → reads_from is_source p s x ≡ last_unaborted p x
reads_from-papers d e i s x p u =
    let b = d.journal in
    let o : ℕ → Amount = opening (amount_at d.table) (whole b) in
    let k : Legal o (whole b) = legal-passing (amount_at d.table) (whole b) (passing-whole b (pass-checks d e).sound) in
    let l = legal-at o k u in
    reads_from-by is_source (λ v. not (aborted p v)) p s x
    (visible_to-unaborted o p s x (legal-ends_last o p (legal-ends o k (tail-ends u))) l.not_terminated (alone-read o x i s p l))
    ∙ latest-sources (λ v. not (aborted p v)) x p

pub reads-from : ReadsFrom
reads-from =
    record {
      feeding = λ i s x b a. (changed-is_source i s x b a, is_source-changed i s x b a);
      highest = λ p s x w. (
        reads_from-highest p s x w,
        λ h. by-reads_from p s x (λ o. o ≡ some w) (λ e. absurd (none-source p s x e w h.earlier h.there h.source))
            (λ v e. ap some (highest-same p s x h (reads_from-highest p s x v e))),
      );
      opening = λ p s x. (
        none-source p s x,
        λ n. by-reads_from p s x (λ o. o ≡ none) (λ e. refl) (λ v e. let k = reads_from-highest p s x v e in absurd (n v k.earlier k.there k.source)),
      );
      papers = reads_from-papers;
    }
