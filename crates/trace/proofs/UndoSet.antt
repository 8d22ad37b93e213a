-- The trace reaches the transactions that the undo set has: a read of a transaction that commits is fed by the newest earlier write
-- that may feed, by a transaction that commits.
-- Assumes nothing.
use mathlib.Core.Path.{◌≡◌, refl, sym, ◌∙◌, ap, fun_ext}
use mathlib.Core.Bool.{Bool, true, false, cond, not, ◌&&◌}
use mathlib.Core.List.{List, [], ◌∷◌}
use mathlib.Core.Option.{Option, none, some}
use Prim.Native.Nat.{ℕ, ◌+◌, ◌<◌}
use native.Mathlib.Omega.{arith}
use lib.Dec.{eqb, ltb}
use lib.IntN.{pos}
use lib.ListN.{length, get_or, get_or-eq_default}
use borrow.Author.Tests.{ne_eqb, ltb-true, ltb-false}
use Rattle.lists.specs.Search.{latest, member}
use Rattle.lists.proofs.BoolLaws.{by_cases, clash}
use Rattle.lists.proofs.TablesLaws.{tabulate-ext, length-tabulate, by_index, map-tabulate}
use Rattle.model.specs.History.{Op, History, Amount, Tag, read, write, commit, abort, other, tx_of, committed}
use Rattle.model.specs.Undo.{is_source, source_by, Upto, all, reads_from, by_member, reached, undone, surviving}
use Rattle.model.proofs.Ends.{tail-ends}
use Rattle.model.proofs.ReadsFromLaws.{latest-tx}
use Rattle.model.proofs.Closure.{by_member-agree, member-cond}
use Rattle.model.proofs.Legal.{Legal}
use Rattle.model.proofs.Strict.{alone-read}
use Rattle.model.proofs.Repair.{reads_from-committed}
use Rattle.model.proofs.Opening.{opening, legal-passing}
use Rattle.model.proofs.Extension.{legal-at}
use Rattle.journal.specs.Journal.{history}
use Rattle.journal.specs.Results.{status_vector}
use Rattle.journal.specs.Calls.{status_of, statuses}
use Rattle.arrays.specs.Arrays.{Ready, ends_of}
use Rattle.arrays.proofs.Found.{passing-history}
use Rattle.trace.specs.declared.Fate.{Fate}
use Rattle.trace.specs.Codes.{coded, flags_of, fate_code, fate_codes, fate_of, fates_of}
use Rattle.trace.specs.Trace.{writer_in, source, traced}
use Rattle.trace.proofs.CodesLaws.{flags-array}
use Rattle.trace.proofs.Ends.{none-committed, coded-committed, committed-coded}

-- ---- what feeds

-- a read of a transaction that commits: by then every other writer of the item has ended
reads_from-read : (o : ℕ → Amount) (j : History) (k : Legal o j) {t : Tag} {s x : ℕ} {p : History} → Upto (read t s x ∷ p) j → committed j s ≡ true
    → reads_from is_source p s x ≡ latest (source_by is_source (committed j) x) p
reads_from-read o j k {t} {s} {x} {p} i h = reads_from-committed o j k x is_source s (tail-ends i) h (alone-read o x t s p (legal-at o k i))

-- the source's number
source-reads_from : (c : ℕ → Bool) → c 0 ≡ false → (m : List ℕ) (x : ℕ) (p : History)
    → not (eqb (source c p x) 0) && member (source c p x) m ≡ by_member m (latest (source_by is_source c x) p)
source-reads_from c z m x p = of (latest (source_by is_source c x) p) (λ w e. latest-tx is_source c x p e)
  where
    of : (o : Option Op) → ((w : Op) → o ≡ some w → c (tx_of w) ≡ true) → not (eqb (writer_in o) 0) && member (writer_in o) m ≡ by_member m o
    of none h = refl
    of (some w) h = let n : eqb (tx_of w) 0 ≡ false = ne_eqb (tx_of w) 0 (λ q. clash (rw q at (h w refl)) z) in rw n

-- only members of c are asked for
by_member-within : (c : ℕ → Bool) (m m' : List ℕ) → ((v : ℕ) → c v ≡ true → member v m ≡ member v m') → (x : ℕ) (p : History)
    → by_member m (latest (source_by is_source c x) p) ≡ by_member m' (latest (source_by is_source c x) p)
by_member-within c m m' h x p = by_member-agree m m' (latest (source_by is_source c x) p) (λ w e. h (tx_of w) (latest-tx is_source c x p e))

member-skip : (v s : ℕ) (m : List ℕ) (c : Bool) → eqb v s ≡ false → member v (cond c (s ∷ m) m) ≡ member v m
member-skip v s m true e = rw e
member-skip v s m false e = refl

-- ---- the transactions reached

module _ (o : ℕ → Amount) (j : History) (k : Legal o j) (z : committed j 0 ≡ false) (bad : List ℕ) where
  traced-reached : (p : History) → Upto p j → (v : ℕ) → committed j v ≡ true → member v (traced (committed j) bad p) ≡ member v (reached is_source bad p)
  traced-reached [] i v h = refl
  traced-reached (read t s x ∷ p) i v h =
      let ih = traced-reached p (tail-ends i) in
      let m = traced (committed j) bad p in
      rw (source-reads_from (committed j) z m x p)
      (by_cases (committed j s)
      (λ e. rw (reads_from-read o j k i e, by_member-within (committed j) m (reached is_source bad p) ih x p)
      (member-cond v s m (reached is_source bad p) (by_member (reached is_source bad p) (latest (source_by is_source (committed j) x) p)) (ih v h)))
      (λ e. let n : eqb v s ≡ false = ne_eqb v s (λ q. clash (rw q at h) e) in
      member-skip v s m (by_member m (latest (source_by is_source (committed j) x) p)) n ∙ ih v h ∙ sym (member-skip v s (reached is_source bad p) (by_member (reached is_source bad p) (reads_from is_source p s x)) n)))
  traced-reached (write t s x b a ∷ p) i v h = traced-reached p (tail-ends i) v h
  traced-reached (commit t s ∷ p) i v h = traced-reached p (tail-ends i) v h
  traced-reached (abort t s ∷ p) i v h = traced-reached p (tail-ends i) v h
  traced-reached (other t s ∷ p) i v h = traced-reached p (tail-ends i) v h

-- ---- the fates are the statuses

module _ (b : List ℕ) (n : ℕ) (k : Ready b n) (ends : List ℕ) (e : ends ≡ ends_of (history b n)) (bad : List ℕ) where
  legal : Legal (opening (λ x. pos 0) (history b n)) (history b n)
  legal = legal-passing (λ x. pos 0) (history b n) (passing-history b n k.passed)

  reached-same : (v : ℕ) → committed (history b n) v ≡ true → member v (traced (coded 1 ends) bad (history b n)) ≡ member v (reached is_source bad (history b n))
  reached-same v h =
      rw (committed-coded b n k ends e)
      (traced-reached _ (history b n) legal (none-committed b n k 0 (λ u. omega arith)) bad (history b n) all v h)

  fate-status : (s : ℕ) → s < 1025
      → fate_code (fate_of (get_or ends s 0) (get_or (flags_of (traced (coded 1 ends) bad (history b n))) s false)) ≡ status_of (undone is_source bad (history b n)) (surviving is_source bad (history b n)) s
  unfolding status_of coded
  fate-status s h =
      rw (coded-committed b n k ends e s, (flags-array (traced (coded 1 ends) bad (history b n))).at s false h)
      (by_cases (committed (history b n) s)
      (λ q. rw (q, reached-same s q) (by_cases (member s (reached is_source bad (history b n))) (λ w. rw w) (λ w. rw w)))
      (λ q. rw q))

  pub fates-statuses : (flags : List Bool) (fates : List Fate) → flags ≡ flags_of (traced (coded 1 ends) bad (history b n)) → fates ≡ fates_of ends flags → fate_codes fates ≡ statuses bad (history b n)
  unfolding fates_of statuses status_vector
  fates-statuses flags fates f g =
      ap fate_codes g ∙ rw f (map-tabulate fate_code _ 0 1025 ∙ tabulate-ext _ _ 0 0 1025 (λ s h. let z : 0 + s ≡ s = omega arith in rw z (fate-status s h)))

-- ---- what the codes say

pub status-length : (p : History) (bad fates : List ℕ) → fates ≡ statuses bad p → length fates ≡ 1025
unfolding statuses status_vector
status-length p bad fates f = ap length f ∙ length-tabulate _ 0 1025

module _ (b : List ℕ) (n : ℕ) (k : Ready b n) (bad fates : List ℕ) (f : fates ≡ statuses bad (history b n)) where
  status-at : (s : ℕ) → s < 1025 → get_or fates s 0 ≡ status_of (undone is_source bad (history b n)) (surviving is_source bad (history b n)) s
  unfolding statuses status_vector
  status-at s h = rw f ((by_index _ 1025).at s 0 h)

  surviving-at : (s : ℕ) → coded 1 fates s ≡ surviving is_source bad (history b n) s
  unfolding coded status_of
  surviving-at s =
      by_cases (ltb s 1025)
      (λ q. rw (status-at s (ltb-true s 1025 q)) (two (committed (history b n) s) (member s (reached is_source bad (history b n)))))
      (λ q. let l = ltb-false s 1025 q in
      let z : get_or fates s 0 ≡ 0 = get_or-eq_default fates 0 {n = s} (omega (arith, status-length (history b n) bad fates f)) in
      rw (z, none-committed b n k s (λ u. omega arith)))
    where
      two : (c m : Bool) → eqb (cond (c && m) 2 (cond (c && not m) 1 0)) 1 ≡ c && not m
      two true true = refl
      two true false = refl
      two false m = refl

  pub coded-surviving : coded 1 fates ≡ surviving is_source bad (history b n)
  coded-surviving = fun_ext surviving-at

  pub coded-undone : (s : ℕ) → s < 1025 → coded 2 fates s ≡ undone is_source bad (history b n) s
  unfolding coded status_of
  coded-undone s h = rw (status-at s h) (two (committed (history b n) s) (member s (reached is_source bad (history b n))))
    where
      two : (c m : Bool) → eqb (cond (c && m) 2 (cond (c && not m) 1 0)) 2 ≡ c && m
      two true true = refl
      two true false = refl
      two false m = refl
