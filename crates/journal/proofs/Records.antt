-- A journal's records as operations, and lists of records as journals' bytes.
-- Assumes nothing.
use mathlib.Core.Path.{◌≡◌, refl, sym, ◌∙◌, ap}
use mathlib.Core.Bool.{Bool, true, false, cond}
use mathlib.Core.List.{List, [], ◌∷◌}
use Prim.Native.Nat.{ℕ, zero, suc, ◌≤◌}
use native.Mathlib.Omega.{arith}
use lib.Dec.{eqb}
use borrow.Author.Tests.{eqb-true, eqb-false}
use lib.ListN.{length}
use Rattle.lists.proofs.SuffixLaws.{Suffix, same, behind}
use Rattle.lists.proofs.BoolLaws.{by_cases, clash}
use Rattle.format.specs.declared.Record.{Record}
use Rattle.format.specs.Layout.{record_at}
use Rattle.model.specs.History.{Op, History, Tag, read, write, commit, abort, other, tx_of, tag_of, next_in}
use Rattle.model.specs.Undo.{Upto, all, more, only, retag, renumber}
use Rattle.model.proofs.Renumber.{length-renumber}
use Rattle.journal.specs.Journal.{tx_in, op_of, records, history}
use Rattle.journal.specs.Copy.{linked_to, CopyRule, unchanged, copied_by, copied}

-- ---- one record

-- what holds of the operation of each kind holds of the operation
pub by_kind : (P : Op → Type 0) (i : Tag) (r : Record) → P (read i (tx_in r) r.item.0) → P (write i (tx_in r) r.item.0 r.before r.after)
    → P (commit i (tx_in r)) → P (abort i (tx_in r)) → P (other i (tx_in r)) → P (op_of i r)
unfolding op_of
by_kind P i r a b c d e = four (eqb r.kind 1) (eqb r.kind 2) (eqb r.kind 3) (eqb r.kind 4)
  where
    four : (k l m n : Bool) → P (cond k (read i (tx_in r) r.item.0) (cond l (write i (tx_in r) r.item.0 r.before r.after) (cond m (commit i (tx_in r)) (cond n (abort i (tx_in r)) (other i (tx_in r))))))
    four true l m n = a
    four false true m n = b
    four false false true n = c
    four false false false true = d
    four false false false false = e

pub tx_of-op_of : (i : Tag) (r : Record) → tx_of (op_of i r) ≡ tx_in r
tx_of-op_of i r = by_kind (λ o. tx_of o ≡ tx_in r) i r refl refl refl refl refl

pub tag_of-op_of : (i : Tag) (r : Record) → tag_of (op_of i r) ≡ i
tag_of-op_of i r = by_kind (λ o. tag_of o ≡ i) i r refl refl refl refl refl

retag-op_of : (i j : Tag) (r : Record) → retag i (op_of j r) ≡ op_of i r
unfolding op_of
retag-op_of i j r = four (eqb r.kind 1) (eqb r.kind 2) (eqb r.kind 3) (eqb r.kind 4)
  where
    of : Tag → Bool → Bool → Bool → Bool → Op
    of t k l m n = cond k (read t (tx_in r) r.item.0) (cond l (write t (tx_in r) r.item.0 r.before r.after) (cond m (commit t (tx_in r)) (cond n (abort t (tx_in r)) (other t (tx_in r)))))

    four : (k l m n : Bool) → retag i (of j k l m n) ≡ of i k l m n
    four true l m n = refl
    four false true m n = refl
    four false false true n = refl
    four false false false true = refl
    four false false false false = refl

pub op_of-linked_to : (i : Tag) (n : ℕ) (r : Record) → op_of i (linked_to n r) ≡ op_of i r
unfolding op_of
op_of-linked_to i n r = refl

-- ---- histories of a journal

pub history-zero : (b : List ℕ) → history b 0 ≡ []
unfolding history
history-zero b = refl

pub history-suc : (b : List ℕ) (n : ℕ) → history b (suc n) ≡ op_of (suc n) (record_at b (suc n)) ∷ history b n
unfolding history
history-suc b n = refl

pub length-history : (b : List ℕ) (n : ℕ) → length (history b n) ≡ n
unfolding history
length-history b zero = refl
length-history b (suc n) = ap suc (length-history b n)

-- journals with the same records have the same history
pub history-ext : (b c : List ℕ) (n : ℕ) → ((i : ℕ) → 1 ≤ i → i ≤ n → record_at b i ≡ record_at c i) → history b n ≡ history c n
unfolding history
history-ext b c zero h = refl
history-ext b c (suc n) h = rw (h (suc n) (omega arith) (omega arith), history-ext b c n (λ i l m. h i l (omega arith)))

pub history-upto : (b : List ℕ) (m n : ℕ) → m ≤ n → Upto (history b m) (history b n)
unfolding history
history-upto b m zero h = let e : m ≡ 0 = omega arith in rw e all
history-upto b m (suc n) h =
    by_cases (eqb m (suc n))
    (λ e. rw (eqb-true m (suc n) e) all)
    (λ e. let d = eqb-false m (suc n) e in more (history-upto b m n (omega arith)))

-- ---- lists of records, newest first

-- their operations, record numbers counting from 1
unfoldable pub ops_of : List Record → History
ops_of [] = []
ops_of (r ∷ rs) = op_of (suc (length rs)) r ∷ ops_of rs

pub length-ops_of : (rs : List Record) → length (ops_of rs) ≡ length rs
unfolding ops_of
length-ops_of [] = refl
length-ops_of (r ∷ rs) = ap suc (length-ops_of rs)

pub length-records : (b : List ℕ) (n : ℕ) → length (records b n) ≡ n
unfolding records
length-records b zero = refl
length-records b (suc n) = ap suc (length-records b n)

pub ops_of-records : (b : List ℕ) (n : ℕ) → ops_of (records b n) ≡ history b n
unfolding records ops_of history
ops_of-records b zero = refl
ops_of-records b (suc n) = rw (length-records b n, ops_of-records b n)

-- ---- what holds of each record, by its number

pub data Each (P : ℕ → Record → Type 0) : List Record → Type 0 where
  done : Each P []
  and : {r : Record} {rs : List Record} → P (suc (length rs)) r → Each P rs → Each P (r ∷ rs)

pub each_map : {P Q : ℕ → Record → Type 0} → ((i : ℕ) (r : Record) → P i r → Q i r) → {rs : List Record} → Each P rs → Each Q rs
each_map h done = done
each_map h (and p e) = and (h _ _ p) (each_map h e)

pub each_both : {P Q : ℕ → Record → Type 0} {rs : List Record} → Each P rs → Each Q rs → Each (λ i r. P i r × Q i r) rs
each_both done done = done
each_both (and p e) (and q f) = and (p, q) (each_both e f)

pub records-each : (P : ℕ → Record → Type 0) (b : List ℕ) (n : ℕ) → ((i : ℕ) → 1 ≤ i → i ≤ n → P i (record_at b i)) → Each P (records b n)
unfolding records
records-each P b zero h = done
records-each P b (suc n) h = and {r = record_at b (suc n)} {rs = records b n} (rw (length-records b n) (h (suc n) (omega arith) (omega arith))) (records-each P b n (λ i l m. h i l (omega arith)))

-- ---- the copied records

module _ (φ : CopyRule) (k : ℕ → Bool) (h : History) where
  -- they are no more than there were
  pub length-copied_by : (rs : List Record) → length (copied_by φ k h rs) ≤ length rs
  unfolding copied_by
  length-copied_by [] = omega arith
  length-copied_by (r ∷ rs) = let ih = length-copied_by rs in by_cases (k (tx_in r)) (λ e. rw e (omega arith)) (λ e. rw e (omega arith))

  -- one record more, of a transaction of k
  pub copied_by-yes : (r : Record) (rs : List Record) → k (tx_in r) ≡ true
      → copied_by φ k h (r ∷ rs) ≡ linked_to (next_in h (suc (length (copied_by φ k h rs))) (tx_in r)) (φ (copied_by φ k h rs) r) ∷ copied_by φ k h rs
  unfolding copied_by
  copied_by-yes r rs e = rw e

  pub copied_by-suffix : {p l : List Record} → Suffix p l → Suffix (copied_by φ k h p) (copied_by φ k h l)
  unfolding copied_by
  copied_by-suffix same = same
  copied_by-suffix (behind {a = r} i) = by_cases (k (tx_in r)) (λ e. rw e (behind (copied_by-suffix i))) (λ e. rw e (copied_by-suffix i))

  -- each has the next that the history gives it, where the rule leaves it with its transaction
  copied_by-linked : ((q : List Record) (r : Record) → tx_in (φ q r) ≡ tx_in r) → (rs : List Record) → Each (λ i r. r.next.0 ≡ next_in h i (tx_in r)) (copied_by φ k h rs)
  unfolding copied_by
  copied_by-linked t [] = done
  copied_by-linked t (r ∷ rs) =
      by_cases (k (tx_in r)) (λ e. rw e (and (ap (next_in h _) (sym (t _ r))) (copied_by-linked t rs))) (λ e. rw e (copied_by-linked t rs))

  -- what holds of each record, and by the rule whatever its next, holds of each
  copied_by-each : (P : Record → Type 0) → ((m : ℕ) (q : List Record) (r : Record) → P r → P (linked_to m (φ q r))) → {rs : List Record} → Each (λ i r. P r) rs → Each (λ i r. P r) (copied_by φ k h rs)
  unfolding copied_by
  copied_by-each P f done = done
  copied_by-each P f (and {r} {rs} p e) =
      let ih = copied_by-each P f e in
      by_cases (k (tx_in r)) (λ e. rw e (and (f _ _ _ p) ih)) (λ e. rw e ih)

module _ (k : ℕ → Bool) (h : History) where
  -- unchanged but for next, they make the selection of the history, renumbered
  pub ops_of-copied : (rs : List Record) → ops_of (copied k h rs) ≡ renumber (only k (ops_of rs))
  unfolding copied_by ops_of
  ops_of-copied [] = refl
  ops_of-copied (r ∷ rs) =
      let ih = ops_of-copied rs in
      let n : ℕ = length (only k (ops_of rs)) in
      let l : length (copied k h rs) ≡ n = sym (length-ops_of (copied k h rs)) ∙ ap length ih ∙ length-renumber (only k (ops_of rs)) in
      rw (tx_of-op_of (suc (length rs)) r)
      (by_cases (k (tx_in r))
      (λ e. rw e (rw (l, ih, retag-op_of (suc n) (suc (length rs)) r)
      (ap (λ o. o ∷ renumber (only k (ops_of rs))) (op_of-linked_to (suc n) (next_in h (suc n) (tx_in r)) r))))
      (λ e. rw e ih))

  pub copied-linked : (rs : List Record) → Each (λ i r. r.next.0 ≡ next_in h i (tx_in r)) (copied k h rs)
  copied-linked = copied_by-linked unchanged k h (λ q r. refl)

  pub copied-each : (P : Record → Type 0) → ((m : ℕ) (r : Record) → P r → P (linked_to m r)) → {rs : List Record} → Each (λ i r. P r) rs → Each (λ i r. P r) (copied k h rs)
  copied-each P f = copied_by-each unchanged k h P (λ m q. f m)

-- records selected twice are selected once
pub copied-copied : (k k' : ℕ → Bool) (h h' : History) → ((s : ℕ) → k' s ≡ true → k s ≡ true) → (rs : List Record) → copied k' h' (copied k h rs) ≡ copied k' h' rs
unfolding copied_by
copied-copied k k' h h' f [] = refl
copied-copied k k' h h' f (r ∷ rs) =
    let ih = copied-copied k k' h h' f rs in
    by_cases (k (tx_in r))
    (λ e. rw e (rw ih))
    (λ e. rw e (by_cases (k' (tx_in r)) (λ e'. clash (f (tx_in r) e') e) (λ e'. rw e' ih)))

-- ---- records of a journal, one by one

pub records-zero : (b : List ℕ) → records b 0 ≡ []
unfolding records
records-zero b = refl

pub records-suc : (b : List ℕ) (n : ℕ) → records b (suc n) ≡ record_at b (suc n) ∷ records b n
unfolding records
records-suc b n = refl

pub records-suffix : (b : List ℕ) (m n : ℕ) → m ≤ n → Suffix (records b m) (records b n)
unfolding records
records-suffix b m zero h = let e : m ≡ 0 = omega arith in rw e same
records-suffix b m (suc n) h =
    by_cases (eqb m (suc n))
    (λ e. rw (eqb-true m (suc n) e) same)
    (λ e. let d = eqb-false m (suc n) e in behind (records-suffix b m n (omega arith)))
