-- The delete-transaction model of specs/Undoing.antt, proved: in the copy each kept read is fed by the same write.
-- Assumes nothing.
use mathlib.Core.Path.{◌≡◌, refl, sym, ◌∙◌, ap, subst, fun_ext}
use mathlib.Core.Bool.{Bool, true, false, not, ◌&&◌, and-true}
use mathlib.Core.List.{List, [], ◌∷◌, map, head-eq_of_cons-eq}
use mathlib.Core.Option.{Option, none, some}
use Prim.Native.Nat.{ℕ, zero, suc, ◌+◌, ◌<◌, ◌≤◌}
use native.Mathlib.Omega.{arith}
use lib.IntN.{pos}
use lib.ListN.{length, get_or}
use borrow.Author.Tests.{eq-eqb}
use Rattle.lists.proofs.SuffixLaws.{suffix-length, suffix-unique}
use Rattle.lists.specs.Search.{any, keep, latest, member}
use Rattle.lists.proofs.BoolLaws.{by_cases}
use Rattle.lists.proofs.TablesLaws.{tabulate-ext, tabulate-get_or, get_or-tabulate}
use Rattle.format.specs.declared.Record.{Record}
use Rattle.format.specs.Bytes.{Bytes}
use Rattle.format.specs.Layout.{record_at}
use Rattle.model.specs.History.{Op, History, read, tx_of, tag_in, of_tx, committed}
use Rattle.model.specs.Undo.{Untagged, is_source, Upto, all, more, reads_from, surviving, only, renumber, replayed, repaired}
use Rattle.model.proofs.Ends.{upto-length, upto-unique}
use Rattle.model.proofs.ReadsFromLaws.{is_source-test}
use Rattle.model.proofs.Closure.{reached-empty}
use Rattle.model.proofs.Removal.{reads_from-copy}
use Rattle.model.proofs.Strict.{legal-ends_last, replayed-by}
use Rattle.model.proofs.Repair.{read-stands}
use Rattle.model.proofs.Renumber.{length-renumber, current-renumber, reads_from-found, tag_of-retag}
use Rattle.model.proofs.Opening.{finished-stand}
use Rattle.journal.specs.Inputs.{Inputs}
use Rattle.journal.specs.Journal.{count, op_of, history, whole, amount_at, tx_in, records}
use Rattle.journal.specs.Orders.{Refusal, decide, undo_order}
use Rattle.journal.specs.Copy.{copy, linked_to, copied, copied_by, records_surviving, copy_records, unchanged}
use Rattle.journal.specs.Results.{table_surviving, result}
use Rattle.journal.specs.Calls.{undo, loan_after, opening_at, table_left}
use Rattle.journal.proofs.Records.{tag_of-op_of, history-suc, history-upto, length-history, ops_of, ops_of-copied, ops_of-records, length-ops_of, length-records, records-suc, records-suffix, copied_by-suffix, copied_by-yes, tx_of-op_of}
use Rattle.journal.proofs.Checked.{Checks}
use Rattle.journal.proofs.Unrefused.{table-length}
use Rattle.demands.specs.Days.{records_of, Day}
use Rattle.demands.specs.Undoing.{copy_in, lsn_in_copy, SameRead, DeleteModel, EmptyList, status_at, is_surviving}
use Rattle.demands.proofs.Left.{legal-day, copy-whole, left-amount, copy-items, copy-records, copy-checks, left-length, table-stands, copy-count}
use Rattle.demands.proofs.DaysLaws.{pass-checks}
use Rattle.demands.proofs.Undone.{finished-inactive, undo-table, undo-copy, accepted-clear, accepted-day, tx-range}
use Rattle.demands.proofs.Undoing.{status_at-surviving}
use Rattle.demands.proofs.Appending.{checks-chained}

-- ---- parts of the copy

upto-only : (k : ℕ → Bool) {p j : History} → Upto p j → Upto (renumber (only k p)) (renumber (only k j))
upto-only k all = all
upto-only k (more {q} {j} i) = by_cases (k (tx_of q)) (λ e. rw e (more (upto-only k i))) (λ e. rw e (upto-only k i))

module _ (d : Inputs) (day : Day d) (bad : List ℕ) where
  abbrev b : List ℕ
  b = d.journal

  checks : Checks d
  checks = pass-checks d day.pass

  -- the transactions it keeps
  abbrev k : ℕ → Bool
  k = surviving is_source bad (whole b)

  -- the copy's records up to the image of record i
  part : (i : ℕ) → i ≤ count b → history (copy bad b) (lsn_in_copy k b i) ≡ renumber (only k (history b i))
  unfolding whole
  part i h =
      let u : Upto (renumber (only k (history b i))) (whole (copy bad b)) =
      rw (copy-whole d day.bytes checks bad) (upto-only k (history-upto b i (count b) h)) in
      let l : lsn_in_copy k b i ≤ count (copy bad b) = bound (whole (copy bad b)) u (length-history (copy bad b) (count (copy bad b))) in
      upto-unique (history-upto (copy bad b) (lsn_in_copy k b i) (count (copy bad b)) l) u (length-history (copy bad b) (lsn_in_copy k b i) ∙ sym (length-renumber (only k (history b i))))
    where
      bound : (j : History) → Upto (renumber (only k (history b i))) j → length j ≡ count (copy bad b) → lsn_in_copy k b i ≤ count (copy bad b)
      bound j u e = omega (arith, upto-length u, length-renumber (only k (history b i)))

  -- ---- what feeds, by its record number

  latest-lsn_in_copy : (f : Op → Bool) → Untagged f → (n : ℕ)
      → tag_in (latest f (renumber (only k (history b n)))) ≡ lsn_in_copy k b (tag_in (latest f (only k (history b n))))
  unfolding history
  latest-lsn_in_copy f u zero = refl
  latest-lsn_in_copy f u (suc n) =
      let o : Op = op_of (suc n) (record_at b (suc n)) in
      let m : ℕ = suc (length (only k (history b n))) in
      by_cases (k (tx_of o))
      (λ e. rw e
      (by_cases (f o) (λ g. rw (u m o, g, tag_of-retag m o, tag_of-op_of (suc n) (record_at b (suc n)), e)) (λ g. rw (u m o, g) (latest-lsn_in_copy f u n))))
      (λ e. rw e (latest-lsn_in_copy f u n))

  reads_from-lsn_in_copy : (i s x : ℕ) → Upto (read (suc i) s x ∷ history b i) (whole b) → k s ≡ true → i ≤ count b
      → tag_in (reads_from is_source (history (copy bad b) (lsn_in_copy k b i)) s x) ≡ lsn_in_copy k b (tag_in (reads_from is_source (history b i) s x))
  reads_from-lsn_in_copy i s x w h l =
      let (f, u, e, e') = reads_from-found is_source is_source-test (only k (history b i)) s x in
      ap (λ q. tag_in (reads_from is_source q s x)) (part i l) ∙ ap tag_in e' ∙ latest-lsn_in_copy f u i ∙ ap (λ o. lsn_in_copy k b (tag_in o)) (sym e)
      ∙ ap (λ o. lsn_in_copy k b (tag_in o)) (reads_from-copy is_source bad (whole b) (legal-ends_last (opening_at d) (whole b) (legal-day d day.bytes checks)) w h)

  read-upto : (i s x : ℕ) → i < count b → op_of (suc i) (record_at b (suc i)) ≡ read (suc i) s x → Upto (read (suc i) s x ∷ history b i) (whole b)
  unfolding whole
  read-upto i s x l e = rw (← e) (rw (history-suc b i) at (history-upto b (suc i) (count b) (omega arith)))

  same_read : (i s x : ℕ) → i < count b → op_of (suc i) (record_at b (suc i)) ≡ read (suc i) s x → k s ≡ true
      → SameRead k d (copy bad b) i s x
  same_read i s x l e h =
      let u = read-upto i s x l e in
      let kept : k (tx_of (op_of (suc i) (record_at b (suc i)))) ≡ true = ap (λ o. k (tx_of o)) e ∙ h in
      let r : lsn_in_copy k b (suc i) ≡ suc (lsn_in_copy k b i) = rw (history-suc b i, kept) in
      let w : renumber (only k (history b (suc i))) ≡ read (suc (lsn_in_copy k b i)) s x ∷ renumber (only k (history b i)) =
      rw (history-suc b i, e, h) in
      record {
        consecutive = r;
        there = rw r (head-eq_of_cons-eq (sym (history-suc (copy bad b) (lsn_in_copy k b i)) ∙ ap (history (copy bad b)) (sym r) ∙ part (suc i) (omega arith) ∙ w));
        reads_from = reads_from-lsn_in_copy i s x u h (omega arith);
        amount = rw (part i (omega arith))
            (current-renumber (opening_at d x) (only k (history b i)) x
            ∙ read-stands is_source is_source-test (opening_at d) bad (whole b) (legal-day d day.bytes checks) x (suc i) s (history b i) u h);
      }

  -- ---- the copy's records, one by one

  lsn_in_copy-copied : (i : ℕ) → length (copied k (repaired is_source bad (whole b)) (records b i)) ≡ lsn_in_copy k b i
  lsn_in_copy-copied i =
      let h = repaired is_source bad (whole b) in
      sym (length-ops_of (copied k h (records b i))) ∙ ap length (ops_of-copied k h (records b i)) ∙ length-renumber (only k (ops_of (records b i)))
      ∙ ap (λ p. length (only k p)) (ops_of-records b i)

  copy-count-lsn_in_copy : count (copy bad b) ≡ lsn_in_copy k b (count b)
  unfolding copy_records records_surviving
  copy-count-lsn_in_copy = copy-count d day.bytes checks bad ∙ lsn_in_copy-copied (count b)

  -- its first records are those that come of the journal's first
  records-part : (i : ℕ) → i ≤ count b → records (copy bad b) (lsn_in_copy k b i) ≡ copied k (repaired is_source bad (whole b)) (records b i)
  unfolding copy_records records_surviving
  records-part i h =
      let u = copied_by-suffix unchanged k (repaired is_source bad (whole b)) (records-suffix b i (count b) h) in
      let l : lsn_in_copy k b i ≤ count (copy bad b) = omega (arith, suffix-length u, lsn_in_copy-copied i, lsn_in_copy-copied (count b), copy-count-lsn_in_copy) in
      suffix-unique (rw (copy-records d day.bytes checks bad) at (records-suffix (copy bad b) (lsn_in_copy k b i) (count (copy bad b)) l)) u
      (length-records (copy bad b) (lsn_in_copy k b i) ∙ sym (lsn_in_copy-copied i))

  same-record : (i : ℕ) → i < count b → k (tx_in (record_at b (suc i))) ≡ true → linked_to 0 (record_at (copy bad b) (lsn_in_copy k b (suc i))) ≡ linked_to 0 (record_at b (suc i))
  same-record i l e =
      let kept : k (tx_of (op_of (suc i) (record_at b (suc i)))) ≡ true = ap k (tx_of-op_of (suc i) (record_at b (suc i))) ∙ e in
      let r : lsn_in_copy k b (suc i) ≡ suc (lsn_in_copy k b i) = rw (history-suc b i, kept) in
      let q = sym (records-suc (copy bad b) (lsn_in_copy k b i)) ∙ ap (records (copy bad b)) (sym r) ∙ records-part (suc i) (omega arith)
      ∙ ap (copied k (repaired is_source bad (whole b))) (records-suc b i)
      ∙ copied_by-yes unchanged k (repaired is_source bad (whole b)) (record_at b (suc i)) (records b i) e in
      rw r (ap (linked_to 0) (head-eq_of_cons-eq q))

-- ---- the copy's records, as a list

copied-keep : (k : ℕ → Bool) (h : History) (rs : List Record) → map (linked_to 0) (copied k h rs) ≡ keep (λ w. k (tx_in w)) (map (linked_to 0) rs)
unfolding copied_by
copied-keep k h [] = refl
copied-keep k h (r ∷ rs) = by_cases (k (tx_in r)) (λ e. rw e (ap (λ l. linked_to 0 r ∷ l) (copied-keep k h rs))) (λ e. rw e (copied-keep k h rs))

records-surviving : (d : Inputs) → Bytes d.journal → Checks d → (bad : List ℕ)
    → records_of (copy bad d.journal) ≡ keep (λ w. surviving is_source bad (whole d.journal) (tx_in w)) (records_of d.journal)
unfolding copy_records records_surviving
records-surviving d bytes k bad =
    let b = d.journal in
    ap (map (linked_to 0)) (copy-records d bytes k bad) ∙ copied-keep (surviving is_source bad (whole b)) (repaired is_source bad (whole b)) (records b (count b))

-- ---- the table left

pub left-replayed : (d : Inputs) (bad : List ℕ) (x : ℕ) → x < length d.table
    → amount_at (table_left bad d) x ≡ replayed (surviving is_source bad (whole d.journal)) (opening_at d x) (whole d.journal) x
unfolding table_left table_surviving
left-replayed d bad x h =
    let j = whole d.journal in
    get_or-tabulate (λ x. replayed (surviving is_source bad j) (opening_at d x) j x) 0 (length d.table) x (pos 0) h
    ∙ ap (λ y. replayed (surviving is_source bad j) (opening_at d y) j y) (omega arith)

pub delete-model : DeleteModel
delete-model d bad status out n a =
    let b = d.journal in
    let day = accepted-day a in
    let k = pass-checks d day.pass in
    let (c, e) = accepted-clear a in
    let q : copy_in (undo d bad status out) n ≡ copy bad b = rw (← e) (undo-copy d bad status out c) in
    let f : surviving is_source bad (whole b) ≡ is_surviving (undo d bad status out) = sym (fun_ext (status_at-surviving d bad status out day c)) in
    let m : (s : ℕ) → status_at (undo d bad status out) s ≡ 1 → surviving is_source bad (whole b) s ≡ true = λ s h. sym (status_at-surviving d bad status out day c s) ∙ eq-eqb _ 1 h in
    let w = undo-table d bad status out c in
    rw q
    (record {
      records = records-surviving d a.bytes k bad ∙ ap (λ (g : ℕ → Bool). keep (λ w. g (tx_in w)) (records_of b)) f;
      chained = checks-chained (copy-checks d a.bytes k bad);
      item_count = copy-items d a.bytes k bad;
      fields = λ i l h.
          subst (λ (g : ℕ → Bool). linked_to 0 (record_at (copy bad b) (lsn_in_copy g b (suc i))) ≡ linked_to 0 (record_at b (suc i))) f
          (same-record d day bad i l (m (tx_in (record_at b (suc i))) h));
      reads = λ i s x l o h. subst (λ (g : ℕ → Bool). SameRead g d (copy bad b) i s x) f (same_read d day bad i s x l o (m s h));
      size = ap length w ∙ left-length d a.bytes k bad;
      replay = λ x h.
          ap (λ u. amount_at u x) w ∙ left-replayed d bad x (omega (arith, table-length b d.table k.table))
          ∙ ap (λ (g : ℕ → Bool). replayed g (opening_at d x) (whole b) x) f;
      standing = λ x h. ap (λ u. amount_at u x) w ∙ left-amount d a.bytes k bad x (omega (arith, table-length b d.table k.table));
    })

-- ---- the empty list

left-empty : (d : Inputs) → Day d → table_left [] d ≡ d.table
unfolding table_left table_surviving
left-empty d day =
    let b = d.journal in
    let t = d.table in
    let k = pass-checks d day.pass in
    let l = legal-day d day.bytes k in
    tabulate-ext _ (λ x. get_or t x (pos 0)) 0 0 (length t)
    (λ x h. let e : 0 + x ≡ x = omega arith in
    rw e
    (ap (λ (m : List ℕ). replayed (λ s. committed (whole b) s && not (member s m)) (opening_at d x) (whole b) x) (reached-empty is_source (whole b))
    ∙ replayed-by _ (committed (whole b)) _ x (whole b) (λ u q. and-true (committed (whole b) u))
    ∙ sym (finished-stand (opening_at d) (whole b) l (finished-inactive b day.finished) 0 (no_zero k) x)
    ∙ table-stands d k l x (omega (arith, table-length b t k.table))))
    ∙ tabulate-get_or t (pos 0)
  where
    no_zero : Checks d → any (of_tx 0) (whole d.journal) ≡ false
    no_zero k = by_cases (any (of_tx 0) (whole d.journal)) (λ e. absurd (omega (arith, (tx-range d.journal k.sound 0 e).0))) (λ e. e)

loan_after-same : {A : Type 0} (d : Option Refusal) (a : A) → loan_after d a a ≡ a
loan_after-same none a = refl
loan_after-same (some r) a = refl

pub empty-list : EmptyList
unfolding undo result table_left
empty-list d status out day = rw (left-empty d day) (loan_after-same (decide (undo_order d [] status out (length (copy [] d.journal)))) d.table)
