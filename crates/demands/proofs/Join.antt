-- Take-back of the copy of a take-back, at the bytes: it is one take-back with both lists.
-- Assumes nothing.
use mathlib.Core.Path.{◌≡◌, sym, ◌∙◌, ap, fun_ext}
use mathlib.Core.Bool.{Bool, false, not, ◌&&◌}
use mathlib.Core.List.{List, ◌++◌}
use Prim.Native.Nat.{ℕ, ◌<◌}
use native.Mathlib.Omega.{arith}
use lib.IntN.{pos}
use lib.ListN.{length, drop}
use lib.Seq.{ext_get_or}
use Rattle.lists.specs.Tables.{tabulate, count_if}
use Rattle.format.specs.Bytes.{Bytes}
use Rattle.model.specs.History.{abort_of, committed, aborted, current}
use Rattle.model.specs.Undo.{is_source, undone, surviving, only, survivors, renumber, repaired, replayed}
use Rattle.model.proofs.Ends.{EndsLast, by_kind-untagged}
use Rattle.model.proofs.Strict.{legal-ends_last}
use Rattle.model.proofs.ReadsFromLaws.{is_source-test}
use Rattle.model.proofs.Renumber.{surviving-renumber, repaired-renumber, committed-renumber, any-renumber}
use Rattle.model.proofs.Join.{surviving-joined, survivors-joined, survivors-committed, surviving-less}
use Rattle.model.proofs.Sets.{undone-surviving, survivors-unaborted, surviving-cong}
use Rattle.journal.specs.Inputs.{Inputs}
use Rattle.journal.specs.Journal.{count, items, records, whole}
use Rattle.journal.specs.Copy.{copied, copy_records, journal_of, copy, records_surviving, copy_surviving}
use Rattle.journal.specs.Results.{table_surviving, totals, status_vector}
use Rattle.journal.specs.Calls.{opening_at, table_left, accepted, undo_totals, statuses, status_of}
use Rattle.journal.proofs.Records.{copied-copied}
use Rattle.journal.proofs.Checked.{Checks}
use Rattle.demands.specs.Undoing.{SameNames}
use Rattle.demands.proofs.Undone.{clear-accepting, clear-named, undo-accepts, undo-accepted, undo-table, undo-status, undo-out}
use Rattle.demands.proofs.Left.{repaired_inputs, legal-day, copy-bytes, copy-items, copy-records, copy-whole, copy-checks, copy-opening, left-length, left-amount}

-- ---- lists that keep the same transactions leave the same

module _ (b l m : List ℕ) (same : (s : ℕ) → surviving is_source l (whole b) s ≡ surviving is_source m (whole b) s) where
  fun-same : surviving is_source l (whole b) ≡ surviving is_source m (whole b)
  fun-same = fun_ext same

  pub copy-same : copy l b ≡ copy m b
  unfolding copy copy_records copy_surviving records_surviving
  copy-same = ap (λ k. journal_of (items b) (copied k (renumber (only k (whole b))) (records b (count b)))) fun-same

  pub undone-same : (s : ℕ) → undone is_source l (whole b) s ≡ undone is_source m (whole b) s
  undone-same s = undone-surviving is_source l (whole b) s ∙ ap (λ k. committed (whole b) s && not k) (same s) ∙ sym (undone-surviving is_source m (whole b) s)

  undo_totals-same : undo_totals l b ≡ undo_totals m b
  unfolding undo_totals totals
  undo_totals-same = rw copy-same (λ i. record { surviving = count_if (fun-same i) 1 1024; undone = count_if (fun_ext undone-same i) 1 1024; aborted = count_if (aborted (whole b)) 1 1024; bytes = length (copy m b) })

  statuses-same : statuses l (whole b) ≡ statuses m (whole b)
  unfolding statuses status_vector
  statuses-same = λ i. tabulate (status_of (fun_ext undone-same i) (fun-same i)) 0 1025

pub left-same : (d : Inputs) (l m : List ℕ) → ((s : ℕ) → surviving is_source l (whole d.journal) s ≡ surviving is_source m (whole d.journal) s) → table_left l d ≡ table_left m d
unfolding table_left table_surviving
left-same d l m same =
    ap (λ (k : ℕ → Bool). tabulate (λ x. replayed k (opening_at d x) (whole d.journal) x) 0 (length d.table)) (fun_ext same)

-- ---- an accepted call depends on the list's members alone

pub same_names : SameNames
same_names d bad names status out members e =
    let b = d.journal in
    let c = undo-accepts d bad status out e in
    let a = clear-accepting d bad status out c in
    let k : (s : ℕ) → surviving is_source bad (whole b) s ≡ surviving is_source names (whole b) s = surviving-cong is_source bad names members (whole b) in
    let f = clear-named d bad names status out (λ s m. a.names s (members s ∙ m)) (ap length (copy-same b bad names k)) c in
    λ i. record {
      answer = (undo-accepted d bad status out c ∙ ap accepted (undo_totals-same b bad names k) ∙ sym (undo-accepted d names status out f)) i;
      table = (undo-table d bad status out c ∙ left-same d bad names k ∙ sym (undo-table d names status out f)) i;
      status = (undo-status d bad status out c ∙ statuses-same b bad names k ∙ sym (undo-status d names status out f)) i;
      out = (undo-out d bad status out c ∙ ap (λ w. w ++ drop (length w) out) (copy-same b bad names k) ∙ sym (undo-out d names status out f)) i;
    }

-- ---- the second take-back

module _ (d : Inputs) (bytes : Bytes d.journal) (ok : Checks d) (a l : List ℕ) where
  abbrev b : List ℕ
  b = d.journal

  ends : EndsLast (whole b)
  ends = legal-ends_last (opening_at d) (whole b) (legal-day d bytes ok)

  -- kept by the second: kept by the one
  pub surviving-second : (s : ℕ) → surviving is_source l (whole (copy a b)) s ≡ surviving is_source (a ++ l) (whole b) s
  surviving-second s =
      ap (λ j. surviving is_source l j s) (copy-whole d bytes ok a) ∙ surviving-renumber is_source is_source-test l (survivors is_source a (whole b)) s ∙ surviving-joined is_source a l (whole b) ends s

  repaired-second : repaired is_source l (whole (copy a b)) ≡ repaired is_source (a ++ l) (whole b)
  repaired-second =
      ap (repaired is_source l) (copy-whole d bytes ok a) ∙ repaired-renumber is_source is_source-test l (survivors is_source a (whole b)) ∙ ap renumber (survivors-joined is_source a l (whole b) ends)

  records-second : copy_records l (copy a b) ≡ copy_records (a ++ l) b
  unfolding copy_records records_surviving
  records-second =
      ap (λ k. copied k (repaired is_source l (whole (copy a b))) (records (copy a b) (count (copy a b)))) (fun_ext surviving-second)
      ∙ ap (λ h. copied (surviving is_source (a ++ l) (whole b)) h (records (copy a b) (count (copy a b)))) repaired-second
      ∙ ap (copied (surviving is_source (a ++ l) (whole b)) (repaired is_source (a ++ l) (whole b))) (copy-records d bytes ok a)
      ∙ copied-copied (surviving is_source a (whole b)) (surviving is_source (a ++ l) (whole b)) (repaired is_source a (whole b)) (repaired is_source (a ++ l) (whole b)) (surviving-less is_source a l (whole b) ends) (records b (count b))

  pub copy-second : copy l (copy a b) ≡ copy (a ++ l) b
  unfolding copy copy_surviving copy_records records_surviving
  copy-second = ap (λ m. journal_of m (copy_records l (copy a b))) (copy-items d bytes ok a) ∙ ap (journal_of (items b)) records-second

  bytes2 : Bytes (copy a b)
  bytes2 = copy-bytes d bytes ok a

  ok2 : Checks (repaired_inputs a d)
  ok2 = copy-checks d bytes ok a

  pub left-second : table_left l (repaired_inputs a d) ≡ table_left (a ++ l) d
  left-second =
      let n : length (table_left l (repaired_inputs a d)) ≡ length d.table = left-length (repaired_inputs a d) bytes2 ok2 l ∙ left-length d bytes ok a in
      ext_get_or (pos 0) _ _ (n ∙ sym (left-length d bytes ok (a ++ l)))
      (λ x h.
      let i : x < length d.table = omega arith in
      left-amount (repaired_inputs a d) bytes2 ok2 l x (omega (arith, left-length d bytes ok a))
      ∙ ap (λ c. current (opening_at (repaired_inputs a d) x) (whole c) x) copy-second
      ∙ ap (λ v. current v (whole (copy (a ++ l) b)) x) (copy-opening d bytes ok a x i)
      ∙ sym (left-amount d bytes ok (a ++ l) x i))

  -- committed in the copy: kept
  pub committed-second : (s : ℕ) → committed (whole (copy a b)) s ≡ surviving is_source a (whole b) s
  committed-second s =
      ap (λ j. committed j s) (copy-whole d bytes ok a) ∙ committed-renumber (survivors is_source a (whole b)) s ∙ survivors-committed is_source a (whole b) s

  -- taken back by the second: kept by the first, and not by the one
  pub undone-second : (s : ℕ) → undone is_source l (whole (copy a b)) s ≡ surviving is_source a (whole b) s && not (surviving is_source (a ++ l) (whole b) s)
  undone-second s =
      undone-surviving is_source l (whole (copy a b)) s
      ∙ ap (λ c. c && not (surviving is_source l (whole (copy a b)) s)) (committed-second s)
      ∙ ap (λ k. surviving is_source a (whole b) s && not k) (surviving-second s)

  -- the copy has no rollback
  pub aborted-second : (s : ℕ) → aborted (whole (copy a b)) s ≡ false
  aborted-second s =
      ap (λ j. aborted j s) (copy-whole d bytes ok a) ∙ any-renumber (abort_of s) (by_kind-untagged _ _ _ _) (survivors is_source a (whole b)) ∙ survivors-unaborted is_source a (whole b) ends s
