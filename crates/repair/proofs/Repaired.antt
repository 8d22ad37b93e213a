-- The copy and its size are those of the transactions with code 1.
-- Assumes nothing.
use mathlib.Core.Path.{◌≡◌, refl, sym, ◌∙◌, ap}
use mathlib.Core.Bool.{true}
use mathlib.Core.List.{List}
use Prim.Native.Nat.{ℕ, zero, suc, ◌+◌, ◌*◌, ◌≤◌, ◌<◌}
use native.Mathlib.Omega.{arith}
use lib.ListN.{length, get_or}
use Rattle.lists.specs.Tables.{coded}
use Rattle.lists.proofs.BoolLaws.{by_cases}
use Rattle.format.specs.Layout.{record_at}
use Rattle.model.specs.History.{History, later_of, next_in}
use Rattle.model.specs.Undo.{only, renumber}
use Rattle.model.proofs.Extension.{first-tag}
use Rattle.journal.specs.Journal.{count, items, tx_in, records, history, whole}
use Rattle.journal.specs.Copy.{unchanged, copied_by, copied, records_surviving, journal_of, copy_surviving}
use Rattle.journal.proofs.Records.{length-history}
use Rattle.journal.proofs.Encoded.{length-journal_of}
use Rattle.journal.proofs.Unrefused.{chained-next, history-numbered}
use Rattle.arrays.specs.Arrays.{Ready}
use Rattle.arrays.proofs.Found.{passed-right}
use Rattle.repair.specs.Copying.{rank, Ranked, moved, moved_all, copy_bytes, copy_with}
use Rattle.repair.proofs.RankLaws.{rank-surviving, next-rank}
use Rattle.repair.proofs.CopyLaws.{length_moved}

module _ (b : List ℕ) (n : ℕ) (k : Ready b n) (c : n ≡ count b) where
  whole_is : whole b ≡ history b n
  unfolding whole
  whole_is = ap (history b) (sym c)

  module _ (fates ranks : List ℕ) (r : Ranked b fates n ranks) where
    -- the history of the copy
    surviving : History
    surviving = renumber (only (coded 1 fates) (history b n))

    next-few : (i s : ℕ) → next_in (history b n) i s ≤ n
    next-few i s = let l = first-tag (later_of i s) (history b n) (history-numbered b n) in omega (arith, length-history b n)

    -- the rank of a kept record's next is its next in the copy
    next-moved : (i : ℕ) → i < n → coded 1 fates (tx_in (record_at b (suc i))) ≡ true
        → get_or ranks (record_at b (suc i)).next.0 0 ≡ next_in surviving (rank (coded 1 fates) b (suc i)) (tx_in (record_at b (suc i)))
    unfolding surviving
    next-moved i h e =
        let s = tx_in (record_at b (suc i)) in
        let z : (record_at b (suc i)).next.0 ≡ next_in (history b n) (suc i) s =
        chained-next b (suc i) (passed-right b n k.passed i h).chained ∙ ap (λ p. next_in p (suc i) s) whole_is in
        ap (λ m. get_or ranks m 0) z ∙ r.at (next_in (history b n) (suc i) s) (next-few (suc i) s)
        ∙ sym (next-rank (coded 1 fates) b (suc i) s e n)

    moved-copied : (i : ℕ) → i ≤ n → moved_all (coded 1 fates) ranks (records b i) ≡ copied (coded 1 fates) surviving (records b i)
    unfolding records moved_all copied_by moved
    moved-copied zero h = refl
    moved-copied (suc i) h =
        let ih = moved-copied i (omega arith) in
        by_cases (coded 1 fates (tx_in (record_at b (suc i))))
        (λ e. let l : suc (length (copied (coded 1 fates) surviving (records b i))) ≡ rank (coded 1 fates) b (suc i) =
        ap suc (ap length (sym ih) ∙ length_moved b fates ranks i) ∙ sym (rank-surviving (coded 1 fates) b i e) in
        rw (e, l, ih, next-moved i h e))
        (λ e. rw e ih)

    surviving-records : moved_all (coded 1 fates) ranks (records b n) ≡ records_surviving unchanged (coded 1 fates) b
    unfolding records_surviving surviving
    surviving-records = moved-copied n (omega arith) ∙ rw (← c, whole_is)

    rank-all : get_or ranks n 0 ≡ length (records_surviving unchanged (coded 1 fates) b)
    rank-all = r.at n (omega arith) ∙ sym (length_moved b fates ranks n) ∙ ap length surviving-records

    pub copy-surviving : (m : ℕ) → m ≡ items b → copy_with b fates ranks n m ≡ copy_surviving unchanged (coded 1 fates) b
    unfolding copy_with copy_bytes copy_surviving journal_of
    copy-surviving m e = rw (e, rank-all, surviving-records)

    pub copy-size : length (copy_surviving unchanged (coded 1 fates) b) ≡ 20 * (get_or ranks n 0 + 1)
    unfolding copy_surviving
    copy-size = length-journal_of (items b) (records_surviving unchanged (coded 1 fates) b) ∙ rw rank-all
