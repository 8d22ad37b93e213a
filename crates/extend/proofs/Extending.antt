-- A transaction's last record, and the journal with one record more, store by store.
-- Assumes nothing.
use mathlib.Core.Path.{◌≡◌, sym, ◌∙◌, ap}
use mathlib.Core.Bool.{true, false, cond}
use mathlib.Core.List.{List}
use mathlib.Core.Option.{some}
use Prim.Native.Nat.{ℕ, suc, ◌+◌, ◌-◌, ◌*◌, ◌<◌, ◌≤◌}
use native.Mathlib.Omega.{arith}
use lib.Dec.{eqb}
use borrow.Author.Tests.{eqb-true, eqb-false, eq-eqb, ne_eqb}
use borrow.Rule.Slice.PartMut.{put_mid}
use Rattle.lists.specs.Search.{latest}
use Rattle.lists.specs.Tables.{store}
use Rattle.lists.proofs.TablesLaws.{part-stored}
use Rattle.format.specs.declared.Record.{Record}
use Rattle.format.specs.Bytes.{bytes}
use Rattle.format.specs.Layout.{record_at, bytes_of}
use Rattle.format.proofs.LayoutLaws.{length-bytes_of}
use Rattle.model.specs.History.{tag_in, of_tx}
use Rattle.journal.specs.Journal.{count, tx_in, op_of, history, whole}
use Rattle.journal.specs.Calls.{link, extended}
use Rattle.journal.proofs.Records.{tx_of-op_of, tag_of-op_of, history-zero, history-suc}

-- ---- the last record of a transaction

-- among the first j records: record j, or among the i before it
latest-step : (b : List ℕ) (s i j : ℕ) → j ≡ suc i → latest (of_tx s) (history b j) ≡ cond (eqb s (tx_in (record_at b j))) (some (op_of j (record_at b j))) (latest (of_tx s) (history b i))
latest-step b s i j e = rw (e, history-suc b i, tx_of-op_of (suc i) (record_at b (suc i)))

-- that of the first n records is that of the first k
module _ (b : List ℕ) (n s : ℕ) where
  module _ (k : ℕ) (l : 0 < k) (h : latest (of_tx s) (history b n) ≡ latest (of_tx s) (history b k)) where
    abbrev v : ℕ
    v = tx_in (record_at b (k - 1 + 1))

    newest-first : latest (of_tx s) (history b n) ≡ cond (eqb s v) (some (op_of (k - 1 + 1) (record_at b (k - 1 + 1)))) (latest (of_tx s) (history b (k - 1)))
    newest-first = let j : k ≡ k - 1 + 1 = omega arith in h ∙ ap (λ i. latest (of_tx s) (history b i)) j ∙ latest-step b s (k - 1) (k - 1 + 1) (omega arith)

    pub last_found : eqb v s ≡ true → k - 1 + 1 ≡ tag_in (latest (of_tx s) (history b n))
    last_found e = rw (newest-first, eq-eqb s v (sym (eqb-true v s e))) (sym (tag_of-op_of (k - 1 + 1) (record_at b (k - 1 + 1))))

    pub last_before : eqb v s ≡ false → latest (of_tx s) (history b n) ≡ latest (of_tx s) (history b (k - 1))
    last_before e = newest-first ∙ rw (ne_eqb s v (λ y. eqb-false v s e (sym y)))

  pub last_none : (k : ℕ) → k ≤ 0 → latest (of_tx s) (history b n) ≡ latest (of_tx s) (history b k) → 0 ≡ tag_in (latest (of_tx s) (history b n))
  last_none k l h = let z : k ≡ 0 = omega arith in rw (h, z, history-zero b)

pub ruleset from_the_end = (last_found, last_before, last_none)

-- ---- the stores

pub extends : (b : List ℕ) (n i : ℕ) (r : Record) → n ≡ count b → i ≡ n + 1 → (v : List ℕ) → v ≡ bytes_of r → (last : ℕ) → last ≡ tag_in (latest (of_tx r.transaction.0) (history b n))
    → (c : List ℕ) → c ≡ link (n + 1) last (put_mid (20 * i) (20 * i + 20 - 20 * i) b v) → (d : List ℕ) → d ≡ store 4 (bytes 4 (n + 1)) c → d ≡ extended b r
unfolding extended whole
extends b n i r e f v w last q c k d y =
    let z : 20 * (n + 1) + 20 - 20 * (n + 1) ≡ 20 = omega arith in
    let j : suc (count b) ≡ n + 1 = omega arith in
    y ∙ rw (k, f, z, w, part-stored (20 * (n + 1)) 20 (bytes_of r) b (length-bytes_of r), q, j, ← e)
