-- The pass over the records: what holds after i of them, where none was refused.
-- Assumes nothing.
use mathlib.Core.Path.{◌≡◌, sym}
use mathlib.Core.Bool.{false}
use mathlib.Core.List.{List}
use mathlib.Core.Option.{none, some}
use Prim.Native.Nat.{ℕ, suc, ◌+◌, ◌-◌, ◌<◌, ◌≤◌}
use native.Mathlib.Omega.{arith}
use native.Mathlib.Numerals.{add-one}
use lib.Dec.{eqb}
use borrow.Author.Tests.{eqb-true, eqb-false}
use Rattle.lists.specs.Tables.{each}
use Rattle.lists.proofs.BoolLaws.{by_cases}
use Rattle.format.specs.declared.Record.{Record}
use Rattle.format.specs.Layout.{record_at}
use Rattle.journal.specs.Journal.{count, items, history}
use Rattle.journal.specs.Refusals.{malformed}
use Rattle.journal.specs.Orders.{Refusal, decide, record_order, records_order}
use Rattle.journal.proofs.OrdersLaws.{loop-done, loop-passed, loop-refused}
use Rattle.journal.proofs.Clear.{decide-clear, each-clear}
use Rattle.journal.proofs.Checked.{RecordRight, clear-record}
use Rattle.fields.specs.Answers.{Opened}
use Rattle.arrays.specs.Arrays.{Ready, NoBlindTo}
use Rattle.arrays.proofs.Found.{core-right}

pub all_left : (b : List ℕ) (n : ℕ) → n ≡ count b → decide (records_order b) ≡ decide (each (record_order b) (0 + 1) (n - 0))
unfolding records_order
all_left b n c =
    let e : n - 0 ≡ count b = omega (arith, c) in
    let f : 0 + 1 ≡ 1 = omega arith in
    rw (e, f)

-- the records left, by the number behind the last
records-left : (b : List ℕ) (n i : ℕ) → decide (records_order b) ≡ decide (each (record_order b) (i + 1) (n - i))
    → decide (records_order b) ≡ decide (each (record_order b) (i + 1) (n + 1 - (i + 1)))
records-left b n i l = let f : n + 1 - (i + 1) ≡ n - i = omega arith in rw f l

-- the verdict of a record: what it refuses is refused
module _ (b : List ℕ) (n i : ℕ) (h : i < n) (l : decide (records_order b) ≡ decide (each (record_order b) (i + 1) (n - i))) where
  left : decide (records_order b) ≡ decide (each (record_order b) (i + 1) (n + 1 - (i + 1)))
  left = records-left b n i l

  pub record-refused : (f : Refusal) → some f ≡ decide (record_order b (i + 1)) → some f ≡ decide (records_order b)
  record-refused f q = loop-refused (record_order b) (i + 1) (n + 1) (decide (records_order b)) left (omega arith) f (sym q)

  pub record-passed : none ≡ decide (record_order b (i + 1)) → decide (records_order b) ≡ decide (each (record_order b) (i + 1 + 1) (n - (i + 1)))
  record-passed q =
      let f : n + 1 - (i + 1 + 1) ≡ n - (i + 1) = omega arith in
      rw f at (loop-passed (record_order b) (i + 1) (n + 1) (decide (records_order b)) left (omega arith) (sym q))

pub none_left : (b : List ℕ) (n i : ℕ) → n ≤ i → decide (records_order b) ≡ decide (each (record_order b) (i + 1) (n - i)) → none ≡ decide (records_order b)
none_left b n i h l = loop-done (record_order b) (i + 1) (n + 1) (decide (records_order b)) (records-left b n i l) (omega arith)

-- ---- where none of the first i records is refused

module _ (b : List ℕ) (n m i : ℕ) (o : Opened b n m) (p : decide (each (record_order b) 1 i) ≡ none) where
  right-at : (k : ℕ) → k < i → RecordRight b (suc k) (history b k)
  right-at k h = clear-record b k (each-clear (record_order b) 1 i (decide-clear _ p) (suc k) (omega arith) (omega arith))

  pub ready_at : i ≤ n → Ready b i
  ready_at h = record { long = omega (arith, o.long); few = omega (arith, o.few); items = omega (arith, o.keys, o.narrow); passed = λ k l. core-right (right-at k l) }

-- ---- the next record, which passed

module _ (b : List ℕ) (n m i : ℕ) (k : Ready b n) (o : Opened b m i) (h : n < m) (p : none ≡ decide (record_order b (n + 1))) where
  right : RecordRight b (suc n) (history b n)
  right = clear-record b n (decide-clear (record_order b (suc n)) (rw add-one at (sym p)))

  pub ready-more : Ready b (n + 1)
  ready-more =
      record {
        long = omega (arith, o.long);
        few = omega (arith, o.few);
        items = k.items;
        passed = λ j l. by_cases (eqb j n) (λ q. let z = eqb-true j n q in rw z (core-right right)) (λ q. let d = eqb-false j n q in k.passed j (omega arith));
      }

  pub not_blind-more : NoBlindTo b n → NoBlindTo b (n + 1)
  not_blind-more f =
      record { read = λ j l. by_cases (eqb j n) (λ q. let z = eqb-true j n q in rw z right.follows.not_blind) (λ q. let d = eqb-false j n q in f.read j (omega arith)) }

  pub next-formed : (r : Record) → r ≡ record_at b (n + 1) → malformed (items b) r ≡ false
  next-formed r e = rw (e, add-one) right.formed
