-- The working arrays: what stands at an index; and a record by its kind.
-- Assumes nothing.
use mathlib.Core.Path.{◌≡◌}
use mathlib.Core.Bool.{Bool, true, false, cond}
use mathlib.Core.List.{List}
use Prim.Native.Nat.{ℕ, ◌<◌}
use native.Mathlib.Omega.{arith}
use lib.Dec.{eqb}
use lib.ListN.{length}
use borrow.Author.Tests.{eqb-true}
use Rattle.lists.proofs.BoolLaws.{by_cases}
use Rattle.lists.proofs.TablesLaws.{ByIndex, by_index}
use Rattle.format.specs.declared.Record.{Record}
use Rattle.model.specs.History.{Op, History, Tag, read, write, commit, abort, other, tag_in}
use Rattle.journal.specs.Journal.{items, tx_in, op_of}
use Rattle.journal.specs.Refusals.{malformed}
use Rattle.journal.proofs.Passing.{malformed-item}
use Rattle.arrays.specs.Recent.{end_code, first_tag, last_write, base_write, reads_since, newest}
use Rattle.arrays.specs.Arrays.{Ready, ends_of, firsts_of, writes_of, bases_of, reads_of}

-- ---- each array by its index

module _ (p : History) where
  pub ends-array : ByIndex (end_code p) 1025 (ends_of p)
  unfolding ends_of
  ends-array = by_index _ 1025

  pub length-ends : length (ends_of p) ≡ 1025
  length-ends = ends-array.size

  pub firsts-array : ByIndex (first_tag p) 1025 (firsts_of p)
  unfolding firsts_of
  firsts-array = by_index _ 1025

  pub writes-array : ByIndex (λ x. tag_in (last_write p x)) 1024 (writes_of p)
  unfolding writes_of
  writes-array = by_index _ 1024

  pub bases-array : ByIndex (λ x. tag_in (base_write p x)) 1024 (bases_of p)
  unfolding bases_of
  bases-array = by_index _ 1024

  pub reads-array : ByIndex (λ x. newest (reads_since x p)) 1024 (reads_of p)
  unfolding reads_of
  reads-array = by_index _ 1024

-- ---- the operation of a record, by its kind

-- what holds of the operation of each kind holds of the operation: of a read and of a write, if the record is one
pub by-access : (P : Op → Type 0) (i : Tag) (r : Record) → (r.kind ≡ 1 → P (read i (tx_in r) r.item.0)) → (r.kind ≡ 2 → P (write i (tx_in r) r.item.0 r.before r.after))
    → P (commit i (tx_in r)) → P (abort i (tx_in r)) → P (other i (tx_in r)) → P (op_of i r)
unfolding op_of
by-access P i r a b c d e =
    by_cases (eqb r.kind 1)
    (λ q. rw q (a (eqb-true r.kind 1 q)))
    (λ q. rw q (by_cases (eqb r.kind 2) (λ w. rw w (b (eqb-true r.kind 2 w))) (λ w. rw w (rest (eqb r.kind 3) (eqb r.kind 4)))))
  where
    rest : (k l : Bool) → P (cond k (commit i (tx_in r)) (cond l (abort i (tx_in r)) (other i (tx_in r))))
    rest true l = c
    rest false true = d
    rest false false = e

-- ---- the item of a record that is not malformed

module _ (b : List ℕ) (n : ℕ) (r : Record) (k : Ready b n) (f : malformed (items b) r ≡ false) where
  pub item-read : r.kind ≡ 1 → r.item.0 < 1024
  item-read e = let a = malformed-item (items b) r f (omega arith) in omega (arith, k.items)

  pub item-write : r.kind ≡ 2 → r.item.0 < 1024
  item-write e = let a = malformed-item (items b) r f (omega arith) in omega (arith, k.items)
