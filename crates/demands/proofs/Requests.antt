-- The statements of specs/Requests.antt, proved.
-- Assumes nothing.
use mathlib.Core.Path.{◌≡◌, refl, sym, ◌∙◌, ap}
use mathlib.Core.Bool.{true, false}
use mathlib.Core.List.{List, [], ◌∷◌}
use Prim.Native.Nat.{ℕ, zero, suc, ◌+◌, ◌<◌, ◌≤◌}
use native.Mathlib.Omega.{arith}
use lib.IntN.{pos, ◌+ℤ◌, ◌-ℤ◌, +ℤ_comm, +ℤ-neg_ℤ_cancel}
use lib.ListN.{length}
use borrow.Author.Tests.{eqb-true}
use Rattle.lists.specs.Search.{any}
use Rattle.lists.proofs.BoolLaws.{or_cases, clash}
use Rattle.lists.proofs.TablesLaws.{tabulate-ext, tabulate-get_or}
use Rattle.format.specs.declared.Record.{Record}
use Rattle.format.specs.Bytes.{Bytes}
use Rattle.format.specs.Layout.{record_at}
use Rattle.model.specs.History.{History, Tag, read, write, commit, abort, other, is_write, write_to, aborted}
use Rattle.model.specs.Net.{net_change, table_sum}
use Rattle.model.specs.Undo.{is_source}
use Rattle.model.proofs.NetLaws.{net-stands}
use Rattle.model.proofs.ReadsFromLaws.{changed-is_source, reads_from-passes}
use Rattle.journal.specs.Inputs.{Inputs}
use Rattle.journal.specs.Journal.{count, items, op_of, history, whole}
use Rattle.journal.specs.Refusals.{malformed}
use Rattle.journal.specs.Copy.{copy}
use Rattle.journal.specs.Calls.{undo, opening_table, opening_at}
use Rattle.journal.proofs.Records.{history-zero, history-suc}
use Rattle.journal.proofs.Unrefused.{table-length, formed-cases, op_of-read, op_of-write, op_of-commit, op_of-abort}
use Rattle.journal.proofs.Checked.{Sound, Checks}
use Rattle.demands.specs.Undoing.{copy_in}
use Rattle.demands.specs.Requests.{Sum, Rewrite, Requests}
use Rattle.demands.proofs.DaysLaws.{pass-checks}
use Rattle.demands.proofs.Left.{legal-day, table-stands}
use Rattle.demands.proofs.Join.{aborted-second}
use Rattle.demands.proofs.Undoing.{left-passes}
use Rattle.demands.proofs.Undone.{undo-copy, accepted-clear, accepted-day}

-- ---- a journal that passes writes only its items

write-within : (i : Tag) (r : Record) (x m : ℕ) → malformed m r ≡ false → write_to x (op_of i r) ≡ true → x < m
write-within i r x m f w =
    formed-cases m r f
    (λ k _ _. clash (rw (op_of-read i r k) at w) refl)
    (λ k l. let e : x ≡ r.item.0 = eqb-true x r.item.0 (rw (op_of-write i r k) at w) in omega arith)
    (λ k _. clash (rw (op_of-commit i r k) at w) refl)
    (λ k _. clash (rw (op_of-abort i r k) at w) refl)

written-within : (b : List ℕ) → Sound b → (x n : ℕ) → n ≤ count b → any (write_to x) (history b n) ≡ true → x < items b
written-within b k x zero l w = clash (rw (history-zero b) at w) refl
written-within b k x (suc n) l w =
    let v = rw (history-suc b n) at w in
    or_cases (write_to x (op_of (suc n) (record_at b (suc n)))) (any (write_to x) (history b n)) v
    (write-within (suc n) (record_at b (suc n)) x (items b) (k.right n (omega arith)).formed)
    (written-within b k x n (omega arith))

-- ---- what a journal without aborts does to its table

module _ (d : Inputs) (bytes : Bytes d.journal) (ok : Checks d) (n : (s : ℕ) → aborted (whole d.journal) s ≡ false) where
  abbrev j : History
  j = whole d.journal

  within : (x : ℕ) → any (write_to x) j ≡ true → x < items d.journal
  unfolding whole
  within x w = written-within d.journal ok.sound x (count d.journal) (omega arith) w

  -- the table's sum is the opening table's and the net change
  table-total : table_sum d.table ≡ table_sum (opening_table d) +ℤ net_change j
  unfolding opening_table
  table-total =
      let m : length d.table ≡ items d.journal = table-length d.journal d.table ok.table in
      ap table_sum (sym (tabulate-get_or d.table (pos 0)))
      ∙ ap table_sum (tabulate-ext _ _ 0 0 (length d.table) (λ x l. sym (table-stands d ok (legal-day d bytes ok) (0 + x) (omega arith))))
      ∙ net-stands (opening_at d) (length d.table) j (legal-day d bytes ok) n
      (λ x w. rw m (within x w))

  net-total : net_change j ≡ table_sum d.table -ℤ table_sum (opening_table d)
  net-total =
      sym (ap (◌-ℤ table_sum (opening_table d)) (table-total ∙ +ℤ_comm (table_sum (opening_table d)) (net_change j)) ∙ +ℤ-neg_ℤ_cancel (net_change j) (table_sum (opening_table d)))

-- ---- request 1

no_writes_lem : (p : History) → any is_write p ≡ false → net_change p ≡ pos 0
unfolding net_change
no_writes_lem [] h = refl
no_writes_lem (read t s x ∷ p) h = no_writes_lem p h
no_writes_lem (write t s x b a ∷ p) h = clash refl h
no_writes_lem (commit t s ∷ p) h = no_writes_lem p h
no_writes_lem (abort t s ∷ p) h = no_writes_lem p h
no_writes_lem (other t s ∷ p) h = no_writes_lem p h

pub sum : Sum
sum =
    record {
      tables = λ d bad status out n a.
          let l = left-passes d bad status out n a in
          let day = accepted-day a in
          let (c, e) = accepted-clear a in
          let q : copy_in (undo d bad status out) n ≡ copy bad d.journal = rw (← e) (undo-copy d bad status out c) in
          net-total _ l.day.bytes (pass-checks _ l.day.pass)
          (λ s. ap (λ b. aborted (whole b) s) q ∙ aborted-second d a.bytes (pass-checks d day.pass) bad [] s)
          ∙ ap (λ o. table_sum (undo d bad status out).table -ℤ table_sum o) l.opening;
      no_writes = no_writes_lem;
    }

-- ---- request 3

pub rewrite : Rewrite
rewrite p s x i v y a e = changed-is_source i v y a a (reads_from-passes is_source p s x e) refl

pub requests : Requests
requests = record { sum = sum; rewrite = rewrite }
