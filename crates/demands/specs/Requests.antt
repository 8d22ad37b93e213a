-- What the built requests of document 02 add beside the three demands, one field each; proofs/Requests.antt proves it.
-- Assumes nothing.
use Rattle.std.specs.Prelude.{◌≡◌, false, List, ℕ, ℤ, pos, ◌-ℤ◌}
use Rattle.std.proofs.Math.Option.{some}
use Rattle.lists.specs.Search.{any}
use Rattle.model.specs.History.{History, Amount, Tag, write, is_write}
use Rattle.model.specs.Undo.{is_source, reads_from}
use Rattle.model.specs.Net.{net_change, table_sum}
use Rattle.journal.specs.Inputs.{Inputs}
use Rattle.journal.specs.Journal.{whole}
use Rattle.journal.specs.Calls.{UndoTotals, UndoResult, undo, opening_table}
use Rattle.demands.specs.Undoing.{Accepted, copy_in}

-- ---- request 1: the sum under the report

-- 02: the sum of what an accepted call left: after less before over the copy's writes
abbrev pub sum_left : UndoResult → UndoTotals → ℤ
sum_left r n = net_change (whole (copy_in r n))

pub record Sum : Type 0 where
  -- "It must equal the sum of the table left less the sum of the opening table."
  pub tables : (d : Inputs) (bad status out : List ℕ) (n : UndoTotals) → Accepted d bad status out n
      → sum_left (undo d bad status out) n ≡ table_sum (undo d bad status out).table -ℤ table_sum (opening_table d)
  -- "It is 0 for a copy without writes": a history with none
  pub no_writes : (p : History) → any is_write p ≡ false → net_change p ≡ pos 0

-- ---- request 3: a rewrite of the same amount

-- "A write whose after equals its before no longer feeds any read": it is never what feeds one, in any history
abbrev pub Rewrite : Type 0
Rewrite = (p : History) (s x : ℕ) (i : Tag) (v y : ℕ) (a : Amount) → reads_from is_source p s x ≡ some (write i v y a a) → ⊥

-- ---- all

pub record Requests : Type 0 where
  pub sum : Sum
  pub rewrite : Rewrite
