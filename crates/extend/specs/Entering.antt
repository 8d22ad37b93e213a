-- What writing one record more leans on, and the table as an abort restores it.
-- Assumes nothing.
use Rattle.std.specs.Prelude.{◌≡◌, false, cond, ◌&&◌, Option, None, Some, List, ℕ, ◌+◌, ◌<◌, ◌≤◌, eqb, length, set}
use Rattle.format.specs.declared.Lsn.{Lsn}
use Rattle.format.specs.declared.Record.{Record}
use Rattle.format.specs.Limits.{record_bytes, journal_bytes, max_records}
use Rattle.model.specs.History.{Amount}
use Rattle.journal.specs.Journal.{count, items, tx_in}
use Rattle.journal.specs.Refusals.{malformed}
use Rattle.arrays.specs.Arrays.{Ready}
use Rattle.counts.specs.declared.Counts.{Counts}
use Rattle.counts.specs.Answers.{Few}

-- the number of a record, 0 for none
abbrev pub lsn_of : Option Lsn → ℕ
lsn_of None = 0
lsn_of (Some i) = i.0

-- the table with the before image of record r, if it is a write of transaction s
unfoldable pub restored_by : ℕ → Record → List Amount → List Amount
restored_by s r t = cond (eqb r.kind 2 && eqb s (tx_in r)) (set t r.item.0 r.before) t

-- a record that may follow
pub record Admitted (b : List ℕ) (t : List Amount) (c : Counts) (n : ℕ) (r : Record) : Type 0 where
  pub ready : Ready b n
  pub counted : n ≡ count b
  pub table : length t ≡ items b
  pub formed : malformed (items b) r ≡ false
  pub small : n < max_records
  pub room : journal_bytes n + record_bytes ≤ length b
  pub few : Few c
