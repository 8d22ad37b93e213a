-- The undo set by one forward pass: the transaction whose committed write feeds each item, and a flag for each transaction reached.
-- The pass goes on from any sources and any flags.
-- Assumes nothing.
use Rattle.std.specs.Prelude.{Bool, cond, not, ◌&&◌, List, [], ◌∷◌, ℕ, eqb, get_or, set}
use Rattle.std.proofs.Math.Option.{Option, none, some}
use Rattle.lists.specs.Search.{latest, member}
use Rattle.lists.specs.Tables.{tabulate}
use Rattle.format.specs.declared.TransactionId.{TransactionId}
use Rattle.format.specs.Layout.{record_at}
use Rattle.format.specs.Limits.{max_items}
use Rattle.model.specs.History.{Op, History, read, write, commit, abort, other, tx_of}
use Rattle.model.specs.Undo.{is_source, source_by}
use Rattle.journal.specs.Journal.{op_of}
use Rattle.trace.specs.Codes.{coded}

-- the transaction of an operation that was looked for, 0 if there is none
abbrev pub writer_in : Option Op → ℕ
writer_in none = 0
writer_in (some w) = tx_of w

-- the transaction of the newest write of item x that may feed, by a transaction of c, 0 none
abbrev pub source : (ℕ → Bool) → History → ℕ → ℕ
source c p x = writer_in (latest (source_by is_source c x) p)

abbrev pub source_id : (ℕ → Bool) → History → ℕ → TransactionId
source_id c p x = record { 0 = source c p x }

-- by item, 0 to 1,023
unfoldable pub sources_of : (ℕ → Bool) → History → List TransactionId
sources_of c p = tabulate (source_id c p) 0 max_items

-- the transactions reached from a list, where c has those that commit
abbrev pub traced : (ℕ → Bool) → List ℕ → History → List ℕ
traced c bad [] = bad
traced c bad (read t s x ∷ p) = let m : List ℕ = traced c bad p in let f : ℕ =
    source c p x in cond (not (eqb f 0) && member f m) (s ∷ m) m
traced c bad (write t s x b a ∷ p) = traced c bad p
traced c bad (commit t s ∷ p) = traced c bad p
traced c bad (abort t s ∷ p) = traced c bad p
traced c bad (other t s ∷ p) = traced c bad p

-- ---- what one operation does to the arrays

-- no transaction
abbrev pub nobody : TransactionId
nobody = record { 0 = 0 }

-- a write of item x by s that may feed
unfoldable pub sources_write : List ℕ → ℕ → ℕ → List TransactionId → List TransactionId
sources_write ends s x sources = cond (coded 1 ends s) (set sources x (record { 0 = s })) sources

unfoldable pub sources_after : Op → List ℕ → List TransactionId → List TransactionId
sources_after (read t s x) ends sources = sources
sources_after (write t s x b a) ends sources = cond (is_source (write t s x b a)) (sources_write ends s x sources) sources
sources_after (commit t s) ends sources = sources
sources_after (abort t s) ends sources = sources
sources_after (other t s) ends sources = sources

-- flags of any kind: what is stored for none, what for one, and which values count as one
module _ {A : Type 0} (unmarked marked : A) (is_marked : A → Bool) where
  -- a read of item x by s
  unfoldable pub flags_read : List TransactionId → ℕ → ℕ → List A → List A
  flags_read sources s x flags =
      let f : ℕ = (get_or sources x nobody).0 in
      cond (not (eqb f 0) && is_marked (get_or flags f unmarked)) (set flags s marked) flags

  unfoldable pub flags_after : Op → List TransactionId → List A → List A
  flags_after (read t s x) sources flags = flags_read sources s x flags
  flags_after (write t s x b a) sources flags = flags
  flags_after (commit t s) sources flags = flags
  flags_after (abort t s) sources flags = flags
  flags_after (other t s) sources flags = flags

  -- what record i of a journal does to sources and flags
  unfoldable pub trace_step : List ℕ → List ℕ → ℕ → List TransactionId × List A → List TransactionId × List A
  trace_step b ends i s = let r : Op = op_of i (record_at b i) in (sources_after r ends s.0, flags_after r s.0 s.1)
