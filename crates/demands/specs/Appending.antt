-- Demand 2, second half: what posting builds, reading accepts; every accepted journal can be built by posting from its opening
-- table.
-- Assumes nothing.
use Rattle.std.specs.Prelude.{◌≡◌, true, cond, List, [], ◌∷◌, ◌++◌, ℕ, zero, suc, ◌<◌, ◌≤◌, length, take}
use Rattle.std.specs.Int.{w32}
use Rattle.std.proofs.Common.{SFits}
use Rattle.format.specs.declared.Record.{Record}
use Rattle.format.specs.Bytes.{Bytes}
use Rattle.format.specs.Layout.{record_at}
use Rattle.format.specs.Limits.{journal_bytes}
use Rattle.model.specs.History.{Amount, current}
use Rattle.journal.specs.Inputs.{Inputs, onto, handed_on}
use Rattle.journal.specs.Journal.{count, items, tx_in, whole, amount_at}
use Rattle.journal.specs.Refusals.{RecordCounts, counts_by_kind}
use Rattle.journal.specs.Calls.{UndoTotals, UndoResult, undo, AppendResult, start, append, new_record, opening_table}
use Rattle.demands.specs.Days.{accepts, records_of, Amounts, Pass}
pub use Rattle.demands.specs.Days.{Chained}
use Rattle.demands.specs.Undoing.{Accepted, copy_in}

-- what a call of post is given, and that the types of its parameters hold it
pub record AppendCall : Type 0 where
  pub kind : ℕ
  pub tx : ℕ
  pub item : ℕ
  pub after : Amount

pub record Given (p : AppendCall) : Type 0 where
  pub kind : p.kind < 256
  pub tx : p.tx < 65536
  pub item : p.item < 4294967296
  pub after : SFits w32 p.after

pub data AllGiven : List AppendCall → Type 0 where
  none : AllGiven []
  given : {p : AppendCall} {ps : List AppendCall} → Given p → AllGiven ps → AllGiven (p ∷ ps)

-- what post works on
pub record AppendState : Type 0 where
  pub inputs : Inputs
  pub counts : RecordCounts

abbrev pub append_on : AppendState → AppendCall → AppendResult
append_on d p = append d.inputs d.counts p.kind p.tx p.item p.after

-- the state after one post, accepted or refused
abbrev pub append_state_after : AppendState → AppendCall → AppendState
append_state_after d p =
    record { inputs = handed_on (append_on d p).journal (append_on d p).table d.inputs; counts = (append_on d p).counts }

-- the state after a run of posts
unfoldable pub run_appends : AppendState → List AppendCall → AppendState
run_appends d [] = d
run_appends d (p ∷ ps) = run_appends (append_state_after d p) ps

-- the records of the accepted posts of a run, newest first, ahead of rs: kind, sale, item and after as given, a write's before the
-- table's amount then
unfoldable pub appended_records : AppendState → List AppendCall → List Record → List Record
appended_records d [] rs = rs
appended_records d (p ∷ ps) rs =
    appended_records (append_state_after d p) ps
    (cond (accepts (append_on d p).answer) (new_record d.inputs.table p.kind p.tx p.item p.after ∷ rs) rs)

-- each post of a run is accepted
unfoldable pub AllAccepted : AppendState → List AppendCall → Type 0
AllAccepted d [] = Unit {0}
AllAccepted d (p ∷ ps) = (accepts (append_on d p).answer ≡ true) × AllAccepted (append_state_after d p) ps

-- the journal started with m items, the rest as lent, and no records counted
abbrev pub started_state : Inputs → ℕ → AppendState
started_state d m =
    record { inputs = onto (start d.journal m).journal d; counts = record { reads = 0; writes = 0; commits = 0; aborts = 0 } }

-- what posting goes on from: a journal of bytes and a table of amounts that pass, and a tally that agrees with the journal
pub record AppendReady (d : AppendState) : Type 0 where
  pub bytes : Bytes d.inputs.journal
  pub amounts : Amounts d.inputs.table
  pub pass : Pass d.inputs
  pub counts : d.counts ≡ counts_by_kind (whole d.inputs.journal)

-- what holds of a state after a run of posts, refused ones included, that began with the records rs and the opening table t
pub record Built (rs : List Record) (t : List Amount) (before : AppendState) (ps : List AppendCall) (d : AppendState) : Type 0 where
  -- the records before and then those of the accepted posts, as given
  pub entries : records_of d.inputs.journal ≡ appended_records before ps rs
  pub chained : Chained d.inputs.journal
  -- it passes, its tally agrees, and posting can go on from it
  pub ready : AppendReady d
  pub items : items d.inputs.journal ≡ items before.inputs.journal
  -- the opening table stays, and each amount is what the records make of its opening amount
  pub opening : opening_table d.inputs ≡ t
  pub standing : (x : ℕ) → x < length t → amount_at d.inputs.table x ≡ current (amount_at t x) (whole d.inputs.journal) x
  pub room : length d.inputs.journal ≡ length before.inputs.journal

-- What posting builds, reading accepts: for any run of posts onto any journal and table that pass, a stored one too.
-- It holds after each post of a run, since what comes before is a run too.
abbrev pub AppendedOnto : Type 0
AppendedOnto = (d : AppendState) (ps : List AppendCall) → AppendReady d → AllGiven ps
    → Built (records_of d.inputs.journal) (opening_table d.inputs) d ps (run_appends d ps)

-- From start, with any room, any table of item-count amounts and tally 0: there are no records before, and the table is the opening
-- table.
abbrev pub AppendedReads : Type 0
AppendedReads =
    (d : Inputs) (m : ℕ) (ps : List AppendCall) → Bytes d.journal → accepts (start d.journal m).answer ≡ true
    → length d.table ≡ m → Amounts d.table → AllGiven ps
    → Built [] d.table (started_state d m) ps (run_appends (started_state d m) ps)

-- a buffer c with what an accepted take-back left: the table, and the tally of the copy, which the buffer begins with
abbrev pub repaired_state : Inputs → UndoResult → UndoTotals → List ℕ → AppendState
repaired_state d r n c = record { inputs = handed_on c r.table d; counts = counts_by_kind (whole (copy_in r n)) }

-- Posting goes on from what a take-back left, in any buffer that begins with the copy.
abbrev pub AppendedAfter : Type 0
AppendedAfter = (d : Inputs) (bad status out : List ℕ) (n : UndoTotals) → Accepted d bad status out n → Amounts d.table
    → (c : List ℕ) → Bytes c → take n.bytes c ≡ copy_in (undo d bad status out) n → (ps : List AppendCall) → AllGiven ps
    → Built (records_of (copy_in (undo d bad status out) n)) (opening_table d) (repaired_state d (undo d bad status out) n c) ps
    (run_appends (repaired_state d (undo d bad status out) n c) ps)

-- the posts of a journal's first n records, in order
unfoldable pub append_calls_of : List ℕ → ℕ → List AppendCall
append_calls_of b zero = []
append_calls_of b (suc n) =
    let r : Record = record_at b (suc n) in
    append_calls_of b n ++ record { kind = r.kind; tx = tx_in r; item = r.item.0; after = r.after } ∷ []

-- a started journal with room z and the opening table, and the state after posting the journal's records on it
abbrev pub restarted_state : Inputs → List ℕ → AppendState
restarted_state d z = started_state (handed_on z (opening_table d) d) (items d.journal)

abbrev pub rebuilt : Inputs → List ℕ → AppendState
rebuilt d z = run_appends (restarted_state d z) (append_calls_of d.journal (count d.journal))

-- it holds the journal's first bytes and its table
pub record Rebuilt (d : Inputs) (z : List ℕ) : Type 0 where
  pub started : accepts (start z (items d.journal)).answer ≡ true
  pub accepted : AllAccepted (restarted_state d z) (append_calls_of d.journal (count d.journal))
  pub journal : take (journal_bytes (count d.journal)) (rebuilt d z).inputs.journal
      ≡ take (journal_bytes (count d.journal)) d.journal
  pub table : (rebuilt d z).inputs.table ≡ d.table

-- Every journal and table that pass, open sales included, are what start and then posting their records in order from the opening
-- table build, byte for byte over the journal's length, each post accepted.
abbrev pub Rebuilding : Type 0
Rebuilding =
    (d : Inputs) (z : List ℕ) → Bytes d.journal → Bytes z → Pass d → journal_bytes (count d.journal) ≤ length z → Rebuilt d z
