-- The order in which each call tries the refusals, with the place that each gives.
-- Document 01, below the table of reasons. Assumes nothing.
use Rattle.std.specs.Prelude.{Bool, cond, List, [], ◌∷◌, ◌++◌, ℕ, suc, pred, length, get_or}
use Rattle.std.proofs.Math.Option.{Option, none, some}
use Rattle.lists.specs.Tables.{each}
use Rattle.format.specs.declared.Record.{Record}
use Rattle.format.specs.Layout.{record_at}
use Rattle.format.specs.Limits.{max_transaction}
use Rattle.model.specs.History.{Op, History}
use Rattle.journal.specs.Inputs.{Inputs}
use Rattle.journal.specs.Journal.{count, items, op_of, history, whole}
use Rattle.journal.specs.Refusals.{RecordCounts, short, truncated, bad_items, bad_head, wrong_table, malformed, wrong_next}
use Rattle.journal.specs.Refusals.{terminated, conflicting, blind, mismatched, unsettled, still_active, unknown, absent}
use Rattle.journal.specs.Refusals.{wrong_status, too_short, no_room, wrong_counts}

-- what a refused call returns
pub record Refusal : Type 0 where
  pub number : ℕ
  pub place : ℕ

-- a condition, with what is returned where it is the first to hold
pub record Trial : Type 0 where
  pub refusal : Refusal
  pub holds : Bool

-- number, place, condition
abbrev pub trial : ℕ → ℕ → Bool → Trial
trial n p c = record { refusal = record { number = n; place = p }; holds = c }

abbrev pub Order : Type 0
Order = List Trial

-- one condition
unfoldable pub try : ℕ → ℕ → Bool → Order
try n p c = trial n p c ∷ []

-- one condition for each of m places from i, the lowest place first
unfoldable pub try_each : ℕ → (ℕ → Bool) → ℕ → ℕ → Order
try_each n f i m = each (λ p. try n p (f p)) i m

-- stages, one after the other
unfoldable pub in_turn : List Order → Order
in_turn [] = []
in_turn (o ∷ os) = o ++ in_turn os

-- the first that holds decides; none: the call is accepted
unfoldable pub decide : Order → Option Refusal
decide [] = none
decide (t ∷ o) = cond t.holds (some t.refusal) (decide o)

-- ---- the stages

-- 1 (under 20 bytes), 2, 1 (whole length)
unfoldable pub open_order : List ℕ → Order
open_order b = in_turn (try 1 0 (short b) ∷ try 2 0 (bad_head b) ∷ try 1 0 (truncated b) ∷ [])

-- 3
unfoldable pub table_order : Inputs → Order
table_order d = try 3 0 (wrong_table d.journal d.table)

-- 6 to 8 of operation o, record i, after the history p
unfoldable pub access_order : History → ℕ → Op → Order
access_order p i o = in_turn (try 6 i (terminated p o) ∷ try 7 i (conflicting p o) ∷ try 8 i (blind p o) ∷ [])

-- 6 to 9
unfoldable pub rule_order : History → ℕ → Op → Order
rule_order p i o = in_turn (access_order p i o ∷ try 9 i (mismatched p o) ∷ [])

-- 4 to 9 of record i
unfoldable pub record_order : List ℕ → ℕ → Order
record_order b i =
    let r : Record = record_at b i in
    in_turn (try 4 i (malformed (items b) r) ∷ try 5 i (wrong_next b i) ∷ rule_order (history b (pred i)) i (op_of i r) ∷ [])

-- among 4 to 9 the lowest record decides, then the lowest number
unfoldable pub records_order : List ℕ → Order
records_order b = each (record_order b) 1 (count b)

-- 1, 2 and 4 to 9: what a journal alone is refused by
unfoldable pub sound_order : List ℕ → Order
sound_order b = in_turn (open_order b ∷ records_order b ∷ [])

-- 10, lowest item first
unfoldable pub settled_order : Inputs → Order
settled_order d = try_each 10 (unsettled d.journal d.table) 0 (items d.journal)

-- 11, lowest sale first: active says which are open
unfoldable pub active_order : (ℕ → Bool) → Order
active_order active = try_each 11 active 1 max_transaction

-- 12, lowest list position first: unknown says which numbers are
unfoldable pub known_order : (ℕ → Bool) → List ℕ → Order
known_order unknown bad = try_each 12 (λ k. unknown (get_or bad k 0)) 0 (length bad)

-- 12 in slip
unfoldable pub present_order : List ℕ → ℕ → Order
present_order b s = try 12 0 (absent b s)

-- 13
unfoldable pub status_order : List ℕ → Order
status_order status = try 13 0 (wrong_status status)

-- 14: n entries are needed
unfoldable pub capacity_order : {A : Type 0} → List A → ℕ → Order
capacity_order l n = try 14 0 (too_short l n)

-- 15
unfoldable pub counts_order : List ℕ → RecordCounts → Order
counts_order b c = try 15 0 (wrong_counts b c)

-- 4, 6, 7, 8 for the record that post adds, then 14
unfoldable pub new_order : List ℕ → Record → Order
new_order b r =
    let i : ℕ = suc (count b) in
    in_turn (try 4 i (malformed (items b) r) ∷ access_order (whole b) i (op_of i r) ∷ try 14 0 (no_room b) ∷ [])

-- ---- the calls

-- check stops after 10
unfoldable pub check_order : Inputs → Order
check_order d = in_turn (open_order d.journal ∷ table_order d ∷ records_order d.journal ∷ settled_order d ∷ [])

-- start gives 1, then 2
unfoldable pub start_order : List ℕ → ℕ → Order
start_order b n = in_turn (try 1 0 (short b) ∷ try 2 0 (bad_items n) ∷ [])

-- slip leaves out 3 and 10 and goes on with 12, 14; `n` entries are needed
unfoldable pub chain_order : List ℕ → ℕ → List ℕ → ℕ → Order
chain_order b s l n = in_turn (open_order b ∷ records_order b ∷ present_order b s ∷ capacity_order l n ∷ [])

-- post goes on after 10 with 15, then 4, 6, 7, 8 for the new record, then 14
unfoldable pub append_order : Inputs → RecordCounts → Record → Order
append_order d c r = in_turn (check_order d ∷ counts_order d.journal c ∷ new_order d.journal r ∷ [])

-- take-back goes on with 11, 13, 12, 14; the copy has `n` bytes
unfoldable pub undo_order : Inputs → List ℕ → List ℕ → List ℕ → ℕ → Order
undo_order d bad status out n =
    in_turn
    (check_order d ∷ active_order (still_active d.journal) ∷ status_order status ∷ known_order (unknown d.journal) bad
    ∷ capacity_order out n ∷ [])
