-- Worked instances of the statements on posting: the first posts of document 01's example with one refused among them, and its
-- journal of 11 records rebuilt. The hypotheses hold by computation.
-- Assumes nothing.
use mathlib.Core.Path.{◌≡◌, refl}
use mathlib.Core.List.{List, [], ◌∷◌, ◌++◌}
use Prim.Native.Nat.{ℕ, ◌<◌}
use native.Mathlib.Omega.{arith}
use lib.IntN.{pos}
use lib.ListN.{replicate}
use mir.Syntax.{w32}
use mir.Val.{SFits}
use Rattle.model.specs.History.{Amount}
use Rattle.journal.specs.Inputs.{inputs_of}
use Rattle.journal.specs.Calls.{Answer, refused, accepted, undo, opening_table}
use Rattle.days.specs.Journals.{copy_of3}
use Rattle.demands.specs.Days.{records_of, none, amount}
use Rattle.demands.specs.Appending.{AppendCall, Given, none, given, AppendState, append_on, append_state_after, run_appends, started_state, Built, repaired_state, Rebuilt}
use Rattle.worked.proofs.Examples.{computed, below-bytes, example, example_table}
use Rattle.demands.proofs.Appending.{appended-reads, rebuilding}
use Rattle.demands.proofs.Onto.{appended-after}
use Rattle.worked.proofs.WorkedDays.{example-accepted}

small : (n : ℕ) → n < 2147483648 → SFits w32 (pos n)
small n h = record { sfits = h }

-- ---- the first posts of the example

-- paper for four records behind the head
pub buffer : List ℕ
buffer = replicate 100 7

pub opens : List Amount
opens = pos 500 ∷ pos 0 ∷ pos 1000 ∷ []

-- sale 1 reads item 0, sale 2 writes item 1 unread (blind), sale 1 writes item 0 and reads item 1
pub calls : List AppendCall
calls =
    record { kind = 1; tx = 1; item = 0; after = pos 0 } ∷ record { kind = 2; tx = 2; item = 1; after = pos 5 }
    ∷ record { kind = 2; tx = 1; item = 0; after = pos 320 } ∷ record { kind = 1; tx = 1; item = 1; after = pos 0 } ∷ []

-- the answers of a run, in order
pub answers : AppendState → List AppendCall → List (Answer (Unit {0}))
answers d [] = []
answers d (p ∷ ps) = (append_on d p).answer ∷ answers (append_state_after d p) ps

pub calls-answers : answers (started_state (inputs_of buffer opens) 3) calls ≡ accepted tt ∷ refused 8 2 ∷ accepted tt ∷ accepted tt ∷ []
unfolding computed run_appends buffer opens calls answers
calls-answers = refl

-- the head, three records, record 2 as the document prints it, and the paper behind
pub calls-journal : (run_appends (started_state (inputs_of buffer opens) 3) calls).inputs.journal
    ≡ (0 ∷ 0 ∷ 0 ∷ 0 ∷ 3 ∷ 0 ∷ 0 ∷ 0 ∷ 3 ∷ 0 ∷ 0 ∷ 0 ∷ 0 ∷ 0 ∷ 0 ∷ 0 ∷ 0 ∷ 0 ∷ 0 ∷ 0 ∷ [])
    ++ (1 ∷ 0 ∷ 1 ∷ 0 ∷ 2 ∷ 0 ∷ 0 ∷ 0 ∷ 0 ∷ 0 ∷ 0 ∷ 0 ∷ 0 ∷ 0 ∷ 0 ∷ 0 ∷ 0 ∷ 0 ∷ 0 ∷ 0 ∷ [])
    ++ (0x02 ∷ 0x00 ∷ 0x01 ∷ 0x00 ∷ 0x03 ∷ 0x00 ∷ 0x00 ∷ 0x00 ∷ 0x00 ∷ 0x00 ∷ 0x00 ∷ 0x00 ∷ 0xf4 ∷ 0x01 ∷ 0x00 ∷ 0x00 ∷ 0x40 ∷ 0x01 ∷ 0x00 ∷ 0x00 ∷ [])
    ++ (1 ∷ 0 ∷ 1 ∷ 0 ∷ 0 ∷ 0 ∷ 0 ∷ 0 ∷ 1 ∷ 0 ∷ 0 ∷ 0 ∷ 0 ∷ 0 ∷ 0 ∷ 0 ∷ 0 ∷ 0 ∷ 0 ∷ 0 ∷ [])
    ++ replicate 20 7
unfolding computed run_appends buffer opens calls
calls-journal = refl

pub calls_table : (run_appends (started_state (inputs_of buffer opens) 3) calls).inputs.table ≡ pos 320 ∷ pos 0 ∷ pos 1000 ∷ []
unfolding computed run_appends buffer opens calls
calls_table = refl

-- what a call is given fits its types, for small numbers
given_small : (k s x n : ℕ) → k < 256 → s < 65536 → x < 4294967296 → n < 2147483648 → Given (record { kind = k; tx = s; item = x; after = pos n })
given_small k s x n a b c d = record { kind = a; tx = b; item = c; after = small n d }

pub calls-built : Built [] opens (started_state (inputs_of buffer opens) 3) calls (run_appends (started_state (inputs_of buffer opens) 3) calls)
unfolding computed run_appends buffer opens calls
calls-built =
    appended-reads (inputs_of buffer opens) 3 calls (below-bytes buffer refl) refl refl
    (amount (small 500 (omega arith)) (amount (small 0 (omega arith)) (amount (small 1000 (omega arith)) none)))
    (given (given_small 1 1 0 0 (omega arith) (omega arith) (omega arith) (omega arith))
    (given (given_small 2 2 1 5 (omega arith) (omega arith) (omega arith) (omega arith))
    (given (given_small 2 1 0 320 (omega arith) (omega arith) (omega arith) (omega arith))
    (given (given_small 1 1 1 0 (omega arith) (omega arith) (omega arith) (omega arith)) none))))

-- ---- posting onto what a take-back left

-- the buffer begins with the copy of the example with list 1, and has room for one record more: sale 4 reads item 2
pub goes_on : List ℕ
goes_on = copy_of3 ++ replicate 20 7

abbrev example_repaired : AppendState
example_repaired =
    repaired_state (inputs_of example example_table) (undo (inputs_of example example_table) (1 ∷ []) (replicate 1025 7) (replicate 85 99))
    (record { surviving = 1; undone = 2; aborted = 0; bytes = 80 }) goes_on

abbrev later : List AppendCall
later = record { kind = 1; tx = 4; item = 2; after = pos 0 } ∷ []

pub left-accepts : (append_on example_repaired (record { kind = 1; tx = 4; item = 2; after = pos 0 })).answer ≡ accepted tt
unfolding computed example example_table goes_on
left-accepts = refl

pub left-built : Built (records_of copy_of3) (opening_table (inputs_of example example_table)) example_repaired later (run_appends example_repaired later)
unfolding computed example example_table goes_on
left-built =
    appended-after (inputs_of example example_table) (1 ∷ []) (replicate 1025 7) (replicate 85 99) _ example-accepted
    (amount (small 320 (omega arith)) (amount (small 0 (omega arith)) (amount (small 1180 (omega arith)) none)))
    goes_on (below-bytes goes_on refl) refl later (given (given_small 1 4 2 0 (omega arith) (omega arith) (omega arith) (omega arith)) none)

-- ---- the example's journal rebuilt

pub example-rebuilt : Rebuilt (inputs_of example example_table) (replicate 240 9)
unfolding computed run_appends example example_table
example-rebuilt = rebuilding (inputs_of example example_table) (replicate 240 9) (below-bytes example refl) (below-bytes (replicate 240 9) refl) refl (omega arith)
