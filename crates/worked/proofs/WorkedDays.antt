-- Worked days: each statement of `demands` in ReadsFrom, Undoing, Incremental and Refusing on journals that meet its hypotheses
-- by computation, with what it then says in numbers, and what it excludes.
-- Assumes nothing.
use mathlib.Core.Path.{◌≡◌, refl, sym, ◌∙◌, ap}
use mathlib.Core.Bool.{Bool, true, false, ◌||◌, false≢true}
use mathlib.Core.Logic.{◌↔◌}
use mathlib.Core.List.{List, [], ◌∷◌, ◌++◌}
use mathlib.Core.Option.{some, none-ne-some}
use Prim.Native.Nat.{ℕ, ◌≤◌}
use native.Mathlib.Omega.{arith}
use lib.Dec.{eqb}
use lib.IntN.{pos}
use lib.ListN.{length, take, drop, replicate, set}
use borrow.Author.Tests.{eqb-true}
use Rattle.lists.specs.Search.{member}
use Rattle.lists.proofs.BoolLaws.{or_cases, clash}
use Rattle.model.specs.History.{read, write, tag_in, committed}
use Rattle.model.specs.Undo.{is_source, Upto, all, more, Closed, reads_from, without}
use Rattle.format.specs.Layout.{record_at}
use Rattle.journal.specs.Inputs.{inputs_of}
use Rattle.journal.specs.Journal.{history, whole, amount_at}
use Rattle.journal.specs.Refusals.{RecordCounts, malformed, wrong_next, unsettled, still_active, unknown}
use Rattle.journal.specs.Orders.{decide, record_order, start_order, check_order, chain_order, append_order, undo_order}
use Rattle.journal.specs.Copy.{linked_to, copy}
use Rattle.journal.specs.Calls.{Answer, refused, accepted, UndoTotals, UndoResult, start, check, chain_of, chain, new_record, append, undo, opening_table}
use Rattle.days.specs.Days.{status_buffer, blank}
use Rattle.days.specs.Journals.{copy_of3}
use Rattle.demands.specs.Days.{accepts, records_of, PassFinished, Day}
use Rattle.demands.specs.ReadsFrom.{Highest}
use Rattle.demands.specs.Undoing.{Accepting, Accepted, copy_in, RepairedDay, status_at, is_surviving, UndoSet, Removable, is_undone, FewestTransactions, SameRead, Deleted}
use Rattle.demands.specs.Incremental.{UndoCall, AcceptedCall, UndoState, initial_state, remaining, run_undos, once, Distinct, joined, times_undone, sum_over, SameAsOne, Incremental}
use Rattle.demands.specs.Refusing.{Answers, refused-by, undo_numbers, First, StartRefused, by_bytes, by-items, CheckRefused, ChainRefused, AppendRefused, UndoRefused, Lowest, Agree}
use Rattle.worked.proofs.Examples.{computed, below-bytes, ended-all, example, example_table, second, second_table}
use Rattle.demands.proofs.ReadsFrom.{reads-from}
use Rattle.demands.proofs.Undoing.{accepted-passes, acceptance, copy-fits, never-short, left-passes, least-set, fewest}
use Rattle.demands.proofs.Deleted.{delete-model, empty-list}
use Rattle.demands.proofs.Join.{same_names}
use Rattle.demands.proofs.Incremental.{once-distinct, once-joins, incremental-undo}
use Rattle.demands.proofs.Refusing.{answered-all, exactly, only_under, lowest-record, lowest-place, untouched}
use Rattle.demands.proofs.Behind.{behind}

-- ---- the days

-- kept, taken back, dropped, bytes of the copy
abbrev totals_with : ℕ → ℕ → ℕ → ℕ → UndoTotals
totals_with surviving undone aborted bytes = record { surviving = surviving; undone = undone; aborted = aborted; bytes = bytes }

-- the example with list 1, and five bytes of paper more than the copy fills
abbrev example_undone : UndoResult
example_undone = undo (inputs_of example example_table) (1 ∷ []) status_buffer (blank 85)

pub example-day : Day (inputs_of example example_table)
unfolding computed example example_table
example-day = record { bytes = below-bytes example refl; pass = refl; finished = ended-all (whole example) (whole example) refl }

pub example-accepted : Accepted (inputs_of example example_table) (1 ∷ []) status_buffer (blank 85) (totals_with 1 2 0 80)
unfolding computed example example_table
example-accepted = record { bytes = below-bytes example refl; answer = refl }

-- the second day with list 1
abbrev second_undone : UndoResult
second_undone = undo (inputs_of second second_table) (1 ∷ []) status_buffer (blank 160)

pub second-accepted : Accepted (inputs_of second second_table) (1 ∷ []) status_buffer (blank 160) (totals_with 3 1 1 160)
unfolding computed second second_table
second-accepted = record { bytes = below-bytes second refl; answer = refl }

-- ---- AcceptedPasses: what an accepted call was given passes, with every sale finished

pub second-passes : PassFinished (inputs_of second second_table)
unfolding computed second second_table
second-passes = accepted-passes (inputs_of second second_table) (1 ∷ []) status_buffer (blank 160) refl

pub second-day : Day (inputs_of second second_table)
unfolding computed second
second-day = record { bytes = below-bytes second refl; pass = second-passes.pass; finished = second-passes.finished }

-- ---- Acceptance

-- 80 bytes hold the copy of list 1
pub accepting-80 : Accepting example (1 ∷ []) status_buffer (blank 80)
unfolding computed example example_table
accepting-80 = (acceptance (inputs_of example example_table) (1 ∷ []) status_buffer (blank 80) example-day).0 refl

-- and it is accepted because list, marks and paper are as they should be
pub accepted-80 : accepts (undo (inputs_of example example_table) (1 ∷ []) status_buffer (blank 80)).answer ≡ true
unfolding computed example example_table
accepted-80 =
    (acceptance (inputs_of example example_table) (1 ∷ []) status_buffer (blank 80) example-day).1
    (record { names = λ s m. or_cases (eqb s 1) false m (λ q. rw (eqb-true s 1 q)) (λ q. absurd (false≢true q)); status_length = refl; capacity = omega arith })

-- not with 79 bytes, 1,024 marks or sale 4, which has no record
pub refused-79 : Accepting example (1 ∷ []) status_buffer (blank 79) → ⊥
unfolding computed example example_table
refused-79 a = false≢true ((acceptance (inputs_of example example_table) (1 ∷ []) status_buffer (blank 79) example-day).1 a)

pub refused-1024 : Accepting example (1 ∷ []) (replicate 1024 7) (blank 80) → ⊥
unfolding computed example example_table
refused-1024 a = false≢true ((acceptance (inputs_of example example_table) (1 ∷ []) (replicate 1024 7) (blank 80) example-day).1 a)

pub refused-transaction-4 : Accepting example (4 ∷ []) status_buffer (blank 240) → ⊥
unfolding computed example example_table
refused-transaction-4 a = false≢true ((acceptance (inputs_of example example_table) (4 ∷ []) status_buffer (blank 240) example-day).1 a)

-- ---- CopyFits: 240 bytes hold every copy of the example; that of the empty list fills them

pub example-fits : length (copy (1 ∷ []) example) ≤ 240
unfolding computed example example_table
example-fits = copy-fits (inputs_of example example_table) (1 ∷ [])

pub empty-fills : length (copy [] example) ≡ 240
unfolding computed example
empty-fills = refl

-- ---- NeverShort: paper of 240 bytes is never refused by 14; with 239 it is

pub never-14 : (place : ℕ) → (undo (inputs_of example example_table) [] status_buffer (blank 240)).answer ≡ refused 14 place → ⊥
unfolding computed example example_table
never-14 place = never-short (inputs_of example example_table) [] status_buffer (blank 240) place (omega arith)

pub short-14 : (undo (inputs_of example example_table) [] status_buffer (blank 239)).answer ≡ refused 14 0
unfolding computed example example_table
short-14 = refl

-- ---- SameNames: list 1 1 means the same as list 1; where both are refused, the place may differ

pub named-twice : undo (inputs_of example example_table) (1 ∷ 1 ∷ []) status_buffer (blank 85) ≡ example_undone
unfolding computed example example_table
named-twice = same_names (inputs_of example example_table) (1 ∷ 1 ∷ []) (1 ∷ []) status_buffer (blank 85) (λ s. once_more (eqb s 1)) refl
  where
    once_more : (a : Bool) → a || (a || false) ≡ a || false
    once_more true = refl
    once_more false = refl

pub named-in-turn : ((undo (inputs_of example example_table) (1 ∷ 4 ∷ []) status_buffer (blank 85)).answer ≡ refused 12 1)
    × ((undo (inputs_of example example_table) (4 ∷ 1 ∷ []) status_buffer (blank 85)).answer ≡ refused 12 0)
unfolding computed example example_table
named-in-turn = (refl, refl)

-- ---- LeftPasses: the copy and the table 500, 0, 1180 are a day, that opens as the example did

pub example-left : RepairedDay (inputs_of example example_table) (blank 85) example_undone (totals_with 1 2 0 80)
example-left = left-passes (inputs_of example example_table) (1 ∷ []) status_buffer (blank 85) (totals_with 1 2 0 80) example-accepted

pub left-day : Day (inputs_of copy_of3 (pos 500 ∷ pos 0 ∷ pos 1180 ∷ []))
unfolding computed example example_table
left-day = example-left.day

pub left-opening : opening_table (inputs_of copy_of3 (pos 500 ∷ pos 0 ∷ pos 1180 ∷ [])) ≡ pos 500 ∷ pos 0 ∷ pos 1000 ∷ []
unfolding computed example example_table
left-opening = example-left.opening

pub left_behind : drop 80 example_undone.out ≡ blank 5
unfolding computed
left_behind = example-left.behind

-- ---- LeastSet: sales 1 and 2 are marked 2, sale 3 is marked 1

pub example-set : UndoSet example (1 ∷ []) example_undone (totals_with 1 2 0 80)
example-set = least-set (inputs_of example example_table) (1 ∷ []) status_buffer (blank 85) (totals_with 1 2 0 80) example-accepted

pub example-statuses : example_undone.status ≡ 0 ∷ 2 ∷ 2 ∷ 1 ∷ replicate 1021 0
unfolding computed example example_table
example-statuses = refl

-- record 6: sale 2 reads item 1, fed by record 4 of sale 1
record6 : Upto (read 6 2 1 ∷ history example 5) (whole example)
unfolding computed example
record6 = more (more (more (more (more all))))

-- ReadsFrom: of the writes of item 1 before it, record 4 is the highest that sale 2 sees
pub record6-reads_from : Highest (history example 5) 2 1 (write 4 1 1 (pos 0) (pos 1))
unfolding computed example
record6-reads_from = (reads-from.highest (history example 5) 2 1 (write 4 1 1 (pos 0) (pos 1))).0 refl

-- to mark only the listed sale is not enough
pub listed-not-closed : Closed is_source (1 ∷ []) (whole example) (λ s. s ≡ 1) → ⊥
unfolding computed example
listed-not-closed c =
    let z : ◌≡◌ {A = ℕ} 2 1 = c.readers {w = write 4 1 1 (pos 0) (pos 1)} record6 refl refl refl in omega arith

-- ---- Fewest: a set without sale 2 does not do, all three do, and sale 3 is not among the fewest

pub example-fewest : FewestTransactions example (1 ∷ []) example_undone
example-fewest = fewest (inputs_of example example_table) (1 ∷ []) status_buffer (blank 85) (totals_with 1 2 0 80) example-accepted

pub without-2 : Removable example (1 ∷ []) (λ s. eqb s 1) → ⊥
unfolding computed example example_table
without-2 r = false≢true (example-fewest.fewest (λ s. eqb s 1) r 2 refl)

pub all_three : Removable example (1 ∷ []) (committed (whole example))
unfolding computed example example_table
all_three = record { committed = λ s e. e; lists = accepting-80.names; keeps = λ i s x p u c n. clash c n }

pub three-stays : is_undone example_undone 3 ≡ false
unfolding computed example example_table
three-stays = refl

-- the second day: sale 3's read, record 9, stays fed by record 7; a set with sale 2 and not 3 does not do
pub second-fewest : FewestTransactions second (1 ∷ []) second_undone
second-fewest = fewest (inputs_of second second_table) (1 ∷ []) status_buffer (blank 160) (totals_with 3 1 1 160) second-accepted

record9 : Upto (read 9 3 1 ∷ history second 8) (whole second)
unfolding computed second
record9 = more (more (more all))

pub surviving-reads_from : reads_from is_source (without (is_undone second_undone) (history second 8)) 3 1 ≡ some (write 7 2 1 (pos 5) (pos 6))
unfolding computed second second_table
surviving-reads_from = second-fewest.removable.keeps 9 3 1 (history second 8) record9 refl refl

pub without-3 : Removable second (1 ∷ []) (λ s. member s (1 ∷ 2 ∷ [])) → ⊥
unfolding computed second
without-3 r = none-ne-some _ (r.keeps 9 3 1 (history second 8) record9 refl refl)

-- sale 3 is kept: committed and not taken back; number 4 is no sale's
pub three-surviving : (status_at example_undone 3 ≡ 1) ↔ ((committed (whole example) 3 ≡ true) × (status_at example_undone 3 ≡ 2 → ⊥))
three-surviving = example-set.meaning.survives 3

pub four-other : status_at example_undone 4 ≡ 0
unfolding computed example
four-other = (example-set.meaning.others 4).1 refl

-- ---- DeleteModel: the copy of list 1 has records 7, 9 and 11 of the example, those of sale 3

pub example-deleted : Deleted (inputs_of example example_table) example_undone (copy_in example_undone (totals_with 1 2 0 80))
example-deleted = delete-model (inputs_of example example_table) (1 ∷ []) status_buffer (blank 85) (totals_with 1 2 0 80) example-accepted

pub example-records : records_of copy_of3 ≡ linked_to 0 (record_at example 11) ∷ linked_to 0 (record_at example 9) ∷ linked_to 0 (record_at example 7) ∷ []
unfolding computed example example_table
example-records = example-deleted.records

-- ---- DeleteModel: record 9 of the second day, a read fed by write 7, is record 4 of the copy and fed by its write 2

pub second-deleted : Deleted (inputs_of second second_table) second_undone (copy_in second_undone (totals_with 3 1 1 160))
second-deleted = delete-model (inputs_of second second_table) (1 ∷ []) status_buffer (blank 160) (totals_with 3 1 1 160) second-accepted

pub second-read : SameRead (is_surviving second_undone) (inputs_of second second_table) (copy_in second_undone (totals_with 3 1 1 160)) 8 3 1
unfolding computed second second_table
second-read = second-deleted.reads 8 3 1 (omega arith) refl refl

pub reads_from-day : reads_from is_source (history second 8) 3 1 ≡ some (write 7 2 1 (pos 5) (pos 6))
unfolding computed second
reads_from-day = refl

pub reads_from-in-copy : tag_in (reads_from is_source (history (copy_in second_undone (totals_with 3 1 1 160)) 3) 3 1) ≡ 2
unfolding computed second second_table
reads_from-in-copy = second-read.reads_from

pub second-left : amount_at second_undone.table 1 ≡ pos 6
unfolding computed second second_table
second-left = second-deleted.standing 1 (omega arith)

-- ---- EmptyList: the example's table stays, and its copy has all 11 records

pub example-empty : (undo (inputs_of example example_table) [] status_buffer (blank 240)).table ≡ example_table
example-empty = empty-list (inputs_of example example_table) status_buffer (blank 240) example-day

pub empty-copy : (undo (inputs_of example example_table) [] status_buffer (blank 240)).out ≡ example
unfolding computed example example_table
empty-copy = refl

-- ---- IncrementalUndo

-- each number once
pub thrice-once : Distinct (once (1 ∷ 2 ∷ 1 ∷ 1 ∷ []))
thrice-once = once-distinct (1 ∷ 2 ∷ 1 ∷ 1 ∷ [])

pub thrice : once (1 ∷ 2 ∷ 1 ∷ 1 ∷ []) ≡ 2 ∷ 1 ∷ []
unfolding once
thrice = refl

-- list 2 is accepted; 4 is refused; of 2 and 1 the name 2 is struck, and 1 accepted
abbrev sequence : List UndoCall
sequence =
    record { bad = 2 ∷ []; status = status_buffer; out = blank 240 } ∷ record { bad = 4 ∷ []; status = status_buffer; out = blank 240 }
    ∷ record { bad = 2 ∷ 1 ∷ []; status = status_buffer; out = blank 85 } ∷ []

-- the accepted calls, and what the last one left
abbrev first_done : AcceptedCall
first_done = record { given = 2 ∷ []; status = 0 ∷ 1 ∷ 2 ∷ 1 ∷ replicate 1021 0; counts = totals_with 2 1 0 180 }

abbrev last_done : AcceptedCall
last_done = record { given = 2 ∷ 1 ∷ []; status = 0 ∷ 2 ∷ 0 ∷ 1 ∷ replicate 1021 0; counts = totals_with 1 1 0 80 }

abbrev ending : UndoState
ending = record { inputs = inputs_of copy_of3 (pos 500 ∷ pos 0 ∷ pos 1180 ∷ []); calls = last_done ∷ first_done ∷ [] }

pub sequence-ends : run_undos (initial_state (inputs_of example example_table)) sequence ≡ ending
unfolding computed example example_table remaining run_undos
sequence-ends = refl

pub sequence-incremental : Incremental (inputs_of example example_table) ending
unfolding computed example example_table remaining run_undos
sequence-incremental = incremental-undo (inputs_of example example_table) sequence example-day

-- the one call has 1 and 2, each once
pub sequence-one : (n : UndoTotals) × SameAsOne ending last_done (undo (inputs_of example example_table) (1 ∷ 2 ∷ []) status_buffer (blank 80)) n
unfolding computed example example_table once joined
sequence-one = sequence-incremental.one last_done (first_done ∷ []) refl (1 ∷ 2 ∷ []) status_buffer (blank 80) (once-joins ending.calls) refl (omega arith)

-- sales 1 and 2 are each marked 2 by just one of the two calls, sale 3 by none
pub sequence-statuses : (times_undone 1 ending.calls ≡ 1) × (times_undone 2 ending.calls ≡ 1) × (times_undone 3 ending.calls ≡ 0)
unfolding computed example example_table
sequence-statuses = (sequence-one.1.undone_once 1, sequence-one.1.undone_once 2, sequence-one.1.undone_once 3)

-- the one call's table and copy
pub sequence-table : ending.inputs.table ≡ (undo (inputs_of example example_table) (1 ∷ 2 ∷ []) status_buffer (blank 80)).table
sequence-table = sequence-one.1.table

-- a fourth call that names sale 3 is accepted, for its list, marks and paper are as they should be
pub fourth-accepting : Accepting copy_of3 (3 ∷ []) status_buffer (blank 20)
unfolding computed remaining
fourth-accepting = (sequence-incremental.acceptance (record { bad = 1 ∷ 3 ∷ 2 ∷ []; status = status_buffer; out = blank 20 })).0 refl

-- unstruck, the third list is refused
pub listed-again : (undo (inputs_of (undo (inputs_of example example_table) (2 ∷ []) status_buffer (blank 180)).out (pos 320 ∷ pos 1 ∷ pos 1180 ∷ [])) (2 ∷ 1 ∷ []) status_buffer (blank 85)).answer ≡ refused 12 0
unfolding computed example example_table
listed-again = refl

-- the second day: list 2 takes back sales 2 and 3 and drops 4; 4 is refused; of 3 and 1 the name 3 is struck
abbrev second_sequence : List UndoCall
second_sequence =
    record { bad = 2 ∷ []; status = status_buffer; out = blank 100 } ∷ record { bad = 4 ∷ []; status = status_buffer; out = blank 100 }
    ∷ record { bad = 3 ∷ 1 ∷ []; status = status_buffer; out = blank 100 } ∷ []

abbrev second_ending : UndoState
second_ending = run_undos (initial_state (inputs_of second second_table)) second_sequence

abbrev second_first : AcceptedCall
second_first = record { given = 2 ∷ []; status = 0 ∷ 1 ∷ 2 ∷ 2 ∷ 0 ∷ 1 ∷ replicate 1019 0; counts = totals_with 2 2 1 100 }

abbrev second_last : AcceptedCall
second_last = record { given = 3 ∷ 1 ∷ []; status = 0 ∷ 2 ∷ 0 ∷ 0 ∷ 0 ∷ 1 ∷ replicate 1019 0; counts = totals_with 1 1 0 60 }

pub second-one : (n : UndoTotals) × SameAsOne second_ending second_last (undo (inputs_of second second_table) (3 ∷ 1 ∷ 2 ∷ []) status_buffer (blank 60)) n
unfolding computed second second_table remaining run_undos once joined
second-one = (incremental-undo (inputs_of second second_table) second_sequence (second-day)).one second_last (second_first ∷ []) refl (3 ∷ 1 ∷ 2 ∷ []) status_buffer (blank 60) (once-joins second_ending.calls) refl (omega arith)

-- the one call keeps 1, takes back 3 and drops 1; the counts of the two calls add up to that
pub second-answer : accepted second-one.0 ≡ accepted (totals_with 1 3 1 60)
unfolding computed second second_table
second-answer = sym second-one.1.answer

pub second-counts : (sum_over (λ k. k.undone) second_ending.calls ≡ 3) × (sum_over (λ k. k.aborted) second_ending.calls ≡ 1)
second-counts =
    let e : second-one.0 ≡ totals_with 1 3 1 60 = ap totals_in second-answer in
    (second-one.1.undone ∙ ap (λ n. n.undone) e, second-one.1.aborted ∙ ap (λ n. n.aborted) e)
  where
    totals_in : Answer UndoTotals → UndoTotals
    totals_in (refused n p) = totals_with 0 0 0 0
    totals_in (accepted n) = n

-- no call, and one that is refused
pub no_call : (run_undos (initial_state (inputs_of example example_table)) []).inputs ≡ inputs_of example example_table
unfolding run_undos
no_call = (incremental-undo (inputs_of example example_table) [] example-day).none_accepted refl

abbrev refused_call : List UndoCall
refused_call = record { bad = 4 ∷ []; status = status_buffer; out = blank 240 } ∷ []

pub only-refused : (run_undos (initial_state (inputs_of example example_table)) refused_call).inputs ≡ inputs_of example example_table
unfolding computed example example_table remaining run_undos
only-refused = (incremental-undo (inputs_of example example_table) refused_call example-day).none_accepted refl

-- ---- refused calls

-- the example with next 9 at record 2 and a byte 1 of 1 at record 9; with both at record 2
abbrev two_faults : List ℕ
two_faults = set (set example 44 9) 181 1

abbrev one_record : List ℕ
one_record = set (set example 44 9) 41 1

-- the example's tally, and the example with room for a record and five bytes more
abbrev example_counts : RecordCounts
example_counts = record { reads = 4; writes = 4; commits = 3; aborts = 0 }

abbrev example_with_room : List ℕ
example_with_room = example ++ blank 25

pub two-answer : check (inputs_of two_faults example_table) ≡ refused 5 2
unfolding computed example example_table
two-answer = refl

pub one_answer : check (inputs_of one_record example_table) ≡ refused 4 2
unfolding computed example example_table
one_answer = refl

-- start on 19 bytes with no items; the slip of a sale without records; a blind write posted; a list with a sale that is not committed
pub start-answer : (start (blank 19) 0).answer ≡ refused 1 0
unfolding computed
start-answer = refl

pub chain-answer : (chain example 4 (blank 5)).answer ≡ refused 12 0
unfolding computed example
chain-answer = refl

pub append-answer : (append (inputs_of example_with_room example_table) example_counts 2 4 0 (pos 1)).answer ≡ refused 8 12
unfolding computed example example_table
append-answer = refl

pub undo-answer : (undo (inputs_of example example_table) (1 ∷ 4 ∷ []) status_buffer (blank 240)).answer ≡ refused 12 1
unfolding computed example example_table
undo-answer = refl

-- ---- Exactly: those are the first conditions that hold, and where one is the first the call gives it

pub start_first : First 1 0 (start_order (blank 19) 0)
start_first = (exactly.start (blank 19) 0 1 0).0 start-answer

pub check-first : First 5 2 (check_order (inputs_of two_faults example_table))
check-first = (exactly.check (inputs_of two_faults example_table) 5 2).0 two-answer

pub chain_first : First 12 0 (chain_order example 4 (blank 5) (length (chain_of example 4)))
chain_first = (exactly.chain example 4 (blank 5) 12 0).0 chain-answer

pub append-first : First 8 12 (append_order (inputs_of example_with_room example_table) example_counts (new_record example_table 2 4 0 (pos 1)))
append-first = (exactly.append (inputs_of example_with_room example_table) example_counts 2 4 0 (pos 1) 8 12).0 append-answer

pub undo-first : First 12 1 (undo_order (inputs_of example example_table) (1 ∷ 4 ∷ []) status_buffer (blank 240) (length (copy (1 ∷ 4 ∷ []) example)))
undo-first = (exactly.undo (inputs_of example example_table) (1 ∷ 4 ∷ []) status_buffer (blank 240) 12 1).0 undo-answer

-- the condition of 4 holds at record 9, but it is not the first
pub malformed-holds : malformed 3 (record_at two_faults 9) ≡ true
unfolding computed example
malformed-holds = refl

pub malformed-not-first : First 4 9 (check_order (inputs_of two_faults example_table)) → ⊥
unfolding computed example example_table
malformed-not-first f =
    let e = (exactly.check (inputs_of two_faults example_table) 4 9).1 f in
    let z : ◌≡◌ {A = ℕ} 5 4 = cc in omega arith

-- ---- Answered: by a number of the call's list; 15, the tally, is none of take-back's

pub undo-listed : Answers undo_numbers (undo (inputs_of example example_table) (1 ∷ 4 ∷ []) status_buffer (blank 240)).answer
undo-listed = answered-all.undo (inputs_of example example_table) (1 ∷ 4 ∷ []) status_buffer (blank 240)

pub fifteen-unlisted : (place : ℕ) → Answers {A = UndoTotals} undo_numbers (refused 15 place) → ⊥
fifteen-unlisted place (refused-by m) = false≢true m

-- ---- OnlyUnder: each of those numbers under its condition

pub start_under : StartRefused (blank 19) 0 1 0
start_under = only_under.start (blank 19) 0 1 0 start-answer

pub check-under : CheckRefused (inputs_of two_faults example_table) 5 2
check-under = only_under.check (inputs_of two_faults example_table) 5 2 two-answer

pub chain-under : ChainRefused example 4 (blank 5) 12 0
chain-under = only_under.chain example 4 (blank 5) 12 0 chain-answer

pub append-under : AppendRefused (inputs_of example_with_room example_table) example_counts (new_record example_table 2 4 0 (pos 1)) 8 12
append-under = only_under.append (inputs_of example_with_room example_table) example_counts 2 4 0 (pos 1) 8 12 append-answer

pub undo-under : UndoRefused (inputs_of example example_table) (1 ∷ 4 ∷ []) status_buffer (blank 240) 12 1
undo-under = only_under.undo (inputs_of example example_table) (1 ∷ 4 ∷ []) status_buffer (blank 240) 12 1 undo-answer

-- no number comes back from a start on 20 bytes with three items, as none has its condition
pub start-unrefused : (number place : ℕ) → StartRefused (blank 20) 3 number place → ⊥
unfolding computed
start-unrefused number place (by_bytes e) = false≢true e
start-unrefused number place (by-items e) = false≢true e

-- ---- LowestRecord: record 2 decides, although record 9 has the lower number; at one record the lower number decides

pub two-lowest : Lowest two_faults 5 2
two-lowest = lowest-record.check (inputs_of two_faults example_table) 5 2 (omega arith) (omega arith) two-answer

pub two-lowest-undo : Lowest two_faults 5 2
unfolding computed example example_table
two-lowest-undo = lowest-record.undo (inputs_of two_faults example_table) (1 ∷ []) status_buffer (blank 240) 5 2 (omega arith) (omega arith) refl

pub nine-faulty : decide (record_order two_faults 9) ≡ some (record { number = 4; place = 9 })
unfolding computed example
nine-faulty = refl

pub one-lowest : decide (record_order one_record 2) ≡ some (record { number = 4; place = 2 })
one-lowest = (lowest-record.check (inputs_of one_record example_table) 4 2 (omega arith) (omega arith) one_answer).0

pub one-wrong_next : wrong_next one_record 2 ≡ true
unfolding computed example
one-wrong_next = refl

-- ---- LowestPlace: of two wrong items the lower, of two open sales the lower, of two unknown names the first

-- items 1 and 2 do not stand as the table says, item 0 does
pub lowest-item : unsettled example (pos 320 ∷ pos 1 ∷ pos 7 ∷ []) 0 ≡ false
unfolding computed example
lowest-item = lowest-place.check_item (inputs_of example (pos 320 ∷ pos 1 ∷ pos 7 ∷ [])) 1 refl 0 (omega arith)

pub higher-item : unsettled example (pos 320 ∷ pos 1 ∷ pos 7 ∷ []) 2 ≡ true
unfolding computed example
higher-item = refl

-- the first nine records: sales 2 and 3 are open, sale 1 is not
abbrev nine : List ℕ
nine = set (set (set example 4 9) 164 0) 184 0

pub lowest-open : still_active nine 1 ≡ false
unfolding computed example example_table
lowest-open = lowest-place.transaction (inputs_of nine example_table) [] status_buffer (blank 240) 2 refl 1 (omega arith) (omega arith)

pub higher-open : still_active nine 3 ≡ true
unfolding computed example
higher-open = refl

pub lowest-position : unknown example 1 ≡ false
unfolding computed example example_table
lowest-position = lowest-place.position (inputs_of example example_table) (1 ∷ 4 ∷ 5 ∷ []) status_buffer (blank 240) 1 refl 0 (omega arith)

-- ---- Untouched: what was lent is as it was

pub start-untouched : (start (blank 19) 0).journal ≡ blank 19
unfolding computed
start-untouched = untouched.start (blank 19) 0 refl

pub chain-untouched : (chain example 4 (blank 5)).lsns ≡ blank 5
unfolding computed example
chain-untouched = untouched.chain example 4 (blank 5) refl

pub append-untouched : ((append (inputs_of example_with_room example_table) example_counts 2 4 0 (pos 1)).journal ≡ example_with_room) × ((append (inputs_of example_with_room example_table) example_counts 2 4 0 (pos 1)).table ≡ example_table)
    × ((append (inputs_of example_with_room example_table) example_counts 2 4 0 (pos 1)).counts ≡ example_counts)
unfolding computed example example_table
append-untouched = untouched.append (inputs_of example_with_room example_table) example_counts 2 4 0 (pos 1) refl

pub undo-untouched : ((undo (inputs_of example example_table) (1 ∷ 4 ∷ []) status_buffer (blank 240)).table ≡ example_table)
    × ((undo (inputs_of example example_table) (1 ∷ 4 ∷ []) status_buffer (blank 240)).status ≡ status_buffer) × ((undo (inputs_of example example_table) (1 ∷ 4 ∷ []) status_buffer (blank 240)).out ≡ blank 240)
unfolding computed example example_table
undo-untouched = untouched.undo (inputs_of example example_table) (1 ∷ 4 ∷ []) status_buffer (blank 240) refl

-- ---- Behind: two buffers that differ only behind the example's 240 bytes

abbrev other : List ℕ
other = example ++ replicate 30 1

pub two-agree : Agree example_with_room other
unfolding computed example
two-agree = record { first_long = omega arith; second_long = omega arith; same = refl }

pub same_check : check (inputs_of example_with_room example_table) ≡ check (inputs_of other example_table)
same_check = behind.check (inputs_of example_with_room example_table) other two-agree

pub same-chain : chain example_with_room 1 (blank 5) ≡ chain other 1 (blank 5)
same-chain = behind.chain example_with_room other 1 (blank 5) two-agree

pub same-undo : undo (inputs_of example_with_room example_table) (1 ∷ []) status_buffer (blank 85) ≡ undo (inputs_of other example_table) (1 ∷ []) status_buffer (blank 85)
same-undo = behind.undo (inputs_of example_with_room example_table) other (1 ∷ []) status_buffer (blank 85) two-agree

-- sale 4 reads item 0: the same 260 bytes, and the five behind them are as they were
pub read-appended : (append (inputs_of example_with_room example_table) example_counts 1 4 0 (pos 0)).answer ≡ accepted tt
unfolding computed example example_table
read-appended = refl

pub same-append : take 260 (append (inputs_of example_with_room example_table) example_counts 1 4 0 (pos 0)).journal ≡ take 260 (append (inputs_of other example_table) example_counts 1 4 0 (pos 0)).journal
unfolding computed example example_table
same-append = (behind.append (inputs_of example_with_room example_table) other example_counts 1 4 0 (pos 0) two-agree refl).3 refl

pub same-behind : drop 260 (append (inputs_of example_with_room example_table) example_counts 1 4 0 (pos 0)).journal ≡ blank 5
unfolding computed example example_table
same-behind = behind.behind (inputs_of example_with_room example_table) example_counts 1 4 0 (pos 0)

-- the length counts in post's 14: 19 bytes are no room, 20 are
pub no_room : ((append (inputs_of (example ++ blank 19) example_table) example_counts 1 4 0 (pos 0)).answer ≡ refused 14 0)
    × ((append (inputs_of (example ++ blank 20) example_table) example_counts 1 4 0 (pos 0)).answer ≡ accepted tt)
unfolding computed example example_table
no_room = (refl, refl)

-- 220 bytes do not decide: the last record does, here a rollback in place of sale 3's commit
pub last-record : (take 220 example ≡ take 220 (set example 220 4)) × (check (inputs_of example example_table) ≡ accepted 0) × (check (inputs_of (set example 220 4) example_table) ≡ refused 10 2)
unfolding computed example example_table
last-record = (refl, refl, refl)
