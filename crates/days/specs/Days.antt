-- The worked days: a table of calls, each with its inputs, the answer that the documents ask for and every loan afterwards, all
-- written by hand from them. `Holds` compares them with the definitions of the calls. Document 01, "Days to try", "The calls beside
-- it" and "Reasons for handing it back"; document 02, request 3. Assumes nothing.
use Rattle.std.specs.Prelude.{◌≡◌, ℕ, pos, negsuc, take, drop, replicate, set}
use mathlib.Core.List.{List, [], ◌∷◌, ◌++◌, flatten}
use Rattle.std.proofs.Math.Option.{some}
use Rattle.format.specs.Layout.{record_at, bytes_of}
use Rattle.model.specs.History.{Amount, write}
use Rattle.model.specs.Undo.{is_source, reads_from}
use Rattle.journal.specs.Inputs.{inputs_of}
use Rattle.journal.specs.Journal.{history}
use Rattle.journal.specs.Refusals.{RecordCounts}
use Rattle.journal.specs.Calls.{Answer, refused, accepted, StartResult, start, check, ChainResult, chain, AppendResult, append}
use Rattle.journal.specs.Calls.{count_records, UndoTotals, UndoResult, undo}
use Rattle.example.specs.Records.{head_bytes, read_bytes, write_bytes, commit_bytes, abort_bytes, p0, p1, p2, p320, p500, p900, p1000}
use Rattle.example.specs.Records.{p1180, minus1, minus2, lowest, highest}
use Rattle.example.specs.Example.{record2, example, example_table}
use Rattle.days.specs.Journals.{example_with, copy_of3, copy_of12, ten, late_read, late_read_table, aborted_write, aborted_write_table}
use Rattle.days.specs.Journals.{aborted_between, successive, after_read, after_write, after_commit, after_writes, after_abort}
use Rattle.days.specs.Journals.{first_table, written_table, written_after_abort, extremes, transaction1024, transaction1025}
use Rattle.days.specs.Journals.{read_after_end, ended_twice, conflicting_read, conflicting_write, conflicting_blind, blind_write}
use Rattle.days.specs.Journals.{blind_other_item, blind_other_reader, wrong_before}
use Rattle.days.specs.Journals.{write_then_read, rewrite_read, rewrite_read_table, rewrite_between, two_writes, own_rewrite}
use Rattle.days.specs.Journals.{kept_rewrite, written_back}

-- ---- rows

-- one call: its inputs, then its answer and every loan afterwards
pub data Row : Type 0 where
  starting : (journal : List ℕ) (items : ℕ) → StartResult → Row
  appending : (journal : List ℕ) (table : List Amount) (record_counts : RecordCounts) (kind transaction item : ℕ) (after : Amount)
      → AppendResult → Row
  checking : (journal : List ℕ) (table : List Amount) → Answer ℕ → Row
  chaining : (journal : List ℕ) (transaction : ℕ) (lsns : List ℕ) → ChainResult → Row
  counting : (journal : List ℕ) → Answer RecordCounts → Row
  undoing : (journal : List ℕ) (table : List Amount) (bad status out : List ℕ) → UndoResult → Row

-- the call gives just that
abbrev pub Holds : Row → Type 0
Holds (starting b n e) = start b n ≡ e
Holds (appending b t c kind s x a e) = append (inputs_of b t) c kind s x a ≡ e
Holds (checking b t e) = check (inputs_of b t) ≡ e
Holds (chaining b s l e) = chain b s l ≡ e
Holds (counting b e) = count_records b ≡ e
Holds (undoing b t bad m o e) = undo (inputs_of b t) bad m o ≡ e

-- each row of a table holds
infixr 60 ◌&◌
pub data AllHold : List Row → Type 0 where
  done : AllHold []
  ◌&◌ : {r : Row} {rs : List Row} → Holds r → AllHold rs → AllHold (r ∷ rs)

-- ---- refused calls: number and place last; every loan is untouched

abbrev pub start_refused : List ℕ → ℕ → ℕ → ℕ → Row
start_refused b n number place = starting b n (record { answer = refused number place; journal = b })

abbrev pub append_refused : List ℕ → List Amount → RecordCounts → ℕ → ℕ → ℕ → Amount → ℕ → ℕ → Row
append_refused b t c kind s x a number place =
    appending b t c kind s x a (record { answer = refused number place; journal = b; table = t; counts = c })

abbrev pub check_refused : List ℕ → List Amount → ℕ → ℕ → Row
check_refused b t number place = checking b t (refused number place)

abbrev pub chain_refused : List ℕ → ℕ → List ℕ → ℕ → ℕ → Row
chain_refused b s l number place = chaining b s l (record { answer = refused number place; lsns = l })

abbrev pub undo_refused : List ℕ → List Amount → List ℕ → List ℕ → List ℕ → ℕ → ℕ → Row
undo_refused b t bad m o number place =
    undoing b t bad m o (record { answer = refused number place; table = t; status = m; out = o })

-- ---- short forms

-- reads, writes, commits, rollbacks
abbrev pub record_counts : ℕ → ℕ → ℕ → ℕ → RecordCounts
record_counts r w c a = record { reads = r; writes = w; commits = c; aborts = a }

-- kept, taken back, dropped, bytes of the copy
abbrev pub accepted_totals : ℕ → ℕ → ℕ → ℕ → Answer UndoTotals
accepted_totals surviving undone aborted bytes =
    accepted (record { surviving = surviving; undone = undone; aborted = aborted; bytes = bytes })

-- marks as lent: the right length, and no byte that take-back writes
abbrev pub status_buffer : List ℕ
status_buffer = replicate 1025 7

-- paper or a list as lent
abbrev pub blank : ℕ → List ℕ
blank n = replicate n 99

-- ---- start

abbrev pub start_days : List Row
start_days =
    -- accepted: a head with record count 0 and three items; the bytes behind it are untouched
    starting (blank 25) 3 (record { answer = accepted tt; journal = head_bytes 0 3 ++ blank 5 })
    -- accepted: the most items, 1,024
    ∷ starting (blank 20) 1024
    (record { answer = accepted tt; journal = 0 ∷ 0 ∷ 0 ∷ 0 ∷ 0 ∷ 0 ∷ 0 ∷ 0 ∷ 0 ∷ 4 ∷ 0 ∷ 0 ∷ replicate 8 0 })
    -- 1: fewer than 20 bytes
    ∷ start_refused (blank 19) 3 1 0
    -- 2: the item count breaks the layout
    ∷ start_refused (blank 20) 0 2 0
    ∷ start_refused (blank 20) 1025 2 0
    -- 1, then 2
    ∷ start_refused (blank 19) 0 1 0
    ∷ []

-- ---- post

abbrev pub append_days : List Row
append_days =
    -- a read: the journal's first record; bytes behind the new record are untouched
    appending (head_bytes 0 3 ++ blank 25) first_table (record_counts 0 0 0 0) 1 1 0 (pos 0) (record {
      answer = accepted tt;
      journal = after_read ++ blank 5;
      table = first_table;
      counts = record_counts 1 0 0 0;
    })
    -- a write: its before comes from the table, the chain is set
    ∷ appending (after_read ++ blank 20) first_table (record_counts 1 0 0 0) 2 1 0 (pos 320) (record {
      answer = accepted tt;
      journal = after_write;
      table = written_table;
      counts = record_counts 1 1 0 0;
    })
    -- a commit
    ∷ appending (after_write ++ blank 20) written_table (record_counts 1 1 0 0) 3 1 0 (pos 0) (record {
      answer = accepted tt;
      journal = after_commit;
      table = written_table;
      counts = record_counts 1 1 1 0;
    })
    -- a rollback restores: the item returns to the before of the transaction's first write of it
    ∷ appending (after_writes ++ blank 20) (pos 900 ∷ pos 0 ∷ pos 1000 ∷ []) (record_counts 1 2 0 0) 4 1 0 (pos 0) (record {
      answer = accepted tt;
      journal = after_abort;
      table = first_table;
      counts = record_counts 1 2 0 1;
    })
    -- the first record of another transaction sets no next
    ∷ appending (after_write ++ blank 20) written_table (record_counts 1 1 0 0) 1 2 1 (pos 0) (record {
      answer = accepted tt;
      journal = flatten (head_bytes 3 3 ∷ read_bytes 1 2 0 ∷ write_bytes 1 0 0 p500 p320 ∷ read_bytes 2 0 1 ∷ []);
      table = written_table;
      counts = record_counts 2 1 0 0;
    })
    -- amounts below zero
    ∷ appending (flatten (head_bytes 1 1 ∷ read_bytes 1 0 0 ∷ []) ++ blank 20) (negsuc 1 ∷ []) (record_counts 1 0 0 0) 2 1 0 (negsuc 0)
    (record {
      answer = accepted tt;
      journal = flatten (head_bytes 2 1 ∷ read_bytes 1 2 0 ∷ write_bytes 1 0 0 minus2 minus1 ∷ []);
      table = negsuc 0 ∷ [];
      counts = record_counts 1 1 0 0;
    })
    -- the last record of the example
    ∷ appending (ten ++ blank 20) example_table (record_counts 4 4 2 0) 3 3 0 (pos 0) (record {
      answer = accepted tt;
      journal = example;
      table = example_table;
      counts = record_counts 4 4 3 0;
    })
    -- 15: the tally's reads differ; before 4, since the kind is none
    ∷ append_refused (after_read ++ blank 20) first_table (record_counts 0 0 0 0) 5 1 0 (pos 0) 15 0
    -- the other three counts
    ∷ append_refused (after_read ++ blank 20) first_table (record_counts 1 1 0 0) 1 1 1 (pos 0) 15 0
    ∷ append_refused (after_read ++ blank 20) first_table (record_counts 1 0 1 0) 1 1 1 (pos 0) 15 0
    ∷ append_refused (after_read ++ blank 20) first_table (record_counts 1 0 0 1) 1 1 1 (pos 0) 15 0
    -- 4 for the new record: the kind, the transaction, the item; after of a read, item and after of an end
    ∷ append_refused (after_read ++ blank 20) first_table (record_counts 1 0 0 0) 5 1 0 (pos 0) 4 2
    ∷ append_refused (after_read ++ blank 20) first_table (record_counts 1 0 0 0) 0 1 0 (pos 0) 4 2
    ∷ append_refused (after_read ++ blank 20) first_table (record_counts 1 0 0 0) 1 0 0 (pos 0) 4 2
    ∷ append_refused (after_read ++ blank 20) first_table (record_counts 1 0 0 0) 1 1025 0 (pos 0) 4 2
    ∷ append_refused (after_read ++ blank 20) first_table (record_counts 1 0 0 0) 1 1 3 (pos 0) 4 2
    ∷ append_refused (after_read ++ blank 20) first_table (record_counts 1 0 0 0) 1 1 1 (pos 1) 4 2
    ∷ append_refused (after_read ++ blank 20) first_table (record_counts 1 0 0 0) 3 1 1 (pos 0) 4 2
    ∷ append_refused (after_read ++ blank 20) first_table (record_counts 1 0 0 0) 4 1 0 (negsuc 0) 4 2
    -- 6: the transaction has an end
    ∷ append_refused (after_commit ++ blank 20) written_table (record_counts 1 1 1 0) 1 1 0 (pos 0) 6 4
    ∷ append_refused (after_abort ++ blank 20) first_table (record_counts 1 2 0 1) 3 1 0 (pos 0) 6 5
    -- 7: a read of an item that another open transaction has written; a write of one that it has read, which is 8 as well
    ∷ append_refused (after_write ++ blank 20) written_table (record_counts 1 1 0 0) 1 2 0 (pos 0) 7 3
    ∷ append_refused (after_read ++ blank 20) first_table (record_counts 1 0 0 0) 2 2 0 (pos 320) 7 2
    -- * a blind write gives 8: no read at all, a read of another item only
    ∷ append_refused (head_bytes 0 3 ++ blank 20) first_table (record_counts 0 0 0 0) 2 1 0 (pos 320) 8 1
    ∷ append_refused (after_read ++ blank 20) first_table (record_counts 1 0 0 0) 2 1 1 (pos 320) 8 2
    -- 14: under 20 bytes left behind the journal; 8 comes before it
    ∷ append_refused (after_read ++ blank 19) first_table (record_counts 1 0 0 0) 2 1 0 (pos 320) 14 0
    ∷ append_refused after_read first_table (record_counts 1 0 0 0) 2 1 0 (pos 320) 14 0
    ∷ append_refused after_read first_table (record_counts 1 0 0 0) 2 1 1 (pos 320) 8 2
    -- what check refuses comes first: 1, 3, 10 (a written item's amount in the table is another), each with a tally that differs
    ∷ append_refused (take 39 after_read) first_table (record_counts 0 0 0 0) 1 1 0 (pos 0) 1 0
    ∷ append_refused (after_read ++ blank 20) (pos 500 ∷ []) (record_counts 0 0 0 0) 1 1 0 (pos 0) 3 0
    ∷ append_refused (after_write ++ blank 20) first_table (record_counts 0 0 0 0) 3 1 0 (pos 0) 10 0
    ∷ []

-- ---- check

abbrev pub check_days : List Row
check_days =
    -- * head only: check answers 0
    checking (head_bytes 0 3) first_table (accepted 0)
    -- the example has no open transaction; bytes behind the last record are not read
    ∷ checking example example_table (accepted 0)
    ∷ checking (example ++ blank 7) example_table (accepted 0)
    -- its first ten records: transaction 3 is open
    ∷ checking ten example_table (accepted 1)
    -- two open transactions may read one item
    ∷ checking (flatten (head_bytes 2 1 ∷ read_bytes 1 0 0 ∷ read_bytes 2 0 0 ∷ [])) (pos 5 ∷ []) (accepted 2)
    -- an end may be a transaction's first record
    ∷ checking (flatten (head_bytes 2 1 ∷ commit_bytes 1 0 ∷ abort_bytes 2 0 ∷ [])) (pos 5 ∷ []) (accepted 0)
    -- the item field of an end is no item: a commit of 2 while 1 is open and has written item 0
    ∷ checking (flatten (head_bytes 3 1 ∷ read_bytes 1 2 0 ∷ write_bytes 1 0 0 p500 p320 ∷ commit_bytes 2 0 ∷ [])) (pos 320 ∷ [])
    (accepted 1)
    -- the before of an item's first write is free
    ∷ checking (example_with 9 (write_bytes 3 11 2 p2 p1180)) example_table (accepted 0)
    -- after a rollback the item stands at its amount of before
    ∷ checking (written_after_abort p500) (pos 900 ∷ []) (accepted 0)
    -- an item that no record writes may have any amount
    ∷ checking late_read (pos 320 ∷ negsuc 4 ∷ pos 900 ∷ []) (accepted 0)
    -- transaction 1,024 passes; the lowest and the highest amount pass
    ∷ checking transaction1024 (pos 5 ∷ []) (accepted 0)
    ∷ checking extremes (pos 2147483647 ∷ []) (accepted 0)
    -- 1: fewer than 20 bytes; fewer than 20 × (record count + 1)
    ∷ check_refused [] example_table 1 0
    ∷ check_refused (take 19 example) example_table 1 0
    ∷ check_refused (take 239 example) example_table 1 0
    -- 1 (under 20 bytes) before 2; 1 (whole length) before 3
    ∷ check_refused (blank 19) example_table 1 0
    ∷ check_refused (take 239 example) [] 1 0
    -- 2: each field of the head
    ∷ check_refused (set example 0 1) example_table 2 0
    ∷ check_refused (set example 1 1) example_table 2 0
    ∷ check_refused (set example 2 1) example_table 2 0
    ∷ check_refused (set example 3 1) example_table 2 0
    ∷ check_refused (set example 12 1) example_table 2 0
    ∷ check_refused (set example 19 0x80) example_table 2 0
    -- item count 0, 1,025, 16,777,219
    ∷ check_refused (set example 8 0) example_table 2 0
    ∷ check_refused (set (set example 8 1) 9 4) example_table 2 0
    ∷ check_refused (set example 11 1) example_table 2 0
    -- 2 before the whole length: record count 3,201 in a short file; 3,200 is torn
    ∷ check_refused (set (set example 4 0x81) 5 0x0C) example_table 2 0
    ∷ check_refused (set (set example 4 0x80) 5 0x0C) example_table 1 0
    -- 3: table length is not the item count; before 4
    ∷ check_refused example (pos 320 ∷ pos 0 ∷ []) 3 0
    ∷ check_refused example (pos 320 ∷ pos 0 ∷ pos 1180 ∷ pos 0 ∷ []) 3 0
    ∷ check_refused (set example 21 1) (pos 320 ∷ pos 0 ∷ []) 3 0
    -- 4: byte 1 of record 1; kind 0 and kind 5; before and after of a read; item 3 of three
    ∷ check_refused (set example 21 1) example_table 4 1
    ∷ check_refused (set example 20 0) example_table 4 1
    ∷ check_refused (set example 100 5) example_table 4 5
    ∷ check_refused (set example 72 1) example_table 4 3
    ∷ check_refused (set example 36 1) example_table 4 1
    ∷ check_refused (set example 48 3) example_table 4 2
    -- item, before and after of an end
    ∷ check_refused (set example 108 1) example_table 4 5
    ∷ check_refused (set example 112 1) example_table 4 5
    ∷ check_refused (set aborted_write 156 1) aborted_write_table 4 7
    -- transactions 0 and 1,025
    ∷ check_refused (flatten (head_bytes 1 1 ∷ commit_bytes 0 0 ∷ [])) (pos 5 ∷ []) 4 1
    ∷ check_refused transaction1025 (pos 5 ∷ []) 4 1
    -- 4 before 5 at one record; a lower record before a lower number
    ∷ check_refused (set (set example 108 1) 104 7) example_table 4 5
    ∷ check_refused (set (set example 108 1) 44 4) example_table 5 2
    -- 5: next of another transaction; none; not the lowest; of an end; in its highest byte
    ∷ check_refused (set example 124 9) example_table 5 6
    ∷ check_refused (set example 24 0) example_table 5 1
    ∷ check_refused (set example 24 3) example_table 5 1
    ∷ check_refused (set example 224 5) example_table 5 11
    ∷ check_refused (set example 27 1) example_table 5 1
    -- record 4 with transaction 1,025: the next of record 3 no longer fits
    ∷ check_refused (set example 83 4) example_table 5 3
    -- record count 10: the next of record 9 points behind the end
    ∷ check_refused (set example 4 10) example_table 5 9
    -- 6: a read after the commit; a second commit; a commit after the rollback
    ∷ check_refused read_after_end (pos 5 ∷ []) 6 3
    ∷ check_refused ended_twice (pos 5 ∷ []) 6 2
    ∷ check_refused (flatten (head_bytes 2 1 ∷ abort_bytes 1 2 ∷ commit_bytes 1 0 ∷ [])) (pos 5 ∷ []) 6 2
    -- 7: a read of an item that another open transaction has written; a write of one that it has read; before 8
    ∷ check_refused conflicting_read (pos 320 ∷ []) 7 3
    ∷ check_refused conflicting_write (pos 320 ∷ []) 7 3
    ∷ check_refused conflicting_blind (pos 320 ∷ []) 7 2
    -- * a blind write gives 8: no read at all; a read of another item; another transaction's read
    ∷ check_refused blind_write (pos 320 ∷ []) 8 1
    ∷ check_refused blind_other_item (pos 320 ∷ pos 5 ∷ []) 8 2
    ∷ check_refused blind_other_reader (pos 320 ∷ []) 8 3
    -- 9: record 8 with before 2, where item 1 stands at 1; a second write; a write after a rollback
    ∷ check_refused (set example 172 2) example_table 9 8
    ∷ check_refused wrong_before (pos 900 ∷ []) 9 3
    ∷ check_refused (written_after_abort p320) (pos 900 ∷ []) 9 5
    -- 10: the table's amount of a written item is another; the lowest such item; written by a rolled-back, by an open transaction
    ∷ check_refused example (pos 320 ∷ pos 0 ∷ pos 1181 ∷ []) 10 2
    ∷ check_refused example (pos 321 ∷ pos 1 ∷ pos 1180 ∷ []) 10 0
    ∷ check_refused aborted_write (pos 320 ∷ pos 900 ∷ []) 10 1
    ∷ check_refused ten (pos 320 ∷ pos 0 ∷ pos 1000 ∷ []) 10 2
    ∷ []

-- ---- slip

abbrev pub chain_days : List Row
chain_days =
    -- transaction 1 of the example; the rest of the list is not written
    chaining example 1 (blank 7) (record { answer = accepted 5; lsns = 1 ∷ 2 ∷ 3 ∷ 4 ∷ 5 ∷ 99 ∷ 99 ∷ [] })
    -- a list of just the length needed
    ∷ chaining example 1 (blank 5) (record { answer = accepted 5; lsns = 1 ∷ 2 ∷ 3 ∷ 4 ∷ 5 ∷ [] })
    -- transactions 2 and 3
    ∷ chaining example 2 (blank 4) (record { answer = accepted 3; lsns = 6 ∷ 8 ∷ 10 ∷ 99 ∷ [] })
    ∷ chaining example 3 (blank 3) (record { answer = accepted 3; lsns = 7 ∷ 9 ∷ 11 ∷ [] })
    -- an open transaction, a rolled-back one
    ∷ chaining ten 3 (blank 3) (record { answer = accepted 2; lsns = 7 ∷ 9 ∷ 99 ∷ [] })
    ∷ chaining aborted_write 2 (blank 4) (record { answer = accepted 4; lsns = 4 ∷ 5 ∷ 6 ∷ 7 ∷ [] })
    -- 14: the list is one short
    ∷ chain_refused example 1 (blank 4) 14 0
    -- 12: a transaction without records; 0; 1,025; in a journal with only a head; before 14
    ∷ chain_refused example 9 (blank 7) 12 0
    ∷ chain_refused example 0 (blank 7) 12 0
    ∷ chain_refused example 1025 (blank 7) 12 0
    ∷ chain_refused (head_bytes 0 3) 1 (blank 7) 12 0
    ∷ chain_refused example 9 [] 12 0
    -- 1, 2, 4 to 9 come first
    ∷ chain_refused (take 239 example) 9 [] 1 0
    ∷ chain_refused (set example 0 1) 9 [] 2 0
    ∷ chain_refused (set example 21 1) 9 [] 4 1
    ∷ chain_refused (set example 124 9) 9 [] 5 6
    ∷ chain_refused (set example 172 2) 9 [] 9 8
    ∷ []

-- ---- counting

abbrev pub count_days : List Row
count_days =
    -- the example: reads 1, 3, 6 and 7, writes 2, 4, 8 and 9, commits 5, 10 and 11; bytes behind the records are not counted
    counting (example ++ blank 20) (accepted (record_counts 4 4 3 0))
    -- a copy of it; a journal with a rollback
    ∷ counting copy_of3 (accepted (record_counts 1 1 1 0))
    ∷ counting aborted_write (accepted (record_counts 4 2 2 1))
    -- head only
    ∷ counting (head_bytes 0 3) (accepted (record_counts 0 0 0 0))
    -- no record is checked: record 1 with kind 5 counts nowhere
    ∷ counting (set example 20 5) (accepted (record_counts 3 4 3 0))
    -- 1: fewer than 20 bytes; the last byte is missing. 2: the head
    ∷ counting (take 19 example) (refused 1 0)
    ∷ counting (take 239 example) (refused 1 0)
    ∷ counting (set example 0 1) (refused 2 0)
    ∷ []

-- ---- take-back

-- the example with list 1: sales 1 and 2 go, item 0 returns to 500, the copy has the three records of sale 3
abbrev pub example_left : UndoResult
example_left =
    record {
      answer = accepted_totals 1 2 0 80;
      table = pos 500 ∷ pos 0 ∷ pos 1180 ∷ [];
      status = 0 ∷ 2 ∷ 2 ∷ 1 ∷ replicate 1021 0;
      out = copy_of3;
    }

abbrev pub undo_days : List Row
undo_days =
    -- * the example: sales 1 and 2 go; the copy has 80 bytes. * Paper of 80 bytes does not give 14
    undoing example example_table (1 ∷ []) status_buffer (blank 80) example_left
    -- longer paper: the bytes behind the copy are not written
    ∷ undoing example example_table (1 ∷ []) status_buffer (blank 100) (record {
      answer = accepted_totals 1 2 0 80;
      table = pos 500 ∷ pos 0 ∷ pos 1180 ∷ [];
      status = 0 ∷ 2 ∷ 2 ∷ 1 ∷ replicate 1021 0;
      out = copy_of3 ++ blank 20;
    })
    -- bytes behind the journal are not read
    ∷ undoing (example ++ blank 7) example_table (1 ∷ []) status_buffer (blank 80) example_left
    -- * paper of 79 bytes gives 14
    ∷ undo_refused example example_table (1 ∷ []) status_buffer (blank 79) 14 0
    -- * same with list 3: item 2 returns to 1000
    ∷ undoing example example_table (3 ∷ []) status_buffer (blank 180) (record {
      answer = accepted_totals 2 1 0 180;
      table = pos 320 ∷ pos 0 ∷ pos 1000 ∷ [];
      status = 0 ∷ 1 ∷ 1 ∷ 2 ∷ replicate 1021 0;
      out = copy_of12;
    })
    -- list 2: sale 1 stays, item 1 returns to 1
    ∷ undoing example example_table (2 ∷ []) status_buffer (blank 180) (record {
      answer = accepted_totals 2 1 0 180;
      table = pos 320 ∷ pos 1 ∷ pos 1180 ∷ [];
      status = 0 ∷ 1 ∷ 2 ∷ 1 ∷ replicate 1021 0;
      out =
          flatten
          (head_bytes 8 3
          ∷ read_bytes 1 2 0
          ∷ record2
          ∷ read_bytes 1 4 1
          ∷ write_bytes 1 5 1 p0 p1
          ∷ commit_bytes 1 0
          ∷ read_bytes 3 7 2
          ∷ write_bytes 3 8 2 p1000 p1180
          ∷ commit_bytes 3 0
          ∷ []);
    })
    -- list 3 1: all go
    ∷ undoing example example_table (3 ∷ 1 ∷ []) status_buffer (blank 20) (record {
      answer = accepted_totals 0 3 0 20;
      table = pos 500 ∷ pos 0 ∷ pos 1000 ∷ [];
      status = 0 ∷ 2 ∷ 2 ∷ 2 ∷ replicate 1021 0;
      out = head_bytes 0 3;
    })
    -- a cut list: list 3 on the copy and the table that list 1 left; the last table and copy are those of list 3 1
    ∷ undoing copy_of3 (pos 500 ∷ pos 0 ∷ pos 1180 ∷ []) (3 ∷ []) status_buffer (blank 20) (record {
      answer = accepted_totals 0 1 0 20;
      table = pos 500 ∷ pos 0 ∷ pos 1000 ∷ [];
      status = 0 ∷ 0 ∷ 0 ∷ 2 ∷ replicate 1021 0;
      out = head_bytes 0 3;
    })
    -- * same with list empty: table unchanged, copy of 11 records
    ∷ undoing example example_table [] status_buffer (blank 240) (record {
      answer = accepted_totals 3 0 0 240;
      table = example_table;
      status = 0 ∷ 1 ∷ 1 ∷ 1 ∷ replicate 1021 0;
      out = example;
    })
    -- head only, list empty: a copy of 20 bytes
    ∷ undoing (head_bytes 0 3) first_table [] status_buffer (blank 21) (record {
      answer = accepted_totals 0 0 0 20;
      table = first_table;
      status = replicate 1025 0;
      out = head_bytes 0 3 ++ blank 1;
    })
    -- * list 1 1 equals list 1
    ∷ undoing example example_table (1 ∷ 1 ∷ []) status_buffer (blank 80) example_left
    -- list 2 1: sale 2 is there once
    ∷ undoing example example_table (2 ∷ 1 ∷ []) status_buffer (blank 80) example_left
    -- * list 4 gives 12, place 0
    ∷ undo_refused example example_table (4 ∷ []) status_buffer (blank 80) 12 0
    -- 12 elsewhere in the list: the lowest position; 0 and 1,025; a rolled-back sale; head only
    ∷ undo_refused example example_table (1 ∷ 4 ∷ 5 ∷ []) status_buffer (blank 80) 12 1
    ∷ undo_refused example example_table (0 ∷ []) status_buffer (blank 80) 12 0
    ∷ undo_refused example example_table (1 ∷ 2 ∷ 1025 ∷ []) status_buffer (blank 80) 12 2
    ∷ undo_refused aborted_write aborted_write_table (2 ∷ []) status_buffer (blank 200) 12 0
    ∷ undo_refused (head_bytes 0 3) first_table (1 ∷ []) status_buffer (blank 20) 12 0
    -- * a sale that writes item 2 first and only later reads from a bad sale: item 2 returns too
    ∷ undoing late_read late_read_table (1 ∷ []) status_buffer (blank 20) (record {
      answer = accepted_totals 0 2 0 20;
      table = pos 500 ∷ pos 7 ∷ pos 1000 ∷ [];
      status = 0 ∷ 2 ∷ 2 ∷ replicate 1022 0;
      out = head_bytes 0 3;
    })
    -- * a rolled-back write feeds no other sale: 2 read from the bad sale, its write of item 1 does not feed the read of 3
    ∷ undoing aborted_write aborted_write_table (1 ∷ []) status_buffer (blank 60) (record {
      answer = accepted_totals 1 1 1 60;
      table = pos 500 ∷ pos 1000 ∷ [];
      status = 0 ∷ 2 ∷ 0 ∷ 1 ∷ replicate 1021 0;
      out = flatten (head_bytes 2 2 ∷ read_bytes 3 2 1 ∷ commit_bytes 3 0 ∷ []);
    })
    -- * .. and does not stand between a committed write and a read: 3 reads what 1 wrote
    ∷ undoing aborted_between (pos 320 ∷ []) (1 ∷ []) status_buffer (blank 20) (record {
      answer = accepted_totals 0 2 1 20;
      table = pos 500 ∷ [];
      status = 0 ∷ 2 ∷ 0 ∷ 2 ∷ replicate 1021 0;
      out = head_bytes 0 1;
    })
    -- an empty list still drops rolled-back sales
    ∷ undoing aborted_write aborted_write_table [] status_buffer (blank 120) (record {
      answer = accepted_totals 2 0 1 120;
      table = aborted_write_table;
      status = 0 ∷ 1 ∷ 0 ∷ 1 ∷ replicate 1021 0;
      out =
          flatten
          (head_bytes 5 2
          ∷ read_bytes 1 2 0
          ∷ write_bytes 1 3 0 p500 p320
          ∷ commit_bytes 1 0
          ∷ read_bytes 3 5 1
          ∷ commit_bytes 3 0
          ∷ []);
    })
    -- readers of readers: 2 and 3 go with 1; with list 2 only 3 goes
    ∷ undoing successive (pos 1000 ∷ []) (1 ∷ []) status_buffer (blank 20) (record {
      answer = accepted_totals 0 3 0 20;
      table = pos 500 ∷ [];
      status = 0 ∷ 2 ∷ 2 ∷ 2 ∷ replicate 1021 0;
      out = head_bytes 0 1;
    })
    ∷ undoing successive (pos 1000 ∷ []) (2 ∷ []) status_buffer (blank 80) (record {
      answer = accepted_totals 1 2 0 80;
      table = pos 320 ∷ [];
      status = 0 ∷ 1 ∷ 2 ∷ 2 ∷ replicate 1021 0;
      out = flatten (head_bytes 3 1 ∷ read_bytes 1 2 0 ∷ write_bytes 1 3 0 p500 p320 ∷ commit_bytes 1 0 ∷ []);
    })
    -- by the same write and not by equal value: 2, which goes with 1, wrote the opening amount again, and 3 read it
    ∷ undoing written_back (pos 500 ∷ []) (1 ∷ []) status_buffer (blank 20) (record {
      answer = accepted_totals 0 3 0 20;
      table = pos 500 ∷ [];
      status = 0 ∷ 2 ∷ 2 ∷ 2 ∷ replicate 1021 0;
      out = head_bytes 0 1;
    })
    -- a commit alone, taken back; sale 1,024 has the last mark
    ∷ undoing transaction1024 (pos 5 ∷ []) (1024 ∷ []) status_buffer (blank 20) (record {
      answer = accepted_totals 0 1 0 20;
      table = pos 5 ∷ [];
      status = replicate 1024 0 ++ 2 ∷ [];
      out = head_bytes 0 1;
    })
    -- the opening amount is the first before, whatever it is; the lowest amount
    ∷ undoing extremes (pos 2147483647 ∷ []) (1 ∷ []) status_buffer (blank 20) (record {
      answer = accepted_totals 0 1 0 20;
      table = negsuc 2147483647 ∷ [];
      status = 0 ∷ 2 ∷ replicate 1023 0;
      out = head_bytes 0 1;
    })
    ∷ []

-- ---- take-back on days with rewrites (document 02, request 3)

-- 1 and 2 are taken back and nothing is left; one item, at this amount
abbrev pub both_undone : Amount → UndoResult
both_undone amount =
    record {
      answer = accepted_totals 0 2 0 20;
      table = amount ∷ [];
      status = 0 ∷ 2 ∷ 2 ∷ replicate 1022 0;
      out = head_bytes 0 1;
    }

-- 1 is taken back, and 2, which read the item, is kept
abbrev pub reader_kept : Amount → UndoResult
reader_kept amount =
    record {
      answer = accepted_totals 1 1 0 60;
      table = amount ∷ [];
      status = 0 ∷ 2 ∷ 1 ∷ replicate 1022 0;
      out = flatten (head_bytes 2 1 ∷ read_bytes 2 2 0 ∷ commit_bytes 2 0 ∷ []);
    }

abbrev pub rewrite_days : List Row
rewrite_days =
    -- the request's case: a bad sale rewrites item 2 at 1000, a later sale reads it and is kept
    undoing rewrite_read rewrite_read_table (1 ∷ []) status_buffer (blank 80) (record {
      answer = accepted_totals 1 1 0 80;
      table = rewrite_read_table;
      status = 0 ∷ 2 ∷ 1 ∷ replicate 1022 0;
      out = flatten (head_bytes 3 3 ∷ read_bytes 2 2 2 ∷ write_bytes 2 3 2 p1000 p1180 ∷ commit_bytes 2 0 ∷ []);
    })
    -- a write whose after is its before feeds nothing, at 500 and at the lowest amount; a penny more, a penny less, and from the
    -- highest amount to the lowest feed
    ∷ undoing (write_then_read p500 p500) (pos 500 ∷ []) (1 ∷ []) status_buffer (blank 60) (reader_kept (pos 500))
    ∷ undoing (write_then_read lowest lowest) (negsuc 2147483647 ∷ []) (1 ∷ []) status_buffer (blank 60)
    (reader_kept (negsuc 2147483647))
    ∷ undoing (write_then_read p0 p1) (pos 1 ∷ []) (1 ∷ []) status_buffer (blank 20) (both_undone (pos 0))
    ∷ undoing (write_then_read p0 minus1) (negsuc 0 ∷ []) (1 ∷ []) status_buffer (blank 20) (both_undone (pos 0))
    ∷ undoing (write_then_read highest lowest) (negsuc 2147483647 ∷ []) (1 ∷ []) status_buffer (blank 20)
    (both_undone (pos 2147483647))
    -- a rewrite, by the same sale or by another, stands behind a bad write that changed the amount, and that one feeds
    ∷ undoing (two_writes p320 p320) (pos 320 ∷ []) (1 ∷ []) status_buffer (blank 20) (both_undone (pos 500))
    ∷ undoing rewrite_between (pos 320 ∷ []) (1 ∷ []) status_buffer (blank 20) (record {
      answer = accepted_totals 0 3 0 20;
      table = pos 500 ∷ [];
      status = 0 ∷ 2 ∷ 2 ∷ 2 ∷ replicate 1021 0;
      out = head_bytes 0 1;
    })
    -- the sale that rewrites goes alone: 3 reads what 1 wrote
    ∷ undoing rewrite_between (pos 320 ∷ []) (2 ∷ []) status_buffer (blank 120) (record {
      answer = accepted_totals 2 1 0 120;
      table = pos 320 ∷ [];
      status = 0 ∷ 1 ∷ 2 ∷ 1 ∷ replicate 1021 0;
      out =
          flatten
          (head_bytes 5 1
          ∷ read_bytes 1 2 0
          ∷ write_bytes 1 3 0 p500 p320
          ∷ commit_bytes 1 0
          ∷ read_bytes 3 5 0
          ∷ commit_bytes 3 0
          ∷ []);
    })
    -- 500 to 900 and back to 500 in one sale draws its reader in
    ∷ undoing (two_writes p900 p500) (pos 500 ∷ []) (1 ∷ []) status_buffer (blank 20) (both_undone (pos 500))
    -- an own rewrite before an own read; what feeds it: `OwnRewrite`
    ∷ undoing own_rewrite (pos 320 ∷ []) (1 ∷ []) status_buffer (blank 20) (both_undone (pos 500))
    -- the copy has a kept sale's rewrite
    ∷ undoing kept_rewrite (pos 320 ∷ pos 1000 ∷ []) (1 ∷ []) status_buffer (blank 80) (record {
      answer = accepted_totals 1 1 0 80;
      table = pos 500 ∷ pos 1000 ∷ [];
      status = 0 ∷ 2 ∷ 1 ∷ replicate 1022 0;
      out = flatten (head_bytes 3 2 ∷ read_bytes 2 2 1 ∷ write_bytes 2 3 1 p1000 p1000 ∷ commit_bytes 2 0 ∷ []);
    })
    ∷ []

-- what feeds reads on three of these days: the highest write by 1 that changed the amount, and no rewrite. `own` is a read that 1
-- itself would make behind its rewrite; `back` is behind 500 to 900 and back to 500, and the second write feeds
pub record OwnRewrite : Type 0 where
  pub ahead : reads_from is_source (history own_rewrite 3) 2 0 ≡ some (write 2 1 0 (pos 500) (pos 320))
  pub behind : reads_from is_source (history own_rewrite 5) 2 0 ≡ some (write 2 1 0 (pos 500) (pos 320))
  pub other : reads_from is_source (history (two_writes p320 p320) 4) 2 0 ≡ some (write 2 1 0 (pos 500) (pos 320))
  pub own : reads_from is_source (history (two_writes p320 p320) 3) 1 0 ≡ some (write 2 1 0 (pos 500) (pos 320))
  pub back : reads_from is_source (history (two_writes p900 p500) 4) 2 0 ≡ some (write 3 1 0 (pos 900) (pos 500))

-- the other refusals of take-back
abbrev pub undo_refused_days : List Row
undo_refused_days =
    -- what check refuses, 1 to 10, comes first: here marks, list and paper are wrong as well
    undo_refused (take 239 example) example_table (4 ∷ []) [] [] 1 0
    ∷ undo_refused (set example 8 0) example_table (4 ∷ []) [] [] 2 0
    ∷ undo_refused example [] (4 ∷ []) [] [] 3 0
    ∷ undo_refused (set example 108 1) example_table (4 ∷ []) [] [] 4 5
    ∷ undo_refused (set example 4 10) example_table (4 ∷ []) [] [] 5 9
    ∷ undo_refused ended_twice (pos 5 ∷ []) (4 ∷ []) [] [] 6 2
    ∷ undo_refused conflicting_blind (pos 320 ∷ []) (4 ∷ []) [] [] 7 2
    ∷ undo_refused blind_write (pos 320 ∷ []) (4 ∷ []) [] [] 8 1
    ∷ undo_refused (set example 172 2) example_table (4 ∷ []) [] [] 9 8
    ∷ undo_refused example (pos 320 ∷ pos 0 ∷ pos 1181 ∷ []) (4 ∷ []) [] [] 10 2
    -- 11: an open sale, the lowest of them; before 13
    ∷ undo_refused ten example_table (1 ∷ []) status_buffer (blank 200) 11 3
    ∷ undo_refused (flatten (head_bytes 2 1 ∷ read_bytes 2 0 0 ∷ read_bytes 1 0 0 ∷ [])) (pos 5 ∷ []) [] [] [] 11 1
    -- 13: marks of another length than 1,025; before 12
    ∷ undo_refused example example_table (1 ∷ []) (replicate 1024 7) (blank 80) 13 0
    ∷ undo_refused example example_table (1 ∷ []) (replicate 1026 7) (blank 80) 13 0
    ∷ undo_refused example example_table (4 ∷ []) [] (blank 80) 13 0
    -- 12 before 14
    ∷ undo_refused example example_table (4 ∷ []) status_buffer [] 12 0
    ∷ []

-- ---- the table

abbrev pub days : List Row
days = start_days ++ (append_days ++ (check_days ++ (chain_days ++ (count_days ++ (undo_days ++ (rewrite_days ++ undo_refused_days))))))

-- record 2 of the example: the twenty bytes that document 01 gives, at their place in the journal, what they mean, and written
-- again
pub record SecondRecord : Type 0 where
  pub placed : take 20 (drop 40 example) ≡ record2
  pub means : record_at example 2 ≡ record {
    kind = 2;
    reserved = 0;
    transaction = record { 0 = 1 };
    next = record { 0 = 3 };
    item = record { 0 = 0 };
    before = pos 500;
    after = pos 320;
  }
  pub bytes : bytes_of (record_at example 2) ≡ record2

-- * list 1 1 equals list 1
abbrev pub RepeatedName : Type 0
RepeatedName = undo (inputs_of example example_table) (1 ∷ 1 ∷ []) status_buffer (blank 80)
    ≡ undo (inputs_of example example_table) (1 ∷ []) status_buffer (blank 80)
