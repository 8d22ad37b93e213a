-- The journals of the worked days, written out in bytes by hand: the example's variants and copies, and the small journals of the
-- other days. Document 01, "Days to try"; document 02, request 3. Assumes nothing.
use mathlib.Core.List.{List, [], ◌∷◌, ◌++◌, flatten}
use Rattle.std.specs.Prelude.{ℕ, pos, take, set}
use Rattle.model.specs.History.{Amount}
use Rattle.example.specs.Records.{head_bytes, read_bytes, write_bytes, commit_bytes, abort_bytes, p0, p1, p320, p500, p900, p1000, p1180}
use Rattle.example.specs.Records.{lowest, highest}
use Rattle.example.specs.Example.{record2, example_records}

-- ---- the example, and what its copies must be

-- the example with other bytes as record i; 0 is the head
abbrev pub example_with : ℕ → List ℕ → List ℕ
example_with i r = flatten (set example_records i r)

-- the copy where transactions 1 and 2 are taken back: records 7, 9 and 11 of transaction 3
abbrev pub copy_of3 : List ℕ
copy_of3 = flatten (head_bytes 3 3 ∷ read_bytes 3 2 2 ∷ write_bytes 3 3 2 p1000 p1180 ∷ commit_bytes 3 0 ∷ [])

-- the copy where transaction 3 is taken back: records 1 to 6, 8 and 10 of transactions 1 and 2
abbrev pub copy_of12 : List ℕ
copy_of12 =
    flatten (head_bytes 8 3
    ∷ read_bytes 1 2 0
    ∷ record2
    ∷ read_bytes 1 4 1
    ∷ write_bytes 1 5 1 p0 p1
    ∷ commit_bytes 1 0
    ∷ read_bytes 2 7 1
    ∷ write_bytes 2 8 1 p1 p0
    ∷ commit_bytes 2 0
    ∷ [])

-- the first ten records of the example as a journal: transaction 3 is open
abbrev pub ten_records : List (List ℕ)
ten_records = take 11 (set (set example_records 0 (head_bytes 10 3)) 9 (write_bytes 3 0 2 p1000 p1180))

abbrev pub ten : List ℕ
ten = flatten ten_records

-- ---- a transaction that writes item 2 first and only later reads from a bad one (transaction 2; bad: 1)

abbrev pub late_read : List ℕ
late_read =
    flatten (head_bytes 7 3
    ∷ read_bytes 2 2 2
    ∷ write_bytes 2 6 2 p1000 p900
    ∷ read_bytes 1 4 0
    ∷ write_bytes 1 5 0 p500 p320
    ∷ commit_bytes 1 0
    ∷ read_bytes 2 7 0
    ∷ commit_bytes 2 0
    ∷ [])

abbrev pub late_read_table : List Amount
late_read_table = pos 320 ∷ pos 7 ∷ pos 900 ∷ []

-- ---- rolled-back writes

-- transaction 1 writes item 0 and commits; 2 reads it, writes item 1 and rolls back; 3 reads item 1
abbrev pub aborted_write : List ℕ
aborted_write =
    flatten (head_bytes 9 2
    ∷ read_bytes 1 2 0
    ∷ write_bytes 1 3 0 p500 p320
    ∷ commit_bytes 1 0
    ∷ read_bytes 2 5 0
    ∷ read_bytes 2 6 1
    ∷ write_bytes 2 7 1 p1000 p900
    ∷ abort_bytes 2 0
    ∷ read_bytes 3 9 1
    ∷ commit_bytes 3 0
    ∷ [])

abbrev pub aborted_write_table : List Amount
aborted_write_table = pos 320 ∷ pos 1000 ∷ []

-- transaction 1 writes the item and commits; 2 reads and writes it and rolls back; 3 reads it
abbrev pub aborted_between : List ℕ
aborted_between =
    flatten (head_bytes 8 1
    ∷ read_bytes 1 2 0
    ∷ write_bytes 1 3 0 p500 p320
    ∷ commit_bytes 1 0
    ∷ read_bytes 2 5 0
    ∷ write_bytes 2 6 0 p320 p900
    ∷ abort_bytes 2 0
    ∷ read_bytes 3 8 0
    ∷ commit_bytes 3 0
    ∷ [])

-- ---- one transaction after the other: 2 reads what 1 wrote, 3 reads what 2 wrote

abbrev pub successive : List ℕ
successive =
    flatten (head_bytes 9 1
    ∷ read_bytes 1 2 0
    ∷ write_bytes 1 3 0 p500 p320
    ∷ commit_bytes 1 0
    ∷ read_bytes 2 5 0
    ∷ write_bytes 2 6 0 p320 p900
    ∷ commit_bytes 2 0
    ∷ read_bytes 3 8 0
    ∷ write_bytes 3 9 0 p900 p1000
    ∷ commit_bytes 3 0
    ∷ [])

-- ---- a journal of three items as it grows

-- transaction 1 has read item 0
abbrev pub after_read : List ℕ
after_read = flatten (head_bytes 1 3 ∷ read_bytes 1 0 0 ∷ [])

-- .. and has written it
abbrev pub after_write : List ℕ
after_write = flatten (head_bytes 2 3 ∷ read_bytes 1 2 0 ∷ write_bytes 1 0 0 p500 p320 ∷ [])

-- .. and has committed
abbrev pub after_commit : List ℕ
after_commit = flatten (head_bytes 3 3 ∷ read_bytes 1 2 0 ∷ write_bytes 1 3 0 p500 p320 ∷ commit_bytes 1 0 ∷ [])

-- .. or has written it twice
abbrev pub after_writes : List ℕ
after_writes = flatten (head_bytes 3 3 ∷ read_bytes 1 2 0 ∷ write_bytes 1 3 0 p500 p320 ∷ write_bytes 1 0 0 p320 p900 ∷ [])

-- .. and rolled back
abbrev pub after_abort : List ℕ
after_abort =
    flatten (head_bytes 4 3 ∷ read_bytes 1 2 0 ∷ write_bytes 1 3 0 p500 p320 ∷ write_bytes 1 4 0 p320 p900 ∷ abort_bytes 1 0 ∷ [])

abbrev pub first_table : List Amount
first_table = pos 500 ∷ pos 0 ∷ pos 1000 ∷ []

abbrev pub written_table : List Amount
written_table = pos 320 ∷ pos 0 ∷ pos 1000 ∷ []

-- ---- small journals, most of one item

-- transaction 1 writes and rolls back; 2 writes, with this before
abbrev pub written_after_abort : List ℕ → List ℕ
written_after_abort before =
    flatten (head_bytes 6 1
    ∷ read_bytes 1 2 0
    ∷ write_bytes 1 3 0 p500 p320
    ∷ abort_bytes 1 0
    ∷ read_bytes 2 5 0
    ∷ write_bytes 2 6 0 before p900
    ∷ commit_bytes 2 0
    ∷ [])

-- one transaction writes the one item, from this amount to that one
abbrev pub one_write : List ℕ → List ℕ → List ℕ
one_write before after = flatten (head_bytes 3 1 ∷ read_bytes 1 2 0 ∷ write_bytes 1 3 0 before after ∷ commit_bytes 1 0 ∷ [])

-- from the lowest amount to the highest
abbrev pub extremes : List ℕ
extremes = one_write lowest highest

-- a commit of transaction 1,024 (bytes 00 04), of 1,025 (01 04)
abbrev pub transaction1024 : List ℕ
transaction1024 = head_bytes 1 1 ++ set (commit_bytes 0x00 0) 3 0x04

abbrev pub transaction1025 : List ℕ
transaction1025 = head_bytes 1 1 ++ set (commit_bytes 0x01 0) 3 0x04

-- a read after the transaction's commit; two commits of it
abbrev pub read_after_end : List ℕ
read_after_end = flatten (head_bytes 3 1 ∷ read_bytes 1 2 0 ∷ commit_bytes 1 3 ∷ read_bytes 1 0 0 ∷ [])

abbrev pub ended_twice : List ℕ
ended_twice = flatten (head_bytes 2 1 ∷ commit_bytes 1 2 ∷ commit_bytes 1 0 ∷ [])

-- 2 reads what 1, open, has written; 2 writes what 1, open, has read: after a read of its own, and without
abbrev pub conflicting_read : List ℕ
conflicting_read = flatten (head_bytes 3 1 ∷ read_bytes 1 2 0 ∷ write_bytes 1 0 0 p500 p320 ∷ read_bytes 2 0 0 ∷ [])

abbrev pub conflicting_write : List ℕ
conflicting_write = flatten (head_bytes 3 1 ∷ read_bytes 1 0 0 ∷ read_bytes 2 3 0 ∷ write_bytes 2 0 0 p500 p320 ∷ [])

abbrev pub conflicting_blind : List ℕ
conflicting_blind = flatten (head_bytes 2 1 ∷ read_bytes 1 0 0 ∷ write_bytes 2 0 0 p500 p320 ∷ [])

-- a write with no read of the item: with none at all; with one of item 1; with one by another transaction
abbrev pub blind_write : List ℕ
blind_write = flatten (head_bytes 2 1 ∷ write_bytes 1 2 0 p500 p320 ∷ commit_bytes 1 0 ∷ [])

abbrev pub blind_other_item : List ℕ
blind_other_item = flatten (head_bytes 3 2 ∷ read_bytes 1 2 1 ∷ write_bytes 1 3 0 p500 p320 ∷ commit_bytes 1 0 ∷ [])

abbrev pub blind_other_reader : List ℕ
blind_other_reader = flatten (head_bytes 4 1 ∷ read_bytes 1 2 0 ∷ commit_bytes 1 0 ∷ write_bytes 2 4 0 p500 p320 ∷ commit_bytes 2 0 ∷ [])

-- the second write's before is the first one's
abbrev pub wrong_before : List ℕ
wrong_before =
    flatten (head_bytes 4 1 ∷ read_bytes 1 2 0 ∷ write_bytes 1 3 0 p500 p320 ∷ write_bytes 1 4 0 p500 p900 ∷ commit_bytes 1 0 ∷ [])

-- ---- rewrites: writes of the amount that stands there (document 02, request 3)

-- transaction 1 writes the item, from this amount to that one; 2 reads it
abbrev pub write_then_read : List ℕ → List ℕ → List ℕ
write_then_read before after =
    flatten (head_bytes 5 1 ∷ read_bytes 1 2 0 ∷ write_bytes 1 3 0 before after ∷ commit_bytes 1 0 ∷ read_bytes 2 5 0 ∷ commit_bytes 2 0
    ∷ [])

-- the request's case: transaction 1 rewrites item 2 at 1000; 2 reads it and writes 1180
abbrev pub rewrite_read : List ℕ
rewrite_read =
    flatten (head_bytes 6 3
    ∷ read_bytes 1 2 2
    ∷ write_bytes 1 3 2 p1000 p1000
    ∷ commit_bytes 1 0
    ∷ read_bytes 2 5 2
    ∷ write_bytes 2 6 2 p1000 p1180
    ∷ commit_bytes 2 0
    ∷ [])

abbrev pub rewrite_read_table : List Amount
rewrite_read_table = pos 500 ∷ pos 0 ∷ pos 1180 ∷ []

-- transaction 1 writes the item, 2 rewrites it, 3 reads it
abbrev pub rewrite_between : List ℕ
rewrite_between =
    flatten (head_bytes 8 1
    ∷ read_bytes 1 2 0
    ∷ write_bytes 1 3 0 p500 p320
    ∷ commit_bytes 1 0
    ∷ read_bytes 2 5 0
    ∷ write_bytes 2 6 0 p320 p320
    ∷ commit_bytes 2 0
    ∷ read_bytes 3 8 0
    ∷ commit_bytes 3 0
    ∷ [])

-- transaction 1 writes the item twice, to this amount and from it to that one; 2 reads it
abbrev pub two_writes : List ℕ → List ℕ → List ℕ
two_writes between after =
    flatten (head_bytes 6 1
    ∷ read_bytes 1 2 0
    ∷ write_bytes 1 3 0 p500 between
    ∷ write_bytes 1 4 0 between after
    ∷ commit_bytes 1 0
    ∷ read_bytes 2 6 0
    ∷ commit_bytes 2 0
    ∷ [])

-- transaction 1 writes the item; 2 reads it, rewrites it and reads it again
abbrev pub own_rewrite : List ℕ
own_rewrite =
    flatten (head_bytes 7 1
    ∷ read_bytes 1 2 0
    ∷ write_bytes 1 3 0 p500 p320
    ∷ commit_bytes 1 0
    ∷ read_bytes 2 5 0
    ∷ write_bytes 2 6 0 p320 p320
    ∷ read_bytes 2 7 0
    ∷ commit_bytes 2 0
    ∷ [])

-- transaction 1 writes item 0; 2 rewrites item 1
abbrev pub kept_rewrite : List ℕ
kept_rewrite =
    flatten (head_bytes 6 2
    ∷ read_bytes 1 2 0
    ∷ write_bytes 1 3 0 p500 p320
    ∷ commit_bytes 1 0
    ∷ read_bytes 2 5 1
    ∷ write_bytes 2 6 1 p1000 p1000
    ∷ commit_bytes 2 0
    ∷ [])

-- no rewrite: transaction 1 writes the item, 500 to 900; 2 writes it back, 900 to 500; 3 reads it
abbrev pub written_back : List ℕ
written_back =
    flatten (head_bytes 8 1
    ∷ read_bytes 1 2 0
    ∷ write_bytes 1 3 0 p500 p900
    ∷ commit_bytes 1 0
    ∷ read_bytes 2 5 0
    ∷ write_bytes 2 6 0 p900 p500
    ∷ commit_bytes 2 0
    ∷ read_bytes 3 8 0
    ∷ commit_bytes 3 0
    ∷ [])
