-- The numbers of document 01, by name. An abbreviation stands for its number wherever one is asked for.
-- Document 01, "The journal" and "The rules of taking back". Assumes nothing.
use Rattle.std.specs.Prelude.{ℕ, ◌+◌, ◌*◌}

-- 01: a journal is a run of 20-byte records
abbrev pub record_bytes : ℕ
record_bytes = 20

-- the bytes of the head and n records
abbrev pub journal_bytes : ℕ → ℕ
journal_bytes n = record_bytes * (n + 1)

-- 01: record count, 0 to 3,200
abbrev pub max_records : ℕ
max_records = 3200

-- 01: item count, 1 to 1,024
abbrev pub max_items : ℕ
max_items = 1024

-- 01: sale, 1 to 1,024
abbrev pub max_transaction : ℕ
max_transaction = 1024

-- an array with one entry a record number, from 0; one a transaction number, from 0
abbrev pub record_slots : ℕ
record_slots = 3201

abbrev pub transaction_slots : ℕ
transaction_slots = 1025

-- 01: marks are 1,025 bytes, one per sale number from 0
abbrev pub status_bytes : ℕ
status_bytes = 1025

-- the longest journal: head and 3,200 records
abbrev pub max_journal_bytes : ℕ
max_journal_bytes = 64020
