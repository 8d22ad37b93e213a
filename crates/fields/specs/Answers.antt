-- A journal's size, and a journal whose head is right.
-- Assumes nothing.
use Rattle.std.specs.Prelude.{◌≡◌, List, ℕ, ◌≤◌, length}
use Rattle.format.specs.Limits.{journal_bytes, max_records, max_items}
use Rattle.journal.specs.Journal.{count, items}

-- record count and item count
pub record Size : Type 0 where
  pub records : ℕ
  pub items : ℕ

abbrev pub size_of : List ℕ → Size
size_of b = record { records = count b; items = items b }

-- a journal whose head is right: n records, m items
pub record Opened (b : List ℕ) (n m : ℕ) : Type 0 where
  pub counted : n ≡ count b
  pub keys : m ≡ items b
  pub long : journal_bytes n ≤ length b
  pub few : n ≤ max_records
  pub some : 1 ≤ m
  pub narrow : m ≤ max_items
