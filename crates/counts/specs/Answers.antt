-- What counts are in document 01's terms.
-- Assumes nothing.
use Rattle.std.specs.Prelude.{◌≤◌, List, [], ◌∷◌, ℕ, get_or}
use Rattle.format.specs.Limits.{max_records}
use Rattle.journal.specs.Refusals.{RecordCounts}
use Rattle.counts.specs.declared.Counts.{Counts}

-- 01: tally
abbrev pub record_counts_of : Counts → RecordCounts
record_counts_of c = record { reads = c.reads; writes = c.writes; commits = c.commits; aborts = c.aborts }

-- as four numbers: reads, writes, commits, aborts
abbrev pub counts_in : List ℕ → Counts
counts_in l = record { reads = get_or l 0 0; writes = get_or l 1 0; commits = get_or l 2 0; aborts = get_or l 3 0 }

abbrev pub numbers_of : Counts → List ℕ
numbers_of c = c.reads ∷ c.writes ∷ c.commits ∷ c.aborts ∷ []

-- counts that can rise
pub record Few (c : Counts) : Type 0 where
  pub reads : c.reads ≤ max_records
  pub writes : c.writes ≤ max_records
  pub commits : c.commits ≤ max_records
  pub aborts : c.aborts ≤ max_records
