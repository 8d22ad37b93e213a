-- The example of document 01: its journal, and its table at the end of the day.
-- Document 01, "The program's day". Assumes nothing.
use mathlib.Core.List.{List, [], ◌∷◌, flatten}
use Rattle.std.specs.Prelude.{ℕ, pos}
use Rattle.model.specs.History.{Amount}
use Rattle.example.specs.Records.{head_bytes, read_bytes, write_bytes, commit_bytes, p0, p1, p1000, p1180}

-- record 2 as document 01 gives it
abbrev pub record2 : List ℕ
record2 =
    0x02 ∷ 0x00 ∷ 0x01 ∷ 0x00 ∷ 0x03 ∷ 0x00 ∷ 0x00 ∷ 0x00 ∷ 0x00 ∷ 0x00 ∷ 0x00 ∷ 0x00 ∷ 0xF4 ∷ 0x01 ∷ 0x00 ∷ 0x00 ∷ 0x40 ∷ 0x01
    ∷ 0x00 ∷ 0x00 ∷ []

-- the head, then records 1 to 11
abbrev pub example_records : List (List ℕ)
example_records =
    head_bytes 11 3
    ∷ read_bytes 1 2 0
    ∷ record2
    ∷ read_bytes 1 4 1
    ∷ write_bytes 1 5 1 p0 p1
    ∷ commit_bytes 1 0
    ∷ read_bytes 2 8 1
    ∷ read_bytes 3 9 2
    ∷ write_bytes 2 10 1 p1 p0
    ∷ write_bytes 3 11 2 p1000 p1180
    ∷ commit_bytes 2 0
    ∷ commit_bytes 3 0
    ∷ []

unfoldable pub example : List ℕ
example = flatten example_records

unfoldable pub example_table : List Amount
example_table = pos 320 ∷ pos 0 ∷ pos 1180 ∷ []
