-- What the bytes of the three files say.
-- Document 01, "The program's day". Assumes nothing.
use Rattle.std.specs.Prelude.{List, map, ℕ, take}
use Rattle.format.specs.Bytes.{entries, amount}
use Rattle.format.specs.Limits.{max_journal_bytes}
use Rattle.model.specs.History.{Amount}

-- what is read of a file: its first 64,020 bytes
unfoldable pub read_part : List ℕ → List ℕ
read_part file = take max_journal_bytes file

-- the table and the bad list in their files: four bytes an amount, two bytes a transaction; a part of an entry at the end is left
-- out
unfoldable pub amounts : List ℕ → List Amount
amounts file = map amount (entries 4 file)

unfoldable pub transactions : List ℕ → List ℕ
transactions file = entries 2 file
