-- Reports worked out by hand: the example of document 01, refusals, the lowest and the highest amount.
-- Document 01, "The program's day". Assumes nothing.
use Rattle.std.specs.Prelude.{◌≡◌, ℕ, pos, negsuc, codes}
use mathlib.Core.List.{List, [], ◌∷◌, ◌++◌, flatten}
use Rattle.text.specs.Decimal.{decimal, decimal_z}
use Rattle.example.specs.Records.{p0, p320, p1180, lowest, highest}
use Rattle.example.specs.Example.{example}
use Rattle.days.specs.Journals.{one_write, extremes}
use Rattle.day_report.specs.Output.{report_of}

-- ---- the example

-- 320, 0, 1180
abbrev pub table : List ℕ
table = flatten (p320 ∷ p0 ∷ p1180 ∷ [])

-- transaction 1
abbrev pub bad : List ℕ
bad = 1 ∷ 0 ∷ []

abbrev pub line1 : List ℕ
line1 = codes "JOURNAL 11 COPY 3\n"

abbrev pub line2 : List ℕ
line2 = codes "BACK 1\n"

abbrev pub line3 : List ℕ
line3 = codes "BACK 2\n"

abbrev pub line4 : List ℕ
line4 = codes "ITEM 0 320 500\n"

abbrev pub line5 : List ℕ
line5 = codes "END 1 2 0\n"

-- the kept sale 3 takes item 2 from 1000 to 1180
abbrev pub sum180 : List ℕ
sum180 = codes "SUM 180\n"

abbrev pub example_text : List ℕ
example_text = flatten (line1 ∷ line2 ∷ line3 ∷ line4 ∷ sum180 ∷ line5 ∷ [])

abbrev pub Example : Type 0
Example = report_of example table bad ≡ example_text

-- list 3: sales 1 and 2 are kept, 500 to 320, 0 to 1 and 1 to 0
abbrev pub list3 : List (List ℕ)
list3 =
    codes "JOURNAL 11 COPY 8\n" ∷ codes "BACK 3\n" ∷ codes "ITEM 2 1180 1000\n" ∷ codes "SUM -180\n" ∷ codes "END 2 1 0\n" ∷ []

abbrev pub Negative : Type 0
Negative = report_of example table (3 ∷ 0 ∷ []) ≡ flatten list3

-- a part of an entry behind the table and behind the list is left out
abbrev pub PartialEntry : Type 0
PartialEntry = report_of example (table ++ 7 ∷ 0 ∷ 9 ∷ []) (bad ++ 3 ∷ []) ≡ example_text

-- ---- refusals

abbrev pub refused1 : List ℕ
refused1 = codes "REFUSED 1 0\n"

abbrev pub refused3 : List ℕ
refused3 = codes "REFUSED 3 0\n"

abbrev pub refused12 : List ℕ
refused12 = codes "REFUSED 12 1\n"

abbrev pub refused10 : List ℕ
refused10 = codes "REFUSED 10 2\n"

-- a missing journal, a missing table, a number that is no transaction's behind 1, another amount of item 2
pub record Refusals : Type 0 where
  pub no_journal : report_of [] table bad ≡ refused1
  pub no_table : report_of example [] bad ≡ refused3
  pub unknown : report_of example table (bad ++ 4 ∷ 0 ∷ []) ≡ refused12
  pub unsettled : report_of example (0x40 ∷ 1 ∷ 0 ∷ 0 ∷ 0 ∷ 0 ∷ 0 ∷ 0 ∷ 0x9D ∷ 4 ∷ 0 ∷ 0 ∷ []) bad ≡ refused10

-- ---- the lowest and the highest amount: one transaction reads the one item, writes it, -2147483648 to 2147483647, and commits

abbrev pub wide1 : List ℕ
wide1 = codes "JOURNAL 3 COPY 0\n"

abbrev pub wide2 : List ℕ
wide2 = codes "ITEM 0 2147483647 -2147483648\n"

abbrev pub wide3 : List ℕ
wide3 = codes "END 0 1 0\n"

-- the copy has no write
abbrev pub sum0 : List ℕ
sum0 = codes "SUM 0\n"

abbrev pub Wide : Type 0
Wide = report_of extremes highest bad ≡ flatten (wide1 ∷ line2 ∷ wide2 ∷ sum0 ∷ wide3 ∷ [])

-- with an empty list it is kept
abbrev pub surviving_report : List ℕ → List ℕ
surviving_report sum = flatten (codes "JOURNAL 3 COPY 3\n" ∷ sum ∷ codes "END 1 0 0\n" ∷ [])

-- the lowest to the highest and back
pub record EndToEnd : Type 0 where
  pub up : report_of extremes highest [] ≡ surviving_report (codes "SUM 4294967295\n")
  pub down : report_of (one_write highest lowest) lowest [] ≡ surviving_report (codes "SUM -4294967295\n")

-- ---- decimals

pub record Decimals : Type 0 where
  pub zero : decimal 0 ≡ codes "0"
  pub nine : decimal 9 ≡ codes "9"
  pub ten : decimal 10 ≡ codes "10"
  pub highest64 : decimal 18446744073709551615 ≡ codes "18446744073709551615"
  pub none : decimal_z (pos 0) ≡ codes "0"
  pub least : decimal_z (negsuc 0) ≡ codes "-1"
  pub lowest : decimal_z (negsuc 2147483647) ≡ codes "-2147483648"
  pub highest : decimal_z (pos 2147483647) ≡ codes "2147483647"
