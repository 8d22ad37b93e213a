-- The reports worked out by hand are what the definition says, by computation.
-- Document 01, "The program's day". Assumes nothing.
use mathlib.Core.Path.{◌≡◌, refl, ◌∙◌}
use mathlib.Core.List.{List, [], ◌∷◌, ◌++◌, flatten}
use Prim.Native.Nat.{ℕ}
use Rattle.example.specs.Example.{example}
use Rattle.format.specs.Bytes.{entry, entries}
use Rattle.text.specs.Decimal.{digits, decimal, decimal_z}
use Rattle.model.specs.Net.{net_change}
use Rattle.lines.specs.AnswerLines.{undone_in, change_of, lines}
use Rattle.decode.specs.Files.{amounts, transactions}
use Rattle.report.specs.Output.{lines_of}
use Rattle.day_report.specs.Output.{undo_files, report_of}
use Rattle.worked.specs.Reports.{table, bad, Example, Negative, PartialEntry, Refusals, Wide, EndToEnd, Decimals}
use Rattle.days.proofs.Computed as calls

-- what a report computes with: `unfolding computed` opens what its own line names
unfoldable computed : Unit {0}
unfolding calls.computed net_change entry entries digits decimal decimal_z flatten undone_in change_of lines lines_of amounts transactions undo_files report_of
computed = tt

pub decimals : Decimals
unfolding computed
decimals = record { zero = refl; nine = refl; ten = refl; highest64 = refl; none = refl; least = refl; lowest = refl; highest = refl }

pub refusals : Refusals
unfolding computed
refusals = record { no_journal = refl; no_table = refl; unknown = refl; unsettled = refl }

pub example-report : Example
unfolding computed
example-report = refl

-- a report is by the whole entries of table and list
by_entries : (journal t u b c : List ℕ) → amounts t ≡ amounts u → transactions b ≡ transactions c → report_of journal t b ≡ report_of journal u c
unfolding report_of undo_files
by_entries journal t u b c et eb = rw (et, eb)

table-cut : amounts (table ++ 7 ∷ 0 ∷ 9 ∷ []) ≡ amounts table
unfolding computed
table-cut = refl

list-cut : transactions (bad ++ 3 ∷ []) ≡ transactions bad
unfolding computed
list-cut = refl

pub partial-entry : PartialEntry
partial-entry = by_entries example _ table _ bad table-cut list-cut ∙ example-report

pub wide : Wide
unfolding computed
wide = refl

pub negative : Negative
unfolding computed
negative = refl

pub end_to_end : EndToEnd
unfolding computed
end_to_end = record { up = refl; down = refl }
