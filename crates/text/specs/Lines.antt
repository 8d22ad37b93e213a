-- The lines of the report, to the byte: each ends in one newline.
-- Document 01, "The program's day". Assumes nothing.
use mathlib.Core.List.{List, [], ◌∷◌, flatten}
use Rattle.std.specs.Prelude.{ℕ, ℤ, codes}
use Rattle.text.specs.Decimal.{decimal, decimal_z}
use Rattle.text.specs.Puts.{labelled}

-- ---- the words, with the spaces beside them

abbrev journal_word : List ℕ
journal_word = codes "JOURNAL "

abbrev copy_word : List ℕ
copy_word = codes " COPY "

abbrev back_word : List ℕ
back_word = codes "BACK "

abbrev item_word : List ℕ
item_word = codes "ITEM "

abbrev sum_word : List ℕ
sum_word = codes "SUM "

abbrev end_word : List ℕ
end_word = codes "END "

abbrev refused_word : List ℕ
refused_word = codes "REFUSED "

abbrev space : List ℕ
space = codes " "

abbrev pub newline : List ℕ
newline = codes "\n"

-- ---- the lines

-- JOURNAL n COPY m: the record counts
abbrev pub count_line : ℕ → ℕ → List ℕ
count_line n m = flatten (labelled journal_word (decimal n) ∷ labelled copy_word (decimal m) ∷ newline ∷ [])

-- BACK s: a transaction (01: sale) taken back
abbrev pub undone_line : ℕ → List ℕ
undone_line s = flatten (labelled back_word (decimal s) ∷ newline ∷ [])

-- ITEM x old new: an item and its amounts
abbrev pub change_line : ℕ → ℤ → ℤ → List ℕ
change_line x old new =
    flatten (labelled item_word (decimal x) ∷ labelled space (decimal_z old) ∷ labelled space (decimal_z new) ∷ newline ∷ [])

-- SUM s: the net change of the copy (document 02, request 1), given in decimal
abbrev pub sum_line : List ℕ → List ℕ
sum_line digits = flatten (labelled sum_word digits ∷ newline ∷ [])

-- END s u a: transactions surviving (01: kept), undone (taken back), aborted (dropped)
abbrev pub end_line : ℕ → ℕ → ℕ → List ℕ
end_line surviving undone aborted =
    flatten (labelled end_word (decimal surviving) ∷ labelled space (decimal undone) ∷ labelled space (decimal aborted) ∷ newline
    ∷ [])

-- REFUSED number place
abbrev pub refused_line : ℕ → ℕ → List ℕ
refused_line number place = flatten (labelled refused_word (decimal number) ∷ labelled space (decimal place) ∷ newline ∷ [])
