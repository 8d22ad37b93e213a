-- What the statements are about: answers that accept, journals and tables that pass, days with every sale finished.
-- Document 01, "The rules of taking back". Assumes nothing.
use Rattle.std.specs.Prelude.{◌≡◌, Bool, true, false, List, [], ◌∷◌, map, ℕ, ◌≤◌}
use Rattle.std.specs.Int.{w32}
use Rattle.std.proofs.Common.{SFits}
use Rattle.lists.specs.Search.{any}
use Rattle.format.specs.declared.Record.{Record}
use Rattle.format.specs.Bytes.{Bytes}
use Rattle.format.specs.Layout.{record_at}
use Rattle.model.specs.History.{Amount, of_tx, ended, next_in}
use Rattle.journal.specs.Inputs.{Inputs}
use Rattle.journal.specs.Journal.{count, tx_in, records, whole}
use Rattle.journal.specs.Copy.{linked_to}
use Rattle.journal.specs.Calls.{Answer, refused, accepted, check}

-- the call is accepted
abbrev pub accepts : {A : Type 0} → Answer A → Bool
accepts (refused n p) = false
accepts (accepted a) = true

-- the journal's records, newest first, all fields but next
abbrev pub records_of : List ℕ → List Record
records_of b = map (linked_to 0) (records b (count b))

-- next is right at each record
abbrev pub Chained : List ℕ → Type 0
Chained b = (i : ℕ) → 1 ≤ i → i ≤ count b → (record_at b i).next.0 ≡ next_in (whole b) i (tx_in (record_at b i))

-- each amount is a signed 32-bit number, as the type of a table says
pub data Amounts : List Amount → Type 0 where
  none : Amounts []
  amount : {a : Amount} {t : List Amount} → SFits w32 a → Amounts t → Amounts (a ∷ t)

-- 01: a journal and table pass where check refuses nothing
abbrev pub Pass : Inputs → Type 0
Pass d = accepts (check d) ≡ true

-- every sale with a record has an end
abbrev pub Finished : List ℕ → Type 0
Finished b = (s : ℕ) → any (of_tx s) (whole b) ≡ true → ended (whole b) s ≡ true

-- a journal and table that pass with every sale finished
pub record PassFinished (d : Inputs) : Type 0 where
  pub pass : Pass d
  pub finished : Finished d.journal

-- the same, of a journal of bytes
pub record Day (d : Inputs) : Type 0 where
  pub bytes : Bytes d.journal
  pub pass : Pass d
  pub finished : Finished d.journal
