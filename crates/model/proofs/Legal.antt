-- Histories that pass rules 6, 7 and 9 where item x begins at o x, with rule 9 read for every write: its before image is the standing
-- amount. Rule 8 stands apart.
-- Assumes nothing.
use mathlib.Core.Path.{◌≡◌}
use mathlib.Core.Bool.{false}
use mathlib.Core.List.{[], ◌∷◌}
use Prim.Native.Nat.{ℕ}
use Rattle.model.specs.History.{Op, History, Amount, read, write, commit, abort, other, tx_of, ended, current}
use Rattle.model.specs.Rules.{conflicting, blind}

-- the standing amount, where item x begins at o x
abbrev pub stand : (ℕ → Amount) → History → ℕ → Amount
stand o p x = current (o x) p x

abbrev pub Right : (ℕ → Amount) → History → Op → Type 0
Right o p (read t s x) = Unit {0}
Right o p (write t s x b a) = b ≡ stand o p x
Right o p (commit t s) = Unit {0}
Right o p (abort t s) = Unit {0}
Right o p (other t s) = Unit {0}

-- operation r may follow p
pub record LegalStep (o : ℕ → Amount) (p : History) (r : Op) : Type 0 where
  pub not_terminated : ended p (tx_of r) ≡ false
  pub not_conflicting : conflicting p r ≡ false
  pub right : Right o p r

abbrev pub Legal : (ℕ → Amount) → History → Type 0
Legal o [] = Unit {0}
Legal o (r ∷ p) = Legal o p × LegalStep o p r

-- rule 8: each write follows a read of the item by its transaction
abbrev pub NoBlindWrites : History → Type 0
NoBlindWrites [] = Unit {0}
NoBlindWrites (r ∷ p) = NoBlindWrites p × (blind p r ≡ false)
