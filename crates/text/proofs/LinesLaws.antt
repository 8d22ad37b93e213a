-- A line of labelled numbers is their words and digits in a row.
-- Assumes nothing.
use Rattle.std.proofs.Common.{◌≡◌, ℕ, List, [], ◌∷◌, ◌++◌, ap, ◌∙◌, append_assoc}
use mathlib.Core.List.{flatten, append-nil}
use Rattle.std.proofs.lemmas.Int.{to_z-of_z}
use Rattle.text.specs.Puts.{labelled}
use Rattle.text.proofs.DecimalLaws.{decimal_s-plus, decimal_s-minus}

pub flatten-labelled : (w d : List ℕ) (ps : List (List ℕ)) → flatten (labelled w d ∷ ps) ≡ w ++ (d ++ flatten ps)
unfolding flatten
flatten-labelled w d ps = ap (λ e. (w ++ e) ++ flatten ps) (append-nil d) ∙ append_assoc w d (flatten ps)

pub flatten-one : (p : List ℕ) → flatten (p ∷ []) ≡ p
unfolding flatten
flatten-one p = append-nil p

pub flatten-two : (v w : List ℕ) → flatten (v ∷ w ∷ []) ≡ v ++ w
unfolding flatten
flatten-two v w = ap (λ r. v ++ r) (append-nil w)

-- what writes a line by its parts
pub ruleset line_steps = (flatten-labelled, flatten-one, to_z-of_z)

-- what writes a sign and a size
pub ruleset signed_steps = (decimal_s-plus, decimal_s-minus, flatten-two, append-nil)
