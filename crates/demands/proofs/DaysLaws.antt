-- What it says that a call is accepted or refused, and that a journal and table pass.
-- Assumes nothing.
use mathlib.Core.Path.{◌≡◌, refl}
use mathlib.Core.Bool.{true, false}
use mathlib.Core.Option.{Option, none, some}
use Rattle.lists.proofs.BoolLaws.{clash}
use Rattle.journal.specs.Inputs.{Inputs}
use Rattle.journal.specs.Orders.{Refusal, check_order}
use Rattle.journal.specs.Calls.{answered, loan_after, check}
use Rattle.journal.proofs.Clear.{decide-clear, clear-decide}
use Rattle.journal.proofs.Checked.{Checks, checks-clear, clear-checks}
use Rattle.demands.specs.Days.{accepts, Pass}

pub answered-none : {A : Type 0} (d : Option Refusal) (a : A) → accepts (answered d a) ≡ true → d ≡ none
answered-none none a e = refl
answered-none (some r) a e = clash e refl

pub answered-some : {A B : Type 0} (d : Option Refusal) (a : A) (old new : B) → accepts (answered d a) ≡ false → loan_after d old new ≡ old
answered-some none a old new e = clash refl e
answered-some (some r) a old new e = refl

pub checks-pass : (d : Inputs) → Checks d → Pass d
unfolding check
checks-pass d k = rw (clear-decide (checks-clear d k))

pub pass-checks : (d : Inputs) → Pass d → Checks d
unfolding check
pass-checks d e = clear-checks d (decide-clear (check_order d) (answered-none _ _ e))
