-- A refusal is read back as it was, since no reason has number 0; and it is no acceptance.
-- Assumes nothing.
use mathlib.Core.Path.{◌≡◌, refl}
use Prim.Native.Nat.{ℕ}
use native.Mathlib.Omega.{arith}
use Rattle.journal.specs.declared.Reason.{Reason}
use Rattle.journal.specs.declared.Reason.TheVariants.{Truncated, Header, TableLength, Malformed, Chain, Closed, Conflict, Blind, BeforeImage, FinalState, Active, Unknown, StatusLength, Capacity, Counts}
use Rattle.journal.specs.Reasons.{number_of}
use Rattle.journal.specs.Calls.{refused, accepted}
use Rattle.c_answers.specs.Results.{answer_in}

pub refused-in : {A : Type 0} (f : ℕ → A) (why : Reason) (p : ℕ) → answer_in f (number_of why) p ≡ refused (number_of why) p
refused-in f Truncated p = refl
refused-in f Header p = refl
refused-in f TableLength p = refl
refused-in f (Malformed i) p = refl
refused-in f (Chain i) p = refl
refused-in f (Closed i) p = refl
refused-in f (Conflict i) p = refl
refused-in f (Blind i) p = refl
refused-in f (BeforeImage i) p = refl
refused-in f (FinalState x) p = refl
refused-in f (Active s) p = refl
refused-in f (Unknown k) p = refl
refused-in f StatusLength p = refl
refused-in f Capacity p = refl
refused-in f Counts p = refl

pub never-accepted : {A B : Type 0} {n p : ℕ} {v : B} → refused n p ≡ accepted v → A
never-accepted e = let z : ◌≡◌ {A = ℕ} 0 1 = cc in absurd (omega arith)
