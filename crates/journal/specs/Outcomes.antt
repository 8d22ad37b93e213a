-- What a result that the code returns says: document 01's number and place of a refusal.
-- Assumes nothing.
use Rattle.std.specs.Prelude.{Result, Ok, Err}
use Rattle.std.proofs.Math.Option.{Option, none, some}
use Rattle.journal.specs.declared.Reason.{Reason}
use Rattle.journal.specs.Reasons.{number_of, place_of}
use Rattle.journal.specs.Orders.{Refusal}
use Rattle.journal.specs.Results.{Answer, accepted, refused}

-- a reason as document 01 writes it
abbrev pub refusal_of : Reason → Refusal
refusal_of why = record { number = number_of why; place = place_of why }

module _ {A : Type 0} where
  -- the answer of a call: f says what an accepted call answers
  abbrev pub answer_of : {B : Type 0} → (A → B) → Result A Reason → Answer B
  answer_of f (Ok x) = accepted (f x)
  answer_of f (Err why) = refused (number_of why) (place_of why)

  -- the refusal in a result, if there is one
  abbrev pub refusal_in : Result A Reason → Option Refusal
  refusal_in (Ok x) = none
  refusal_in (Err why) = some (refusal_of why)
