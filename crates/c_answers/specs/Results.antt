-- What the C interface hands over of an answer: the refusal's number, 0 if the call is accepted, and the place or the value
-- answered; and record counts as it has them.
-- Assumes nothing.
use Rattle.std.specs.Prelude.{List, [], ◌∷◌, ℕ, zero, suc, get_or}
use Rattle.journal.specs.Refusals.{RecordCounts}
use Rattle.journal.specs.Calls.{Answer, refused, accepted}

-- the result: the refusal's number, 0 if accepted
abbrev pub result_of : {A : Type 0} → Answer A → ℕ
result_of (refused n p) = n
result_of (accepted a) = 0

-- what `answer` gets: the refusal's place, or what f makes of the value
abbrev pub answer_with : {A : Type 0} → (A → ℕ) → Answer A → ℕ
answer_with f (refused n p) = p
answer_with f (accepted a) = f a

-- a loan that is written only where the call is accepted, with what f makes of the value
abbrev pub loan_with : {A B : Type 0} → (A → B) → B → Answer A → B
loan_with f old (refused n p) = old
loan_with f old (accepted a) = f a

-- the answer read back from the result and from what `answer` got, of which f makes the value
abbrev pub answer_in : {A : Type 0} → (ℕ → A) → ℕ → ℕ → Answer A
answer_in f zero v = accepted (f v)
answer_in f (suc n) v = refused (suc n) v

-- ---- record counts as four numbers: reads, writes, commits, aborts

abbrev pub record_counts_in : List ℕ → RecordCounts
record_counts_in l = record { reads = get_or l 0 0; writes = get_or l 1 0; commits = get_or l 2 0; aborts = get_or l 3 0 }

abbrev pub count_list : RecordCounts → List ℕ
count_list c = c.reads ∷ c.writes ∷ c.commits ∷ c.aborts ∷ []
