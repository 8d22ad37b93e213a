-- Demand 3, the cut list: one single statement about a whole sequence of take-back calls.
-- Document 01, "A cut list". proofs/Incremental.antt proves it. Assumes nothing.
use Rattle.std.specs.Prelude.{◌≡◌, Bool, true, false, cond, not, ◌↔◌, List, [], ◌∷◌, ◌++◌, ℕ, suc, ◌+◌, ◌≤◌, eqb, length, get_or}
use Rattle.lists.specs.Search.{any, keep, member}
use Rattle.format.specs.Limits.{status_bytes}
use Rattle.journal.specs.Inputs.{Inputs, handed_on}
use Rattle.journal.specs.Copy.{copy}
use Rattle.journal.specs.Calls.{Answer, refused, accepted, UndoTotals, UndoResult, undo}
use Rattle.demands.specs.Days.{accepts, Day}
use Rattle.demands.specs.Undoing.{Accepting, copy_in, left_by, is_undone}

-- what a call of the sequence brings
pub record UndoCall : Type 0 where
  pub bad : List ℕ
  pub status : List ℕ
  pub out : List ℕ

-- an accepted call: its list as before striking, its marks afterwards, its counts
pub record AcceptedCall : Type 0 where
  pub given : List ℕ
  pub status : List ℕ
  pub counts : UndoTotals

-- what the next call gets, and the accepted calls until now, newest first
pub record UndoState : Type 0 where
  pub inputs : Inputs
  pub calls : List AcceptedCall

abbrev pub initial_state : Inputs → UndoState
initial_state d = record { inputs = d; calls = [] }

-- the call marked the sale 2
abbrev pub undone_by : ℕ → AcceptedCall → Bool
undone_by s d = eqb (get_or d.status s 0) 2

-- names that earlier accepted calls took back are struck
unfoldable pub remaining : List AcceptedCall → List ℕ → List ℕ
remaining ds bad = keep (λ s. not (any (undone_by s) ds)) bad

-- the call on what the last accepted one left
abbrev pub undo_on : UndoState → UndoCall → UndoResult
undo_on c k = undo c.inputs (remaining c.calls k.bad) k.status k.out

-- an accepted call hands on its copy, exactly its bytes, and its table; a refused one what it got
abbrev pub undo_state_after : UndoState → UndoCall → UndoResult → Answer UndoTotals → UndoState
undo_state_after c k r (refused n p) = record { inputs = handed_on c.inputs.journal r.table c.inputs; calls = c.calls }
undo_state_after c k r (accepted n) =
    record { inputs = left_by c.inputs r n; calls = record { given = k.bad; status = r.status; counts = n } ∷ c.calls }

unfoldable pub run_undos : UndoState → List UndoCall → UndoState
run_undos c [] = c
run_undos c (k ∷ ks) = run_undos (undo_state_after c k (undo_on c k) (undo_on c k).answer) ks

-- each number once
unfoldable pub once : List ℕ → List ℕ
once [] = []
once (s ∷ l) = let m : List ℕ = once l in cond (member s m) m (s ∷ m)

-- no number twice
pub data Distinct : List ℕ → Type 0 where
  distinct_none : Distinct []
  distinct_more : {s : ℕ} {l : List ℕ} → member s l ≡ false → Distinct l → Distinct (s ∷ l)

abbrev pub OnceDistinct : Type 0
OnceDistinct = (l : List ℕ) → Distinct (once l)

-- the accepted lists joined, as before striking, the newest call's first
unfoldable pub joined : List AcceptedCall → List ℕ
joined [] = []
joined (d ∷ ds) = d.given ++ joined ds

-- a list that has just the numbers of the accepted lists, in any order: `once (joined ds)` is one
abbrev pub Joins : List ℕ → List AcceptedCall → Type 0
Joins m ds = (s : ℕ) → member s m ≡ member s (joined ds)

abbrev pub OnceJoins : Type 0
OnceJoins = (ds : List AcceptedCall) → Joins (once (joined ds)) ds

-- how many accepted calls marked the sale 2, and counts added up
unfoldable pub times_undone : ℕ → List AcceptedCall → ℕ
times_undone s [] = 0
times_undone s (d ∷ ds) = cond (undone_by s d) (suc (times_undone s ds)) (times_undone s ds)

unfoldable pub sum_over : (UndoTotals → ℕ) → List AcceptedCall → ℕ
sum_over f [] = 0
sum_over f (d ∷ ds) = f d.counts + sum_over f ds

-- the sequence that ended with the accepted call d, beside the one call r, which answers n
pub record SameAsOne (c : UndoState) (d : AcceptedCall) (r : UndoResult) (n : UndoTotals) : Type 0 where
  pub answer : r.answer ≡ accepted n
  -- sales marked 2 by the accepted calls are those that the one call marks 2, each by just one of them
  pub undone_once : (s : ℕ) → times_undone s c.calls ≡ cond (is_undone r s) 1 0
  pub table : c.inputs.table ≡ r.table
  pub copy : c.inputs.journal ≡ copy_in r n
  pub surviving : d.counts.surviving ≡ n.surviving
  pub undone : sum_over (λ k. k.undone) c.calls ≡ n.undone
  pub aborted : sum_over (λ k. k.aborted) c.calls ≡ n.aborted

-- what holds after any sequence of calls
pub record Incremental (d : Inputs) (c : UndoState) : Type 0 where
  -- the next call, whatever it brings, is accepted exactly as demand 3 says: so is each call of a sequence, since those before it
  -- are one
  pub acceptance : (k : UndoCall) → (accepts (undo_on c k).answer ≡ true)
      ↔ Accepting c.inputs.journal (remaining c.calls k.bad) k.status k.out
  -- none accepted: journal and table unchanged
  pub none_accepted : c.calls ≡ [] → c.inputs ≡ d
  -- otherwise it is the one call with the accepted lists joined, marks of 1,025 bytes and paper that holds the copy
  pub one : (k : AcceptedCall) (ks : List AcceptedCall) → c.calls ≡ k ∷ ks → (m status out : List ℕ) → Joins m c.calls
      → length status ≡ status_bytes
      → length (copy m d.journal) ≤ length out → (n : UndoTotals) × SameAsOne c k (undo d m status out) n

-- The cut list, for any sequence of calls, accepted and refused, from a journal and table that pass with every sale finished.
abbrev pub IncrementalUndo : Type 0
IncrementalUndo = (d : Inputs) (calls : List UndoCall) → Day d → Incremental d (run_undos (initial_state d) calls)
