-- The stages of refusals 1 to 13, one after the other.
-- Assumes nothing.
use mathlib.Core.Path.{◌≡◌, sym, ◌∙◌, ap}
use mathlib.Core.Bool.{not}
use mathlib.Core.List.{List, [], ◌∷◌}
use mathlib.Core.Option.{Option, none, some}
use Rattle.std.specs.Prelude.{Result, Ok, Err, IfOk}
use Prim.Native.Nat.{ℕ}
use lib.ListN.{length}
use borrow.Author.Tests.{eq-eqb, ne_eqb}
use Rattle.lists.specs.Search.{or_else}
use Rattle.model.specs.History.{active}
use Rattle.journal.specs.Inputs.{Inputs}
use Rattle.journal.specs.declared.Reason.{Reason}
use Rattle.journal.specs.Reasons.{number_of, place_of}
use Rattle.journal.specs.Journal.{count, history, whole}
use Rattle.journal.specs.Refusals.{still_active, wrong_status}
use Rattle.journal.specs.Orders.{Refusal, open_order, active_order, known_order, status_order, check_order, decide}
use Rattle.journal.specs.Calls.{refused, accepted, answered}
use Rattle.journal.specs.Outcomes.{refusal_of, answer_of, refusal_in}
use Rattle.journal.proofs.OrdersLaws.{decide-yes, decide-no, decide-one, decide-turn, decide-over, decide-turn-none, decide-turn-some, or_else-none, or_else-assoc, try_each-ext}
use Rattle.journal.proofs.Answered.{accepted-only, refused-only}
use Rattle.fields.specs.declared.head.Journal.{Journal}
use Rattle.fields.specs.Answers.{Size, size_of}
use Rattle.fields.specs.Heads.{size}
use Rattle.arrays.specs.declared.pass.Passed.{Passed}
use Rattle.validate.specs.Verified.{tabled_order}
use Rattle.examine.specs.Stages.{unknown_in, admit_order, examined_order, ended_order, unsettled_order}

-- ---- what decides is the answer

module _ {A : Type 0} (d : Option Refusal) (x : A) where
  pub refused_by : (why : Reason) → some (refusal_of why) ≡ d → refused (number_of why) (place_of why) ≡ answered d x
  refused_by why q = rw (← q)

-- of what passed, the journal's size
pub sized_by : (d : Option Refusal) (x : Size) (r : Result Passed Reason) (j : Journal) → refusal_in r ≡ d → IfOk r (λ p. p.journal ≡ j) → size j ≡ x → answer_of (λ p. size p.journal) r ≡ answered d x
sized_by d x (Ok p) j q k e = rw (← q) (ap accepted (ap size k ∙ e))
sized_by d x (Err why) j q k e = rw (← q)

module _ (d : Inputs) where
  -- ---- 11

  active-whole : (n : ℕ) → n ≡ count d.journal → active_order (active (history d.journal n)) ≡ active_order (still_active d.journal)
  unfolding active_order still_active whole
  active-whole n c = try_each-ext 11 _ _ 1 1024 (λ k l u. ap (λ n. active (history d.journal n) k) c)

  -- ---- 1 to 11

  examined-parts : decide (examined_order d) ≡ or_else (decide (check_order d)) (decide (active_order (still_active d.journal)))
  unfolding examined_order
  examined-parts =
      decide-turn (check_order d) (active_order (still_active d.journal) ∷ []) ∙ ap (or_else (decide (check_order d))) (decide-one (active_order (still_active d.journal)))

  pub examined_early : (f : Refusal) → some f ≡ decide (check_order d) → some f ≡ decide (examined_order d)
  examined_early f q = rw (examined-parts, ← q)

  pub examined_late : (n : ℕ) (v : Option Refusal) → none ≡ decide (check_order d) → n ≡ count d.journal → v ≡ decide (active_order (active (history d.journal n))) → v ≡ decide (examined_order d)
  examined_late n v q c g = rw (examined-parts, ← q, ← active-whole n c) g

  -- ---- the same without 10

  unsettled-parts : decide (unsettled_order d) ≡ or_else (decide (open_order d.journal)) (or_else (decide (tabled_order d)) (decide (active_order (still_active d.journal))))
  unfolding unsettled_order ended_order tabled_order
  unsettled-parts = simp (decide-turn, decide-over, or_else-none, or_else-assoc)

  pub unsettled_head : (why : Reason) → refused (number_of why) (place_of why) ≡ answered (decide (open_order d.journal)) (size_of d.journal) → some (refusal_of why) ≡ decide (unsettled_order d)
  unsettled_head why q = rw (unsettled-parts, refused-only (number_of why) (place_of why) (decide (open_order d.journal)) (size_of d.journal) q)

  module _ (s : Size) (q : accepted s ≡ answered (decide (open_order d.journal)) (size_of d.journal)) where
    opens : decide (open_order d.journal) ≡ none
    opens = (accepted-only (decide (open_order d.journal)) s (size_of d.journal) q).0

    pub unsettled_early : (f : Refusal) → some f ≡ decide (tabled_order d) → some f ≡ decide (unsettled_order d)
    unsettled_early f g = rw (unsettled-parts, opens, ← g)

    pub unsettled_late : (n : ℕ) (v : Option Refusal) → none ≡ decide (tabled_order d) → n ≡ count d.journal → v ≡ decide (active_order (active (history d.journal n))) → v ≡ decide (unsettled_order d)
    unsettled_late n v r c g = rw (unsettled-parts, opens, ← r, ← active-whole n c) g

-- ---- 13, then 12

module _ (ends bad status : List ℕ) where
  pub admit_status : (length status ≡ 1025 → ⊥) → some (record { number = 13; place = 0 }) ≡ decide (admit_order ends bad status)
  unfolding admit_order status_order wrong_status
  admit_status h = sym (decide-turn-some (status_order status) _ (decide-yes 13 0 (ap not (ne_eqb (length status) 1025 h))))

  pub admit-known : (v : Option Refusal) → length status ≡ 1025 → v ≡ decide (known_order (unknown_in ends) bad) → v ≡ decide (admit_order ends bad status)
  unfolding admit_order status_order wrong_status
  admit-known v h q =
      q ∙ sym (decide-turn-none (status_order status) _ (decide-no 13 0 (ap not (eq-eqb (length status) 1025 h))) ∙ decide-one (known_order (unknown_in ends) bad))
