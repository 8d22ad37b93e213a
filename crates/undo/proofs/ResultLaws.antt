-- What take-back returns and leaves in each loan, by what refuses it, or by nothing.
-- Assumes nothing.
use mathlib.Core.Path.{◌≡◌, sym, ◌∙◌, ap, fun_ext}
use mathlib.Core.List.{List, [], ◌∷◌}
use mathlib.Core.Option.{none, some}
use Prim.Native.Nat.{ℕ}
use native.Mathlib.Omega.{arith}
use lib.Dec.{ltb}
use lib.ListN.{length, get_or}
use borrow.Author.Tests.{eqb-true, ltb-true, ltb-false}
use Rattle.std.proofs.lemmas.Bool.{not-false}
use Rattle.std.proofs.lemmas.List.{get_or_past}
use Rattle.lists.specs.Search.{or_else}
use Rattle.lists.specs.Tables.{coded}
use Rattle.lists.proofs.BoolLaws.{by_cases}
use Rattle.model.specs.History.{Amount}
use Rattle.model.specs.Undo.{is_source, surviving, undone}
use Rattle.journal.specs.Inputs.{Inputs}
use Rattle.journal.specs.declared.Reason.{Reason}
use Rattle.journal.specs.Reasons.{number_of, place_of}
use Rattle.journal.specs.Journal.{count, items, history, whole}
use Rattle.journal.specs.Refusals.{still_active, unknown, wrong_status}
use Rattle.journal.specs.Orders.{Refusal, in_turn, active_order, known_order, status_order, capacity_order, check_order, undo_order, decide}
use Rattle.journal.specs.Copy.{unchanged, copy_surviving, copy}
use Rattle.journal.specs.Results.{Answer, refused, answered, UndoTotals, statuses, result}
use Rattle.journal.specs.Calls as calls
use Rattle.journal.specs.Outcomes.{refusal_of}
use Rattle.journal.proofs.OrdersLaws.{or_else-none, or_else-assoc, decide-over, decide-turn, decide-one, decide-turns, try_each-ext}
use Rattle.journal.proofs.Clear.{decide-clear, turns-clear, try-clear}
use Rattle.journal.proofs.Answered.{refused-only}
use Rattle.fields.specs.Answers.{size_of}
use Rattle.arrays.specs.Arrays.{Ready, ends_of}
use Rattle.trace.proofs.Ends.{coded-committed, none-committed}
use Rattle.trace.proofs.UndoSet.{status-length, coded-surviving, coded-undone}
use Rattle.arrays.specs.declared.pass.Passed.{Passed}
use Rattle.arrays.specs.Ends.{codes}
use Rattle.examine.specs.Stages.{unknown_in, admit_order, examined_order}
use Rattle.deliver.specs.Delivery.{Deliverable, delivered}
use Rattle.undo.specs.Undoes.{Undoes}

-- n records passed, of m items; the end of each transaction; 1 to 11 refuse nothing
pub record Examined (d : Inputs) (n m : ℕ) (ends : List ℕ) : Type 0 where
  pub ready : Ready d.journal n
  pub counted : n ≡ count d.journal
  pub keys : m ≡ items d.journal
  pub ended : ends ≡ ends_of (history d.journal n)
  pub passed : decide (examined_order d) ≡ none

pub examined : (d : Inputs) (p : Passed) → d.journal ≡ p.journal.bytes.now → decide (examined_order d) ≡ none → Examined d p.journal.records p.journal.items (codes p.ends)
examined d p e h = record { ready = rw e p.ready; counted = rw e p.journal.opened.counted; keys = rw e p.journal.opened.keys; ended = rw e p.ended; passed = h }

module _ (d : Inputs) (bad status out : List ℕ) where
  -- a refusal writes nothing
  refuses : (r : Refusal) → decide (undo_order d bad status out (length (copy bad d.journal))) ≡ some r → Undoes d bad status out (refused r.number r.place) d.table status out
  unfolding calls.undo result
  refuses r e = (rw e, (rw e, (rw e, rw e)))

  order-parts : (z : ℕ) → decide (undo_order d bad status out z)
      ≡ or_else (decide (examined_order d)) (or_else (decide (status_order status)) (or_else (decide (known_order (unknown d.journal) bad)) (decide (capacity_order out z))))
  unfolding undo_order examined_order
  order-parts z =
      decide-turns (check_order d ∷ active_order (still_active d.journal) ∷ []) (status_order status ∷ known_order (unknown d.journal) bad ∷ capacity_order out z ∷ [])
      ∙ ap (or_else (decide (in_turn (check_order d ∷ active_order (still_active d.journal) ∷ [])))) (simp (decide-turn, decide-over, or_else-none))

  -- 1 to 11
  pub result-head : (why : Reason) → refused (number_of why) (place_of why) ≡ answered (decide (examined_order d)) (size_of d.journal) → Undoes d bad status out (refused (number_of why) (place_of why)) d.table status out
  result-head why q =
      let y = refused-only (number_of why) (place_of why) (decide (examined_order d)) _ q in
      refuses (refusal_of why) (order-parts (length (copy bad d.journal)) ∙ rw y)

  module _ (n m : ℕ) (ends : List ℕ) (x : Examined d n m ends) where
    known_same : known_order (unknown d.journal) bad ≡ known_order (unknown_in ends) bad
    unfolding known_order unknown_in unknown whole
    known_same = try_each-ext 12 _ _ 0 (length bad) (λ k l u. rw (coded-committed d.journal n x.ready ends x.ended (get_or bad k 0), ← x.counted))

    decides : (z : ℕ) → decide (undo_order d bad status out z) ≡ or_else (decide (admit_order ends bad status)) (decide (capacity_order out z))
    unfolding admit_order
    decides z =
        order-parts z ∙ rw (x.passed, known_same)
        (sym (rw (decide-turn (status_order status) (known_order (unknown_in ends) bad ∷ []), decide-one (known_order (unknown_in ends) bad)) (or_else-assoc (decide (status_order status)) (decide (known_order (unknown_in ends) bad)) (decide (capacity_order out z)))))

    -- 13 and 12
    pub result-admit : (why : Reason) → some (refusal_of why) ≡ decide (admit_order ends bad status) → Undoes d bad status out (refused (number_of why) (place_of why)) d.table status out
    result-admit why q = refuses (refusal_of why) (decides (length (copy bad d.journal)) ∙ rw (← q))

    module _ (a : decide (admit_order ends bad status) ≡ none) where
      status-right : length status ≡ 1025
      unfolding admit_order status_order wrong_status
      status-right = let (c13, rest) = turns-clear _ (decide-clear _ a) in eqb-true _ _ (not-false _ (try-clear 13 _ _ c13))

      -- what the delivery of the fates is given
      pub result-given : Deliverable d.journal n m ends status
      result-given = record { ready = x.ready; counted = x.counted; keys = x.keys; ended = x.ended; status_length = status-right }

      module _ (fates : List ℕ) (f : fates ≡ statuses bad (history d.journal n)) where
        surviving-is : coded 1 fates ≡ surviving is_source bad (history d.journal n)
        surviving-is = coded-surviving d.journal n x.ready bad fates f

        undone-is : coded 2 fates ≡ undone is_source bad (history d.journal n)
        unfolding coded
        undone-is =
            fun_ext (λ s. by_cases (ltb s 1025)
            (λ q. coded-undone d.journal n x.ready bad fates f s (ltb-true s 1025 q))
            (λ q. let l = ltb-false s 1025 q in
            rw (get_or_past fates s 0 (omega (arith, status-length (history d.journal n) bad fates f)), none-committed d.journal n x.ready s (λ u. omega arith))))

        same : delivered d fates status out ≡ calls.undo d bad status out
        unfolding delivered calls.undo copy whole
        same =
            rw (surviving-is, undone-is, x.counted, decides (length (copy_surviving unchanged (surviving is_source bad (history d.journal (count d.journal))) d.journal)), a)

        -- it delivers take-back's result
        pub result-delivered : (r : Answer UndoTotals) (t' : List Amount) (status' out' : List ℕ)
            → (r ≡ (delivered d fates status out).answer) × ((t' ≡ (delivered d fates status out).table) × ((status' ≡ (delivered d fates status out).status) × (out' ≡ (delivered d fates status out).out)))
            → Undoes d bad status out r t' status' out'
        result-delivered r t' status' out' q = rw same at q
