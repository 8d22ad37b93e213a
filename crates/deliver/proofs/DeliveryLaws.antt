-- What delivery returns and leaves in each loan: refused by 14, or by nothing.
-- Assumes nothing.
use mathlib.Core.Path.{◌≡◌, refl, ◌∙◌, ap}
use mathlib.Core.Bool.{cond}
use mathlib.Core.List.{List}
use mathlib.Core.Option.{none}
use Prim.Native.Nat.{ℕ, ◌+◌, ◌*◌, ◌≤◌, ◌<◌}
use native.Mathlib.Omega.{arith}
use lib.Dec.{eqb}
use lib.ListN.{length, get_or}
use borrow.Author.Tests.{lt-ltb, le-ltb}
use Rattle.lists.specs.Tables.{count_if, store, coded}
use Rattle.lists.proofs.TablesLaws.{filled, count_if-ext, store-front}
use Rattle.model.specs.History.{Amount, aborted}
use Rattle.journal.specs.Inputs.{Inputs}
use Rattle.journal.specs.Journal.{history, whole}
use Rattle.journal.specs.Refusals.{too_short}
use Rattle.journal.specs.Orders.{try, capacity_order, decide}
use Rattle.journal.specs.Copy.{unchanged, copy_surviving}
use Rattle.journal.specs.Results as results
use Rattle.journal.specs.Results.{Answer, refused, accepted, status_of, status_vector, totals, result}
use Rattle.journal.proofs.OrdersLaws.{decide-yes, decide-no}
use Rattle.trace.specs.declared.Fate.{Fate}
use Rattle.trace.specs.declared.Fate.TheVariants.{Neither, Surviving, Undone}
use Rattle.trace.specs.Codes.{fate_code, fate_codes}
use Rattle.trace.proofs.CodesLaws.{fate-at, length_codes}
use Rattle.trace.proofs.Ends.{coded-aborted}
use Rattle.repair.specs.Copying.{Ranked, copy_with}
use Rattle.repair.proofs.Repaired.{copy-surviving, copy-size}
use Rattle.replay.specs.Replaying.{left_after}
use Rattle.replay.proofs.ReplayLaws.{table-surviving}
use Rattle.deliver.specs.declared.UndoTotals.{UndoTotals}
use Rattle.deliver.specs.Delivery.{delivered, Deliverable}
use Rattle.deliver.specs.Answers.{totals_of}

-- the codes of fates are statuses
pub fates-status : (fates : List Fate) → length fates ≡ 1025 → fate_codes fates ≡ status_vector (coded 2 (fate_codes fates)) (coded 1 (fate_codes fates))
unfolding status_vector status_of coded
fates-status fates h =
    filled (status_of (coded 2 (fate_codes fates)) (coded 1 (fate_codes fates))) 1025 (fate_codes fates) 0 (length_codes fates ∙ h)
    (λ s l. rw (fate-at fates s) (each_code (get_or fates s Neither)))
  where
    each_code : (f : Fate) → fate_code f ≡ cond (eqb (fate_code f) 2) 2 (cond (eqb (fate_code f) 1) 1 0)
    each_code Neither = refl
    each_code Surviving = refl
    each_code Undone = refl

module _ (d : Inputs) (fates status out : List ℕ) where
  -- the answer, and the table, the statuses and the output buffer afterwards
  abbrev pub Delivers : Answer results.UndoTotals → List Amount → List ℕ → List ℕ → Type 0
  Delivers a t' status' out' =
      (a ≡ (delivered d fates status out).answer) × ((t' ≡ (delivered d fates status out).table) × ((status' ≡ (delivered d fates status out).status) × (out' ≡ (delivered d fates status out).out)))

  module _ (n m : ℕ) (ends : List ℕ) (x : Deliverable d.journal n m ends status) (ranks : List ℕ) (r : Ranked d.journal fates n ranks) (k size : ℕ) (c : k ≡ get_or ranks n 0) (s : size ≡ 20 * (k + 1)) where
    size_is : length (copy_surviving unchanged (coded 1 fates) d.journal) ≡ size
    size_is = copy-size d.journal n x.ready x.counted fates ranks r ∙ rw (s, c)

    -- 14 writes nothing
    pub delivers-capacity : length out < size → Delivers (refused 14 0) d.table status out
    unfolding delivered result capacity_order too_short
    delivers-capacity h =
        let e = decide-yes 14 0 (lt-ltb (length out) size h) in
        rw (size_is, e) (refl, (refl, (refl, refl)))

    module _ (h : size ≤ length out) where
      counted : (u : UndoTotals) → u.surviving ≡ count_if (coded 1 fates) 1 1024 → u.undone ≡ count_if (coded 2 fates) 1 1024 → u.aborted ≡ count_if (coded 2 ends) 1 1024 → u.bytes ≡ size
          → totals_of u ≡ totals (coded 2 fates) (coded 1 fates) d.journal (length (copy_surviving unchanged (coded 1 fates) d.journal))
      unfolding totals whole
      counted u p q o g =
          let w : count_if (coded 2 ends) 1 1024 ≡ count_if (aborted (history d.journal n)) 1 1024 =
          count_if-ext _ _ 1 1 1024 (λ z l. coded-aborted d.journal n x.ready ends x.ended (1 + z) (omega arith)) in
          rw (p, q, o, g, w, size_is, x.counted)

      -- the counts, the table left, the statuses and the copy
      pub delivers-done : fates ≡ status_vector (coded 2 fates) (coded 1 fates) → (u : UndoTotals) (t' : List Amount) (status' out' : List ℕ)
          → u.surviving ≡ count_if (coded 1 fates) 1 1024 → u.undone ≡ count_if (coded 2 fates) 1 1024 → u.aborted ≡ count_if (coded 2 ends) 1 1024 → u.bytes ≡ size
          → t' ≡ left_after (coded 1 fates) (history d.journal n) d.table → status' ≡ fates → out' ≡ store 0 (copy_with d.journal fates ranks n m) out
          → Delivers (accepted (totals_of u)) t' status' out'
      unfolding delivered result capacity_order too_short
      delivers-done f u t' status' out' p q o g l i w =
          let e : decide (try 14 0 (too_short out (length (copy_surviving unchanged (coded 1 fates) d.journal)))) ≡ none =
          rw size_is (decide-no 14 0 (le-ltb (length out) size h)) in
          rw e (
            ap accepted (counted u p q o g),
            (
              l ∙ table-surviving d.journal n x.counted fates d.table,
              (
                i ∙ f,
                w ∙ rw (copy-surviving d.journal n x.ready x.counted fates ranks r m x.keys) (store-front (copy_surviving unchanged (coded 1 fates) d.journal) out),
              ),
            ),
          )
