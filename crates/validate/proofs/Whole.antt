-- The stages of check, one after the other.
-- Assumes nothing.
use mathlib.Core.Path.{◌≡◌, ◌∙◌}
use mathlib.Core.Bool.{cond, not}
use mathlib.Core.List.{[], ◌∷◌}
use mathlib.Core.Option.{Option, none, some}
use Prim.Native.Nat.{ℕ}
use native.Mathlib.Omega.{arith}
use lib.Dec.{eqb}
use lib.ListN.{length}
use borrow.Author.Tests.{eq-eqb, ne_eqb}
use Rattle.lists.specs.Search.{or_else}
use Rattle.lists.specs.Tables.{count_if}
use Rattle.model.specs.History.{active}
use Rattle.journal.specs.Inputs.{Inputs}
use Rattle.journal.specs.declared.Reason.{Reason}
use Rattle.journal.specs.Reasons.{number_of, place_of}
use Rattle.journal.specs.Journal.{count, items, history, whole}
use Rattle.journal.specs.Refusals.{wrong_table}
use Rattle.journal.specs.Orders.{Refusal, decide, open_order, table_order, records_order, settled_order, check_order}
use Rattle.journal.specs.Calls.{refused, accepted, answered, check}
use Rattle.journal.specs.Outcomes.{refusal_of}
use Rattle.journal.proofs.Checked.{Sound, open-clear, records-clear, clear-checks}
use Rattle.journal.proofs.Clear.{clear-decide, decide-clear}
use Rattle.journal.proofs.OrdersLaws.{decide-try, decide-turn, decide-one, decide-over, or_else-none, or_else-assoc}
use Rattle.journal.proofs.Answered.{accepted-only, refused-only}
use Rattle.fields.specs.Answers.{Size, size_of, Opened}
use Rattle.fields.proofs.HeadLaws.{head_opened}
use Rattle.arrays.specs.Arrays.{Ready}
use Rattle.scan.proofs.Pass.{ready_at}
use Rattle.validate.specs.Verified.{tabled_order, verified_order}

module _ (d : Inputs) where
  -- ---- after the head: the table's length, the records, rule 10

  module _ (m : ℕ) (k : m ≡ items d.journal) where
    tabled-parts : decide (tabled_order d) ≡ or_else (cond (not (eqb (length d.table) m)) (some (record { number = 3; place = 0 })) none) (decide (records_order d.journal))
    unfolding tabled_order table_order wrong_table
    tabled-parts =
        decide-turn (table_order d) (records_order d.journal ∷ [])
        ∙ rw (decide-try 3 0 (wrong_table d.journal d.table), decide-one (records_order d.journal), k)

    pub table_refused : (length d.table ≡ m → ⊥) → some (record { number = 3; place = 0 }) ≡ decide (tabled_order d)
    table_refused z = rw (tabled-parts, ne_eqb (length d.table) m z)

    pub records_decide : length d.table ≡ m → (v : Option Refusal) → v ≡ decide (records_order d.journal) → v ≡ decide (tabled_order d)
    records_decide z v q = rw (tabled-parts, eq-eqb (length d.table) m z) q

  verified-parts : decide (verified_order d) ≡ or_else (decide (tabled_order d)) (decide (settled_order d))
  unfolding verified_order tabled_order
  verified-parts = simp (decide-turn, decide-over, or_else-none, or_else-assoc)

  pub tabled_refused : (f : Refusal) → some f ≡ decide (tabled_order d) → some f ≡ decide (verified_order d)
  tabled_refused f q = rw (verified-parts, ← q)

  pub final_decides : (v : Option Refusal) → none ≡ decide (tabled_order d) → v ≡ decide (settled_order d) → v ≡ decide (verified_order d)
  final_decides v q g = rw (verified-parts, ← q) g

  -- ---- check

  check-parts : decide (check_order d) ≡ or_else (decide (open_order d.journal)) (decide (verified_order d))
  unfolding check_order verified_order
  check-parts = decide-turn (open_order d.journal) (table_order d ∷ records_order d.journal ∷ settled_order d ∷ [])

  -- the head is refused: so is the journal
  pub head_refused : (why : Reason) → refused (number_of why) (place_of why) ≡ answered (decide (open_order d.journal)) (size_of d.journal) → some (refusal_of why) ≡ decide (check_order d)
  head_refused why q =
      let z = refused-only (number_of why) (place_of why) (decide (open_order d.journal)) (size_of d.journal) q in
      rw (check-parts, z)

  -- the rest decides
  pub verified_decides : (s : Size) (v : Option Refusal) → accepted s ≡ answered (decide (open_order d.journal)) (size_of d.journal) → v ≡ decide (verified_order d) → v ≡ decide (check_order d)
  verified_decides s v q g =
      let z = (accepted-only (decide (open_order d.journal)) s (size_of d.journal) q).0 in
      rw (check-parts, z) g

  pub check_refused : (why : Reason) → some (refusal_of why) ≡ decide (check_order d) → refused (number_of why) (place_of why) ≡ check d
  unfolding check
  check_refused why q = rw (← q)

  pub check_accepted : (n k : ℕ) → none ≡ decide (check_order d) → n ≡ count d.journal → k ≡ count_if (active (history d.journal n)) 1 1024 → accepted k ≡ check d
  unfolding check whole
  check_accepted n k q c g = rw (← q, g, c)

  -- ---- a journal that passed: what the stages after check lean on

  module _ (e : decide (check_order d) ≡ none) where
    sound : Sound d.journal
    sound = (clear-checks d (decide-clear (check_order d) e)).sound

    checked-opened : Opened d.journal (count d.journal) (items d.journal)
    checked-opened = head_opened d.journal (clear-decide (open-clear d.journal sound.long sound.head sound.full))

    pub checked-ready : Ready d.journal (count d.journal)
    unfolding records_order
    checked-ready = ready_at d.journal (count d.journal) (items d.journal) (count d.journal) checked-opened (clear-decide (records-clear d.journal sound.right)) (omega arith)
