-- What append answers and leaves, by what its order decides.
-- Assumes nothing.
use mathlib.Core.Path.{◌≡◌, refl, ◌∙◌}
use mathlib.Core.List.{List}
use mathlib.Core.Option.{none, some}
use Prim.Native.Nat.{ℕ, suc, ◌+◌}
use native.Mathlib.Omega.{arith}
use mir.Syntax.{w32}
use mir.Val.{to_z, of_z, SFits}
use mir.ValLaws.{to_z-of_z}
use Rattle.std.specs.Prelude.{Ok, Err}
use Rattle.format.specs.declared.Record.{Record}
use Rattle.model.specs.History.{Amount}
use Rattle.journal.specs.Inputs.{Inputs}
use Rattle.journal.specs.declared.Reason.{Reason}
use Rattle.journal.specs.Reasons.{number_of, place_of}
use Rattle.journal.specs.Journal.{count, op_of, history, whole}
use Rattle.journal.specs.Orders.{decide, append_order}
use Rattle.journal.specs.Calls.{refused, accepted, answered, new_record, extended, applied_table, raised, append}
use Rattle.journal.proofs.Clear.{decide-clear, clear-decide}
use Rattle.journal.proofs.Checked.{checks-clear}
use Rattle.journal.proofs.Unrefused.{room, count-bound, table-length}
use Rattle.journal.proofs.Appending.{clear-appended}
use Rattle.validate.proofs.Whole.{checked-ready}
use Rattle.counts.specs.declared.Counts.{Counts}
use Rattle.counts.specs.Answers.{record_counts_of}
use Rattle.extend.specs.Entering.{Admitted}
use Rattle.entry.proofs.Agreeing.{agreed-few}
use Rattle.append.specs.Answers.{Appends}
use Rattle.journal.proofs.Answered.{accepted-only, refused-only}

-- ---- the new record

-- an amount read back from its bits
pub from_bits : (t : List Amount) (kind s x : ℕ) (a : Amount) (r : Record) → SFits w32 a → r ≡ new_record t kind s x (to_z w32 (of_z w32 a)) → r ≡ new_record t kind s x a
from_bits t kind s x a r f e = e ∙ rw (to_z-of_z w32 a f)

-- ---- refused, or done

module _ (d : Inputs) (kind s x : ℕ) (a : Amount) (c : Counts) (r : Record) (e : r ≡ new_record d.table kind s x a) where
  pub append-refused : (why : Reason) → refused (number_of why) (place_of why) ≡ answered (decide (append_order d (record_counts_of c) r)) (count d.journal)
      → Appends c d kind s x a (Err why) c d.journal d.table
  unfolding append
  append-refused why q =
      let z = refused-only _ _ (decide (append_order d (record_counts_of c) r)) _ q in
      let y : decide (append_order d (record_counts_of c) (new_record d.table kind s x a)) ≡ some (record { number = number_of why; place = place_of why }) = rw (← e) z in
      record { answer = rw y; counts = rw y; journal = rw y; table = rw y }

  module _ (n : ℕ) (q : accepted n ≡ answered (decide (append_order d (record_counts_of c) r)) (count d.journal)) where
    passes : (decide (append_order d (record_counts_of c) r) ≡ none) × (n ≡ count d.journal)
    passes = accepted-only (decide (append_order d (record_counts_of c) r)) n (count d.journal) q

    pub append-admitted : Admitted d.journal d.table c n r
    append-admitted =
        let (k, w, f) = clear-appended d (record_counts_of c) r (decide-clear _ passes.0) in
        let m = room d.journal f.room in
        rw passes.1
        (record {
          ready = checked-ready d (clear-decide (checks-clear d k));
          counted = refl;
          table = table-length d.journal d.table k.table;
          formed = f.formed;
          small = m.0;
          room = m.1;
          few = agreed-few d.journal c (count-bound d.journal k.sound.head) w;
        })

    pub append-done : (c' : Counts) (b' : List ℕ) (t' : List Amount) → record_counts_of c' ≡ raised r.kind (record_counts_of c) → b' ≡ extended d.journal r → t' ≡ applied_table (history d.journal n) (op_of (n + 1) r) d.table
        → Appends c d kind s x a (Ok tt) c' b' t'
    unfolding append whole
    append-done c' b' t' u v w =
        let z : decide (append_order d (record_counts_of c) (new_record d.table kind s x a)) ≡ none = rw (← e) passes.0 in
        let i : suc (count d.journal) ≡ n + 1 = omega (arith, passes.1) in
        record {
          answer = rw z;
          counts = rw z (u ∙ rw e);
          journal = rw z (v ∙ rw e);
          table = rw (z, i, ← passes.1) (w ∙ rw e);
        }
