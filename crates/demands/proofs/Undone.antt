-- What the order of take-back and its result say of an accepted call.
-- Assumes nothing.
use mathlib.Core.Path.{◌≡◌, refl, sym, ◌∙◌}
use mathlib.Core.Bool.{true, false, false≢true}
use mathlib.Core.List.{List, ◌++◌}
use mathlib.Core.Option.{none}
use Prim.Native.Nat.{ℕ, zero, suc, ◌<◌, ◌≤◌}
use native.Mathlib.Omega.{arith}
use lib.Dec.{eqb}
use lib.ListN.{length, get_or, drop}
use lib.Seq.{take_at, drop_at}
use borrow.Author.Tests.{eqb-true, eq-eqb, ltb-false, le-ltb, not-false}
use Rattle.std.proofs.lemmas.Bool.{and_from, not_from_false}
use Rattle.lists.specs.Search.{any, member}
use Rattle.lists.proofs.BoolLaws.{by_cases, or_cases, clash}
use Rattle.lists.proofs.SearchLaws.{any-mono}
use Rattle.lists.proofs.MemberLaws.{member-at, member-place}
use Rattle.format.specs.Layout.{record_at}
use Rattle.model.specs.History.{tx_of, of_tx, commit_of, active, committed, ended}
use Rattle.model.proofs.Ends.{commit-of}
use Rattle.journal.specs.Inputs.{Inputs}
use Rattle.journal.specs.Journal.{count, items, op_of, history, whole}
use Rattle.journal.specs.Refusals.{still_active, unknown, wrong_status, too_short}
use Rattle.journal.specs.Orders.{active_order, status_order, known_order, capacity_order, decide, undo_order}
use Rattle.journal.specs.Copy.{copy}
use Rattle.journal.specs.Results.{totals, result}
use Rattle.journal.specs.Calls.{accepted, UndoTotals, statuses, table_left, undo_totals, undo}
use Rattle.journal.proofs.Clear.{Clear, clear-turns, turns-clear, try-clear, tried-clear, decide-clear, clear-decide}
use Rattle.journal.proofs.Answered.{accepted-only}
use Rattle.journal.proofs.Records.{tx_of-op_of}
use Rattle.journal.proofs.Checked.{active-all, known-all, status-all, capacity-all, Sound, Checks, checks-clear, clear-checks}
use Rattle.journal.proofs.Passing.{malformed-tx}
use Rattle.demands.specs.Days.{accepts, Finished, PassFinished, Day}
use Rattle.demands.proofs.DaysLaws.{answered-none, checks-pass}
use Rattle.demands.specs.Undoing.{Accepting, Accepted, copy_in}

-- ---- every transaction finished

pub finished-inactive : (b : List ℕ) → Finished b → (s : ℕ) → active (whole b) s ≡ false
finished-inactive b f s = by_cases (any (of_tx s) (whole b)) (λ e. rw (e, f s e)) (λ e. rw e)

-- ---- transactions of a journal that passes are numbered from 1 to 1,024

history-range : (b : List ℕ) → Sound b → (s n : ℕ) → n ≤ count b → any (of_tx s) (history b n) ≡ true → (1 ≤ s) × (s ≤ 1024)
unfolding history
history-range b k s zero h e = absurd (false≢true e)
history-range b k s (suc n) h e =
    or_cases (eqb s (tx_of (op_of (suc n) (record_at b (suc n))))) _ e
    (λ q. rw (eqb-true s _ q ∙ tx_of-op_of (suc n) (record_at b (suc n))) (malformed-tx (items b) (record_at b (suc n)) (k.right n (omega arith)).formed))
    (λ q. history-range b k s n (omega arith) q)

pub tx-range : (b : List ℕ) → Sound b → (s : ℕ) → any (of_tx s) (whole b) ≡ true → (1 ≤ s) × (s ≤ 1024)
unfolding whole
tx-range b k s e = history-range b k s (count b) (omega arith) e

pub committed-range : (b : List ℕ) → Sound b → (s : ℕ) → committed (whole b) s ≡ true → (1 ≤ s) × (s ≤ 1024)
committed-range b k s e = tx-range b k s (any-mono (commit_of s) (of_tx s) (λ r q. eq-eqb s (tx_of r) (commit-of s r q)) (whole b) e)

-- ---- the order of take-back

-- no refusal of take-back, whose copy has n bytes
record Undoes (d : Inputs) (bad status out : List ℕ) (n : ℕ) : Type 0 where
  checks : Checks d
  inactive : (s : ℕ) → 1 ≤ s → s ≤ 1024 → still_active d.journal s ≡ false
  marks : wrong_status status ≡ false
  known : (k : ℕ) → k < length bad → unknown d.journal (get_or bad k 0) ≡ false
  room : too_short out n ≡ false

undoes-clear : {d : Inputs} {bad status out : List ℕ} {n : ℕ} → Undoes d bad status out n → Clear (undo_order d bad status out n)
unfolding undo_order
undoes-clear {d} {bad} u =
    clear-turns _ (checks-clear d u.checks, (active-all _ _ u.inactive, (status-all _ _ u.marks, (known-all _ _ bad u.known, (capacity-all _ _ _ u.room, tt)))))

clear-undoes : {d : Inputs} {bad status out : List ℕ} {n : ℕ} → Clear (undo_order d bad status out n) → Undoes d bad status out n
unfolding undo_order active_order status_order known_order capacity_order
clear-undoes {d} c =
    let (check, (active, (c13, (c12, (c14, end))))) = turns-clear _ c in
    record {
      checks = clear-checks d check;
      inactive = λ s l h. tried-clear 11 _ 1 1024 active s l (omega arith);
      marks = try-clear 13 _ _ c13;
      known = λ k h. tried-clear 12 _ _ _ c12 k (omega arith) (omega arith);
      room = try-clear 14 _ _ c14;
    }

names-known : (b names : List ℕ) → ((s : ℕ) → member s names ≡ true → committed (whole b) s ≡ true) → (k : ℕ) → k < length names → unknown b (get_or names k 0) ≡ false
unfolding unknown
names-known b names h k l = rw (h (get_or names k 0) (member-at names k l))

module _ (d : Inputs) (bad status out : List ℕ) where
  abbrev b : List ℕ
  b = d.journal

  pub clear-accepting : Clear (undo_order d bad status out (length (copy bad b))) → Accepting b bad status out
  unfolding unknown wrong_status too_short
  clear-accepting c =
      let u = clear-undoes c in
      record {
        names = λ s m. let (k, h, e) = member-place s bad m in rw (← e) (not-false _ (u.known k h));
        status_length = eqb-true _ _ (not-false _ u.marks);
        capacity = ltb-false _ _ u.room;
      }

  pub clear-passing : Clear (undo_order d bad status out (length (copy bad b))) → PassFinished d
  unfolding still_active
  clear-passing c =
      let u = clear-undoes c in
      record {
        pass = checks-pass d u.checks;
        finished = λ s e.
            let (l, h) = tx-range b u.checks.sound s e in
            by_cases (ended (whole b) s) (λ f. f) (λ f. clash (and_from _ _ e (not_from_false _ f)) (u.inactive s l h));
      }

  pub accepting-clear : Checks d → Finished b → Accepting b bad status out → Clear (undo_order d bad status out (length (copy bad b)))
  unfolding still_active wrong_status too_short
  accepting-clear k f a =
      let m : eqb (length status) 1025 ≡ true = eq-eqb _ _ a.status_length in
      undoes-clear (record {
        checks = k;
        inactive = λ s l n. finished-inactive b f s;
        marks = rw m;
        known = names-known b bad a.names;
        room = le-ltb (length out) (length (copy bad b)) a.capacity;
      })

  -- ---- the result

  answer-none : (n : UndoTotals) → (undo d bad status out).answer ≡ accepted n → (decide (undo_order d bad status out (length (copy bad b))) ≡ none) × (undo_totals bad b ≡ n)
  unfolding undo result undo_totals copy
  answer-none n e = let (z, q) = accepted-only _ n (undo_totals bad b) (sym e) in (z, sym q)

  pub undo-accepts : accepts (undo d bad status out).answer ≡ true → Clear (undo_order d bad status out (length (copy bad b)))
  unfolding undo result
  undo-accepts e = decide-clear _ (answered-none _ _ e)

  module _ (c : Clear (undo_order d bad status out (length (copy bad b)))) where
    none-decided : decide (undo_order d bad status out (length (copy bad b))) ≡ none
    none-decided = clear-decide c

    pub undo-accepted : (undo d bad status out).answer ≡ accepted (undo_totals bad b)
    unfolding undo result undo_totals copy
    undo-accepted = rw none-decided

    pub undo-table : (undo d bad status out).table ≡ table_left bad d
    unfolding undo result table_left
    undo-table = rw none-decided

    pub undo-status : (undo d bad status out).status ≡ statuses bad (whole b)
    unfolding undo result statuses
    undo-status = rw none-decided

    pub undo-out : (undo d bad status out).out ≡ copy bad b ++ drop (length (copy bad b)) out
    unfolding undo result copy
    undo-out = rw none-decided

    -- the copy, exactly its bytes, stands at the front
    pub undo-copy : copy_in (undo d bad status out) (undo_totals bad b) ≡ copy bad b
    unfolding undo_totals totals
    undo-copy = rw undo-out (take_at (copy bad b) _ (length (copy bad b)) refl)

    pub undo-behind : drop (undo_totals bad b).bytes (undo d bad status out).out ≡ drop (undo_totals bad b).bytes out
    unfolding undo_totals totals
    undo-behind = rw undo-out (drop_at (copy bad b) _ (length (copy bad b)) refl)

-- another list in a clear order, that names only committed transactions and whose copy is as long
pub clear-named : (d : Inputs) (bad names status out : List ℕ) → ((s : ℕ) → member s names ≡ true → committed (whole d.journal) s ≡ true)
    → length (copy bad d.journal) ≡ length (copy names d.journal) → Clear (undo_order d bad status out (length (copy bad d.journal))) → Clear (undo_order d names status out (length (copy names d.journal)))
clear-named d bad names status out known e c =
    let u = clear-undoes c in
    undoes-clear (record { checks = u.checks; inactive = u.inactive; marks = u.marks; known = names-known d.journal names known; room = rw (← e) u.room })

-- an accepted call: its order is clear, and its counts are the definition's
pub accepted-clear : {d : Inputs} {bad status out : List ℕ} {n : UndoTotals} → Accepted d bad status out n
    → Clear (undo_order d bad status out (length (copy bad d.journal))) × (undo_totals bad d.journal ≡ n)
accepted-clear {d} {bad} {status} {out} {n} a = let (z, e) = answer-none d bad status out n a.answer in (decide-clear _ z, e)

-- what it was given is a day
pub accepted-day : {d : Inputs} {bad status out : List ℕ} {n : UndoTotals} → Accepted d bad status out n → Day d
accepted-day {d} {bad} {status} {out} a =
    let p = clear-passing d bad status out (accepted-clear a).0 in
    record { bytes = a.bytes; pass = p.pass; finished = p.finished }
