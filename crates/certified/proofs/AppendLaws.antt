-- The definition of post keeps the promise, for a journal of bytes, where the item's amount and the new one are signed 32-bit numbers.
-- Assumes nothing.
use mathlib.Core.Path.{◌≡◌, refl}
use mathlib.Core.Bool.{Bool, true, false, ◌&&◌, ◌||◌}
use Prim.Native.Nat.{ℕ, ◌≤◌}
use native.Mathlib.Omega.{arith}
use lib.Dec.{eqb, ltb}
use lib.IntN.{pos}
use mir.Syntax.{w32}
use mir.Val.{SFits}
use borrow.Author.Tests.{eqb-true, ltb-true}
use Rattle.lists.proofs.BoolLaws.{by_cases, and_left, clash}
use Rattle.format.specs.declared.Record.{Record}
use Rattle.format.specs.Bytes.{Bytes}
use Rattle.model.specs.History.{same_amount}
use Rattle.journal.specs.Inputs.{Inputs}
use Rattle.journal.specs.Journal.{items, amount_at}
use Rattle.journal.specs.Refusals.{body_right, malformed, RecordCounts}
use Rattle.journal.specs.Calls.{AppendResult, opening_table}
use Rattle.journal.proofs.Checked.{Checks}
use Rattle.journal.proofs.Passing.{head-facts, malformed-tx}
use Rattle.journal.proofs.Unrefused.{formed, formed-cases}
use Rattle.journal.proofs.Appending.{clear-appended}
use Rattle.demands.specs.Days.{accepts}
use Rattle.demands.specs.Appending.{AppendCall, Given, AppendState, append_on}
use Rattle.demands.proofs.DaysLaws.{checks-pass}
use Rattle.demands.proofs.Appending.{Good, appended-clear, entry-fits, good-next, next-counts, items-next, records-next, opening-next, length-next}
use Rattle.demands.proofs.Appending.{good-stands, checks-chained}
use Rattle.demands.proofs.Demands.{demand-1}
use Rattle.demands.proofs.Behind.{behind}
use Rattle.entry.proofs.Agreeing.{right-counts}
use Rattle.certified.specs.Promises.{entry_of, Entered, AppendPromise}

-- ---- a post whose record 4 does not refuse

-- its item is one of the m, or 0 where it is an end
item-bound : (m : ℕ) (r : Record) → malformed m r ≡ false → r.item.0 ≤ m
item-bound m r e =
    let w : body_right m r ≡ true = (formed m r e).body in
    let x : ℕ = r.item.0 in
    let rest : Bool = same_amount r.before (pos 0) in
    let last : Bool = same_amount r.after (pos 0) in
    by_cases (eqb r.kind 1)
    (λ a. let h = ltb-true x m (and_left (ltb x m) rest (and_left (ltb x m && rest) last (rw a at w))) in omega arith)
    (λ a. by_cases (eqb r.kind 2)
    (λ b. let h = ltb-true x m (rw (a, b) at w) in omega arith)
    (λ b. by_cases (eqb r.kind 3 || eqb r.kind 4)
    (λ c. let h = eqb-true x 0 (and_left (eqb x 0) rest (and_left (eqb x 0 && rest) last (rw (a, b, c) at w))) in omega arith)
    (λ c. clash (rw (a, b, c) at w) refl)))

-- so kind, sale and item are within the widths of their fields
formed-given : (d : Inputs) (p : AppendCall) → Checks d → malformed (items d.journal) (entry_of d p) ≡ false → SFits w32 p.after → Given p
formed-given d p k f h =
    let m = items d.journal in
    let r = entry_of d p in
    record {
      kind = formed-cases m r f (λ e _ _. omega arith) (λ e _. omega arith) (λ e _. omega arith) (λ e _. omega arith);
      tx = omega (arith, (malformed-tx m r f).1);
      item = omega (arith, item-bound m r f, (head-facts d.journal k.sound.head).most);
      after = h;
    }

-- ---- one post

module _ (d : Inputs) (c : RecordCounts) (p : AppendCall) where
  abbrev state : AppendState
  state = record { inputs = d; counts = c }

  module _ (bytes : Bytes d.journal) (seen : SFits w32 (amount_at d.table p.item)) (after : SFits w32 p.after) where
    entered : accepts (append_on state p).answer ≡ true → Entered d c p (append_on state p)
    entered e =
        let k = appended-clear state p e in
        let (checks, agrees, enters) = clear-appended d c (entry_of d p) k in
        let g : Good state = record { bytes = bytes; checks = checks; counts = right-counts d.journal c agrees } in
        let f = entry-fits state p seen (formed-given d p checks enters.formed after) in
        let n = good-next state p g k f in
        record {
          entries = records-next state p g k f;
          chained = checks-chained n.checks;
          pass = checks-pass _ n.checks;
          raised = next-counts state p k;
          agrees = n.counts;
          items = items-next state p g k f;
          opening = opening-next state p g k f;
          standing = good-stands _ n (opening_table d) (opening-next state p g k f);
          size = length-next state p g k f;
          behind = behind.behind d c p.kind p.tx p.item p.after;
        }

    append-keeps : AppendPromise d c p (append_on state p)
    append-keeps =
        record {
          passed = λ e. checks-pass d (clear-appended d c (entry_of d p) (appended-clear state p e)).0;
          entered = entered;
          refuses = demand-1.append d c p.kind p.tx p.item p.after;
          lowest_record = demand-1.lowest_record.append d c p.kind p.tx p.item p.after;
          lowest_item = demand-1.lowest_place.append_item d c p.kind p.tx p.item p.after;
        }

    -- and so does every call whose answer and loans are the definition's
    pub append-certified : {r : AppendResult} → r.answer ≡ (append_on state p).answer → r.journal ≡ (append_on state p).journal → r.table ≡ (append_on state p).table → r.counts ≡ (append_on state p).counts
        → AppendPromise d c p r
    append-certified {r} answer journal table tally =
        let e : r ≡ append_on state p = λ i. record { answer = answer i; journal = journal i; table = table i; counts = tally i } in rw e append-keeps
