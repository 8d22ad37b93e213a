-- Posting onto what a take-back left: the statement AppendedAfter of specs/Appending.antt, proved.
-- Assumes nothing.
use mathlib.Core.Path.{◌≡◌, sym, ◌∙◌, ap}
use mathlib.Core.List.{List, ◌∷◌, map}
use Prim.Native.Nat.{ℕ, zero, suc, ◌+◌, ◌*◌, ◌≤◌}
use mathlib.Core.Bool.{Bool, ◌&&◌}
use native.Mathlib.Omega.{arith}
use lib.Dec.{eqb, ltb}
use lib.IntN.{pos}
use lib.ListN.{length, take, drop, take-append-drop, length-append, get_or-eq_default}
use lib.Seq.{take-take}
use mir.Syntax.{w32}
use mir.Val.{SFits}
use borrow.Author.Tests.{ltb-true, ltb-false}
use Rattle.lists.specs.Search.{any}
use Rattle.lists.specs.Tables.{tabulate}
use Rattle.lists.proofs.BoolLaws.{by_cases}
use Rattle.lists.proofs.SearchLaws.{first-none, first-old}
use Rattle.format.specs.Bytes.{Bytes}
use Rattle.format.specs.Layout.{record_at}
use Rattle.format.proofs.LayoutLaws.{record_at-fitting}
use Rattle.model.specs.History.{Amount, write_to, initial}
use Rattle.model.specs.Undo.{replayed}
use Rattle.journal.specs.Inputs.{Inputs, onto}
use Rattle.journal.specs.Journal.{count, tx_in, op_of, history, whole, amount_at}
use Rattle.journal.specs.Refusals.{truncated, counts_by_kind}
use Rattle.journal.specs.Copy.{linked_to}
use Rattle.journal.specs.Calls.{UndoTotals, UndoResult, undo, opening_at, opening_table, table_left}
use Rattle.journal.proofs.Records.{by_kind}
use Rattle.journal.proofs.Checked.{Checks}
use Rattle.demands.specs.Days.{Amounts}
use Rattle.demands.specs.Undoing.{copy_in, left_by, RepairedDay}
use Rattle.demands.specs.Refusing.{Agree}
use Rattle.demands.specs.Appending.{AppendReady, repaired_state, AppendedAfter}
use Rattle.demands.proofs.DaysLaws.{pass-checks}
use Rattle.demands.proofs.Left.{left-length}
use Rattle.demands.proofs.Undone.{undo-table, accepted-clear, accepted-day}
use Rattle.demands.proofs.Undoing.{left-passes}
use Rattle.demands.proofs.Deleted.{left-replayed}
use Rattle.demands.proofs.Behind.{behind, whole_agree, records-agree}
use Rattle.demands.proofs.Appending.{amounts-fit, amounts-all, appended-onto}

-- ---- the table left has amounts: each is a table's, a before or an after

module _ (b : List ℕ) (bytes : Bytes b) where
  initial-fits : (n x : ℕ) (v : Amount) → SFits w32 v → SFits w32 (initial v (history b n) x)
  unfolding history
  initial-fits zero x v h = h
  initial-fits (suc n) x v h =
      by_cases (any (write_to x) (history b n))
      (λ w. rw (first-old (write_to x) (op_of (suc n) (record_at b (suc n))) (history b n) w) (initial-fits n x v h))
      (λ w. let e = first-none (write_to x) (history b n) w in
      by_kind (λ o. SFits w32 (initial v (o ∷ history b n) x)) (suc n) (record_at b (suc n)) (rw e h)
      (rw e (by_cases (eqb x (record_at b (suc n)).item.0) (λ q. rw q (record_at-fitting bytes (suc n)).before) (λ q. rw q h)))
      (rw e h) (rw e h) (rw e h))

  replayed-fits : (k : ℕ → Bool) (n x : ℕ) (v : Amount) → SFits w32 v → SFits w32 (replayed k v (history b n) x)
  unfolding history
  replayed-fits k zero x v h = h
  replayed-fits k (suc n) x v h =
      let i = replayed-fits k n x v h in
      let r = record_at b (suc n) in
      by_kind (λ o. SFits w32 (replayed k v (o ∷ history b n) x)) (suc n) (record_at b (suc n)) i
      (by_cases (eqb x r.item.0 && k (tx_in r)) (λ q. rw q (record_at-fitting bytes (suc n)).after) (λ q. rw q i))
      i i i

left-amounts : (d : Inputs) → Bytes d.journal → Checks d → (bad : List ℕ) → Amounts d.table → Amounts (table_left bad d)
unfolding opening_at whole
left-amounts d bytes ok bad a =
    let b = d.journal in
    let n = length d.table in
    amounts-all (table_left bad d) (λ x.
    by_cases (ltb x n)
    (λ l. rw (left-replayed d bad x (ltb-true x n l)) (replayed-fits b bytes _ (count b) x _ (initial-fits b bytes (count b) x _ (amounts-fit a x))))
    (λ l. let g = ltb-false x n l in
    rw (get_or-eq_default (table_left bad d) (pos 0) {n = x} (omega (arith, left-length d bytes ok bad))) (record { sfits = omega arith })))

-- a list is as long as its front, or longer
front_length : (n : ℕ) (l : List ℕ) → length (take n l) ≤ length l
front_length n l = omega (arith, ap length (take-append-drop n l), length-append (take n l) (drop n l))

-- a buffer that begins with the copy agrees with it
copy-agree : {d : Inputs} {out : List ℕ} {r : UndoResult} {n : UndoTotals} → RepairedDay d out r n → (c : List ℕ) → take n.bytes c ≡ copy_in r n → Agree (copy_in r n) c
unfolding truncated
copy-agree {r = r} {n} l c e =
    let j = copy_in r n in
    let whole : 20 * (count j + 1) ≤ length j = ltb-false _ _ (pass-checks _ l.day.pass).sound.full in
    record {
      first_long = whole;
      second_long = omega (arith, front_length n.bytes c, ap length e);
      same = rw (← l.size) (take-take n.bytes n.bytes r.out (omega arith) ∙ sym e);
    }

opening-agree : (d : Inputs) (c : List ℕ) → Agree d.journal c → opening_table (onto c d) ≡ opening_table d
unfolding opening_table opening_at
opening-agree d c g = ap (λ j. tabulate (λ x. initial (amount_at d.table x) j x) 0 (length d.table)) (sym (whole_agree d.journal c g))

pub appended-after : AppendedAfter
appended-after d bad status out n a amounts c kc e ps gs =
    let r : UndoResult = undo d bad status out in
    let l = left-passes d bad status out n a in
    let g = copy-agree l c e in
    let k = pass-checks d (accepted-day a).pass in
    let ready : AppendReady (repaired_state d r n c) = record {
      bytes = kc;
      amounts = rw (undo-table d bad status out (accepted-clear a).0) (left-amounts d a.bytes k bad amounts);
      pass = rw (← behind.check (left_by d r n) c g) l.day.pass;
      counts = ap counts_by_kind (whole_agree (copy_in r n) c g);
    } in
    let w = appended-onto (repaired_state d r n c) ps ready gs in
    let same : opening_table (repaired_state d r n c).inputs ≡ opening_table d = opening-agree (left_by d r n) c g ∙ l.opening in
    rw (ap (map (linked_to 0)) (records-agree (copy_in r n) c g), ← same) w
