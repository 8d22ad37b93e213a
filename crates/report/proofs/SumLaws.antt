-- The sum of a report: the net change found in the paper is the copy's.
-- Assumes nothing.
use mathlib.Core.Path.{◌≡◌, sym, ap, ◌∙◌}
use mathlib.Core.List.{List}
use mathlib.Core.Option.{none}
use Prim.Native.Nat.{ℕ, ◌+◌, ◌*◌, ◌<◌, ◌≤◌, ◌^◌}
use native.Mathlib.Omega.{arith}
use lib.ListN.{length, length-take}
use lib.IntN.{ℤ}
use lib.Signed.{mag}
use mir.Syntax.{w64}
use mir.Val.{to_z, of_z}
use mir.ValLaws.{to_z-of_z}
use lib.Seq.{take-take}
use borrow.Author.Tests.{ltb-false}
use Rattle.model.specs.Net.{net_change}
use Rattle.journal.specs.Inputs.{Inputs}
use Rattle.journal.specs.Journal.{count}
use Rattle.journal.specs.Refusals.{truncated}
use Rattle.journal.specs.Orders.{decide, open_order}
use Rattle.journal.specs.Calls.{accepted, UndoTotals, UndoResult}
use Rattle.journal.proofs.Clear.{clear-decide}
use Rattle.journal.proofs.Checked.{Checks, open-clear}
use Rattle.demands.specs.Undoing.{copy_in, left_by}
use Rattle.demands.specs.Refusing.{Agree}
use Rattle.demands.specs.Requests.{sum_left}
use Rattle.demands.proofs.DaysLaws.{pass-checks}
use Rattle.demands.proofs.Behind.{open-agree, whole_agree}
use Rattle.net.specs.Held.{net_in}
use Rattle.net.proofs.NetHead.{net_in-opened}
use Rattle.certified.specs.Promises.{UndoPromise}
use Rattle.text.specs.Decimal.{decimal_z}

module _ (d : Inputs) (bad status out : List ℕ) {u : UndoResult} (kept : UndoPromise d bad status out u) {c : UndoTotals} (e : u.answer ≡ accepted c) where
  abbrev b : List ℕ
  b = copy_in u c

  checks : Checks (left_by d u c)
  checks = pass-checks _ (kept.repaired c e).left.day.pass

  long : 20 * (count b + 1) ≤ length b
  unfolding truncated
  long = ltb-false (length b) (20 * (count b + 1)) checks.sound.full

  size : 20 * (count b + 1) ≡ c.bytes
  size = sym (kept.repaired c e).left.size

  within : length b ≤ length u.out
  within = omega (arith, length-take c.bytes u.out)

  -- the copy and the paper that it stands at the front of
  agree : Agree b u.out
  agree = record { first_long = long; second_long = omega (arith, long, within); same = take-take (20 * (count b + 1)) c.bytes u.out (omega (arith, size)) }

  opened : decide (open_order u.out) ≡ none
  opened = ap decide (sym (open-agree b u.out agree)) ∙ clear-decide (open-clear b checks.sound.long checks.sound.head checks.sound.full)

  -- .. so what is found in the paper is the copy's net change
  found-sum : {n : ℤ} → n ≡ net_in u.out → n ≡ sum_left u c
  found-sum f = f ∙ net_in-opened u.out opened ∙ ap net_change (sym (whole_agree b u.out agree))

-- the digits that are printed, where the call is accepted
pub printed-sum : (d : Inputs) (bad status out : List ℕ) {u : UndoResult} → UndoPromise d bad status out u → {n : ℤ} → mag n < 2 ^ 63 → n ≡ net_in u.out
    → (c : UndoTotals) → u.answer ≡ accepted c → decimal_z (to_z w64 (of_z w64 n)) ≡ decimal_z (sum_left u c)
printed-sum d bad status out kept {n} h f c e = ap decimal_z (to_z-of_z w64 n (record { sfits = h }) ∙ found-sum d bad status out kept e f)
