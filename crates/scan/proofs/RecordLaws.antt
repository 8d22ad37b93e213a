-- Rules 4 to 9 of one record: its fields, its next, then 6 to 9.
-- Assumes nothing.
use mathlib.Core.Path.{◌≡◌, sym, ◌∙◌}
use mathlib.Core.Bool.{Bool, true, false, cond, not}
use mathlib.Core.List.{List}
use mathlib.Core.Option.{Option, none}
use Prim.Native.Nat.{ℕ, zero, suc, ◌+◌, ◌<◌, ◌≤◌}
use native.Mathlib.Omega.{arith}
use native.Mathlib.Numerals.{add-one}
use lib.Dec.{eqb}
use borrow.Author.Tests.{eq-eqb, ne_eqb, not-true, not-false}
use Rattle.lists.specs.Search.{or_else}
use Rattle.format.specs.declared.Record.{Record}
use Rattle.format.specs.Layout.{record_at}
use Rattle.journal.specs.Journal.{items, op_of, history}
use Rattle.journal.specs.Refusals.{malformed, wrong_next}
use Rattle.journal.specs.Orders.{Refusal, rule_order, record_order, decide}
use Rattle.journal.proofs.OrdersLaws.{or_else-none, decide-try, decide-turn, decide-over}
use Rattle.journal.proofs.Passing.{malformed-tx}
use Rattle.arrays.specs.Arrays.{Ready}
use Rattle.arrays.proofs.Found.{passed-right}
use Rattle.rules.proofs.RuleLaws.{at}
use Rattle.scan.specs.Chain.{lowest_broken}
use Rattle.scan.proofs.Chain.{lowest-here}

record-parts : (b : List ℕ) (n : ℕ)
    → decide (record_order b (n + 1)) ≡ or_else (cond (malformed (items b) (record_at b (n + 1))) (at 4 (n + 1)) none) (or_else (cond (wrong_next b (n + 1)) (at 5 (n + 1)) none) (decide (rule_order (history b n) (n + 1) (op_of (n + 1) (record_at b (n + 1))))))
unfolding record_order
record-parts b n = rw add-one (simp (decide-turn, decide-over, decide-try, or_else-none))

module _ (b : List ℕ) (n m : ℕ) (r : Record) (h : Bool) (k : Ready b n) (e : r ≡ record_at b (n + 1)) (j : m ≡ items b) (g : h ≡ not (malformed m r)) where
  pub record-malformed : h ≡ false → at 4 (n + 1) ≡ decide (record_order b (n + 1))
  record-malformed z =
      let f : malformed (items b) (record_at b (n + 1)) ≡ true = not-false _ (rw (← j, ← e) (sym g ∙ z)) in rw (record-parts b n, f)

  module _ (z : h ≡ true) where
    record-formed : malformed (items b) r ≡ false
    record-formed = not-true _ (rw (← j) (sym g ∙ z))

    module _ (low c : ℕ) (a : low ≡ lowest_broken b 1 c) (i : n < c) where
      chain-is : eqb (n + 1) low ≡ wrong_next b (n + 1)
      chain-is =
          let u = malformed-tx (items b) r record-formed in
          rw (a, add-one)
          (lowest-here b n c i before (rw (← (rw add-one at e)) u.1))
        where
          before : (l : ℕ) → 1 ≤ l → l ≤ n → wrong_next b l ≡ false
          before zero p q = absurd (omega arith)
          before (suc l) p q = (passed-right b n k.passed l (omega arith)).chained

      formed-here : malformed (items b) (record_at b (n + 1)) ≡ false
      formed-here = rw (← e) record-formed

      pub record-chain : low ≡ n + 1 → at 5 (n + 1) ≡ decide (record_order b (n + 1))
      record-chain q = rw (record-parts b n, formed-here, ← chain-is, eq-eqb (n + 1) low (sym q))

      pub record-rest : (v : Option Refusal) → (low ≡ n + 1 → ⊥) → v ≡ decide (rule_order (history b n) (n + 1) (op_of (n + 1) r)) → v ≡ decide (record_order b (n + 1))
      record-rest v q w = rw (record-parts b n, formed-here, ← chain-is, ne_eqb (n + 1) low (λ y. q (sym y)), ← e) w
