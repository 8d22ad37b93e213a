-- What check answers once the records passed: rule 10 item by item, and the number of active transactions.
-- Assumes nothing.
use mathlib.Core.Path.{◌≡◌, refl, sym, ◌∙◌, ap}
use mathlib.Core.Bool.{Bool, true, false, not, ◌&&◌, and-true, and-false}
use mathlib.Core.Logic.{◌⊎◌, inl, inr}
use mathlib.Core.List.{List}
use mathlib.Core.Option.{some}
use Prim.Native.Nat.{ℕ, ◌+◌, ◌-◌, ◌<◌}
use native.Mathlib.Omega.{arith}
use lib.IntN.{pos}
use lib.Dec.{eqb}
use lib.ListN.{get_or}
use borrow.Author.Tests.{not-true, not-false}
use mir.Syntax.{w32}
use mir.Val.{to_z, of_z, SFits}
use mir.ValLaws.{to_z-of_z}
use Rattle.lists.specs.Search.{any}
use Rattle.lists.specs.Tables.{count_if}
use Rattle.lists.proofs.BoolLaws.{by_cases, clash}
use Rattle.lists.proofs.SearchLaws.{latest-none}
use Rattle.lists.proofs.TablesLaws.{count_if-ext}
use Rattle.model.specs.History.{Amount, same_amount, write_to, of_tx, ended, active, standing}
use Rattle.model.proofs.Amounts.{same-eq}
use Rattle.journal.specs.Inputs.{Inputs}
use Rattle.journal.specs.Journal.{count, items, history, whole, amount_at}
use Rattle.journal.specs.Refusals.{unsettled}
use Rattle.journal.specs.Orders.{try_each, settled_order, decide}
use Rattle.journal.proofs.OrdersLaws.{tried-passed, tried-refused}
use Rattle.arrays.specs.declared.end.End.{End}
use Rattle.arrays.specs.declared.end.End.TheVariants.{Open, Committed, Aborted}
use Rattle.arrays.specs.Ends.{code_of, codes}
use Rattle.arrays.specs.Arrays.{Ready, ends_of, firsts_of, writes_of}
use Rattle.arrays.proofs.EndCodes.{active-code}
use Rattle.arrays.proofs.Found.{first_any}
use Rattle.arrays.proofs.ArraysLaws.{ends-array, firsts-array}
use Rattle.arrays.proofs.WriterLaws.{code-at, last_none}
use Rattle.rules.specs.Standing.{unlike_standing}
use Rattle.rules.proofs.AmountLaws.{standing-any}
use Rattle.settle.specs.Active.{active_in}

-- ---- rule 10

same-swap : (a c : Amount) → same_amount a c ≡ same_amount c a
same-swap a c =
    by_cases (same_amount a c)
    (λ e. rw (same-eq a c e))
    (λ e. by_cases (same_amount c a) (λ f. rw (same-eq c a f)) (λ f. e ∙ sym f))

module _ (b : List ℕ) (n x : ℕ) (l : List ℕ) (t : List Amount) (ends : List End) (k : Ready b n) (c : n ≡ count b) (d : l ≡ writes_of (history b n)) (e : x < 1024) (g : codes ends ≡ ends_of (history b n)) where
  at-end : history b n ≡ whole b
  unfolding whole
  at-end = ap (history b) c

  unwritten : get_or l x 0 ≡ 0 → any (write_to x) (history b n) ≡ false
  unwritten y = latest-none (write_to x) (history b n) (last_none b n x (get_or l x 0) l k d e refl y)

  -- at the end, an amount of the table is compared as a before image is
  settled-is : unlike_standing (history b n) x (amount_at t x) ≡ unsettled b t x
  unfolding unlike_standing unsettled
  settled-is =
      by_cases (any (write_to x) (history b n))
      (λ w. rw (← at-end, w, standing-any b n x l (amount_at t x) k d e (λ y. clash w (unwritten y)))
      (ap not (same-swap (amount_at t x) (standing (pos 0) (history b n) x))))
      (λ w. rw (← at-end, w))

  pub settled-by : (r : Bool) → SFits w32 (amount_at t x) → r ≡ not (unlike_standing (history b n) x (to_z w32 (of_z w32 (amount_at t x)))) → r ≡ not (unsettled b t x)
  settled-by r f q = q ∙ ap not (rw (to_z-of_z w32 (amount_at t x) f) settled-is)

-- the loop over the items: p tests item x
module _ (d : Inputs) where
  pub settle-start : (m : ℕ) → m ≡ items d.journal → decide (settled_order d) ≡ decide (try_each 10 (unsettled d.journal d.table) 0 (m - 0))
  unfolding settled_order
  settle-start m e = let f : m - 0 ≡ items d.journal = omega arith in rw f

  module _ (x m : ℕ) (l : decide (settled_order d) ≡ decide (try_each 10 (unsettled d.journal d.table) x (m - x))) (h : x < m) (p : Bool) (q : p ≡ not (unsettled d.journal d.table x)) where
    pub settle-more : p ≡ true → decide (settled_order d) ≡ decide (try_each 10 (unsettled d.journal d.table) (x + 1) (m - (x + 1)))
    settle-more e = tried-passed 10 (unsettled d.journal d.table) x m (decide (settled_order d)) l h (not-true _ (sym q ∙ e))

    pub settle-refused : p ≡ false → some (record { number = 10; place = x }) ≡ decide (settled_order d)
    settle-refused e = tried-refused 10 (unsettled d.journal d.table) x m (decide (settled_order d)) l h (not-false _ (sym q ∙ e))

-- ---- active transactions

module _ (b : List ℕ) (n s : ℕ) (ends : List End) (firsts : List ℕ) (e : codes ends ≡ ends_of (history b n)) (f : firsts ≡ firsts_of (history b n)) (h : s < 1025) where
  begun-is : not (eqb (get_or firsts s 0) 0) ≡ any (of_tx s) (history b n)
  begun-is = rw (f, (firsts-array (history b n)).at s 0 h) (sym (first_any (of_tx s) b n))

  open-is : eqb (code_of (get_or ends s Open)) 0 ≡ not (ended (history b n) s)
  open-is = ap (λ c. eqb c 0) (sym (code-at ends s)) ∙ rw (e, (ends-array (history b n)).at s 0 h) (sym (active-code (history b n) s))

  -- of the arrays of a history
  pub active-at : active_in (codes ends) firsts s ≡ active (history b n) s
  unfolding active_in
  active-at = rw (code-at ends s, begun-is, open-is)

module _ (b : List ℕ) (n : ℕ) (ends : List End) (firsts : List ℕ) (e : codes ends ≡ ends_of (history b n)) (f : firsts ≡ firsts_of (history b n)) where
  pub active-number : count_if (active_in (codes ends) firsts) 1 1024 ≡ count_if (active (history b n)) 1 1024
  active-number = count_if-ext _ _ 1 1 1024 (λ k h. active-at b n (1 + k) ends firsts e f (omega arith))

-- from any list of codes
module _ (ends firsts : List ℕ) (s first end : ℕ) where
  pub active-in : first ≡ get_or firsts s 0 → end ≡ get_or ends s 0 → not (eqb first 0) && eqb end 0 ≡ active_in ends firsts s
  unfolding active_in
  active-in q e = rw (q, e)

-- from the ends themselves
module _ (ends : List End) (firsts : List ℕ) (s : ℕ) where
  pub active-open : get_or ends s Open ≡ Open → not (eqb (get_or firsts s 0) 0) ≡ active_in (codes ends) firsts s
  unfolding active_in
  active-open z = rw (code-at ends s, z) (sym (and-true (not (eqb (get_or firsts s 0) 0))))

  pub active-ended : (get_or ends s Open ≡ Committed) ⊎ (get_or ends s Open ≡ Aborted) → false ≡ active_in (codes ends) firsts s
  unfolding active_in
  active-ended (inl z) = rw (code-at ends s, z) (sym (and-false (not (eqb (get_or firsts s 0) 0))))
  active-ended (inr z) = rw (code-at ends s, z) (sym (and-false (not (eqb (get_or firsts s 0) 0))))
