-- Tests of equality that compute, for what the calls answer and leave, each with the law that what passes it is equal.
-- Assumes nothing.
use mathlib.Core.Path.{◌≡◌, refl, sym, ap, ◌∙◌}
use mathlib.Core.Bool.{Bool, true, false, false≢true, ◌&&◌}
use mathlib.Core.List.{List, [], ◌∷◌}
use Prim.Native.Nat.{ℕ}
use lib.Dec.{eqb}
use borrow.Author.Tests.{eqb-true}
use Rattle.lists.proofs.BoolLaws.{and_left, and_right}
use Rattle.model.specs.History.{Amount, same_amount}
use Rattle.model.proofs.Amounts.{same-eq}
use Rattle.journal.specs.Refusals.{RecordCounts}
use Rattle.journal.specs.Calls.{Answer, refused, accepted, StartResult, ChainResult, AppendResult, UndoTotals, UndoResult}

-- a test, and what it means
pub record Equality (A : Type 0) : Type 0 where
  pub same : A → A → Bool
  pub means : (a b : A) → same a b ≡ true → a ≡ b

-- ---- numbers, amounts, nothing

abbrev numbers : Equality ℕ
numbers = record { same = eqb; means = eqb-true }

abbrev amounts : Equality Amount
amounts = record { same = same_amount; means = same-eq }

abbrev nothing : Equality (Unit {0})
nothing = record { same = λ a b. true; means = λ a b e. refl }

-- ---- pairs, lists, answers

module _ {A B : Type 0} (f : Equality A) (g : Equality B) where
  abbrev same_pair : A × B → A × B → Bool
  same_pair p q = f.same p.0 q.0 && g.same p.1 q.1

  pub pairs-equal : (p q : A × B) → same_pair p q ≡ true → p ≡ q
  pairs-equal p q e =
      let left : p.0 ≡ q.0 = f.means _ _ (and_left (f.same p.0 q.0) (g.same p.1 q.1) e) in
      let right : p.1 ≡ q.1 = g.means _ _ (and_right (f.same p.0 q.0) (g.same p.1 q.1) e) in
      λ i. (left i, right i)

  abbrev pairs : Equality (A × B)
  pairs = record { same = same_pair; means = pairs-equal }

module _ {A : Type 0} (f : Equality A) where
  abbrev same_list : List A → List A → Bool
  same_list [] [] = true
  same_list [] (b ∷ k) = false
  same_list (a ∷ l) [] = false
  same_list (a ∷ l) (b ∷ k) = f.same a b && same_list l k

  pub lists-equal : (l k : List A) → same_list l k ≡ true → l ≡ k
  lists-equal [] [] e = refl
  lists-equal [] (b ∷ k) e = absurd (false≢true e)
  lists-equal (a ∷ l) [] e = absurd (false≢true e)
  lists-equal (a ∷ l) (b ∷ k) e =
      let first : a ≡ b = f.means a b (and_left (f.same a b) (same_list l k) e) in
      let rest : l ≡ k = lists-equal l k (and_right (f.same a b) (same_list l k) e) in
      λ i. first i ∷ rest i

  abbrev lists : Equality (List A)
  lists = record { same = same_list; means = lists-equal }

  abbrev same_answer : Answer A → Answer A → Bool
  same_answer (refused n p) (refused m q) = eqb n m && eqb p q
  same_answer (refused n p) (accepted b) = false
  same_answer (accepted a) (refused m q) = false
  same_answer (accepted a) (accepted b) = f.same a b

  pub answers-equal : (a b : Answer A) → same_answer a b ≡ true → a ≡ b
  answers-equal (refused n p) (refused m q) e =
      let number : n ≡ m = eqb-true n m (and_left (eqb n m) (eqb p q) e) in
      let place : p ≡ q = eqb-true p q (and_right (eqb n m) (eqb p q) e) in
      λ i. refused (number i) (place i)
  answers-equal (refused n p) (accepted b) e = absurd (false≢true e)
  answers-equal (accepted a) (refused m q) e = absurd (false≢true e)
  answers-equal (accepted a) (accepted b) e = ap accepted (f.means a b e)

  abbrev answers : Equality (Answer A)
  answers = record { same = same_answer; means = answers-equal }

-- a record, by its fields as pairs
module _ {A B : Type 0} (f : Equality B) (out : A → B) (back : B → A) (again : (a : A) → back (out a) ≡ a) where
  pub fields-equal : (a b : A) → f.same (out a) (out b) ≡ true → a ≡ b
  fields-equal a b e = sym (again a) ∙ ap back (f.means (out a) (out b) e) ∙ again b

  abbrev fields : Equality A
  fields = record { same = λ a b. f.same (out a) (out b); means = fields-equal }

-- ---- what the calls answer and leave

abbrev record_counts : Equality RecordCounts
record_counts =
    fields (pairs (pairs numbers numbers) (pairs numbers numbers))
    (λ c. ((c.reads, c.writes), (c.commits, c.aborts)))
    (λ p. record { reads = p.0.0; writes = p.0.1; commits = p.1.0; aborts = p.1.1 })
    (λ c. refl)

abbrev totals : Equality UndoTotals
totals =
    fields (pairs (pairs numbers numbers) (pairs numbers numbers))
    (λ c. ((c.surviving, c.undone), (c.aborted, c.bytes)))
    (λ p. record { surviving = p.0.0; undone = p.0.1; aborted = p.1.0; bytes = p.1.1 })
    (λ c. refl)

abbrev pub starts : Equality StartResult
starts =
    fields (pairs (answers nothing) (lists numbers))
    (λ r. (r.answer, r.journal))
    (λ p. record { answer = p.0; journal = p.1 })
    (λ r. refl)

abbrev pub appends : Equality AppendResult
appends =
    fields (pairs (pairs (answers nothing) (lists numbers)) (pairs (lists amounts) record_counts))
    (λ r. ((r.answer, r.journal), (r.table, r.counts)))
    (λ p. record { answer = p.0.0; journal = p.0.1; table = p.1.0; counts = p.1.1 })
    (λ r. refl)

abbrev pub checks : Equality (Answer ℕ)
checks = answers numbers

abbrev pub chains : Equality ChainResult
chains =
    fields (pairs (answers numbers) (lists numbers))
    (λ r. (r.answer, r.lsns))
    (λ p. record { answer = p.0; lsns = p.1 })
    (λ r. refl)

abbrev pub countings : Equality (Answer RecordCounts)
countings = answers record_counts

abbrev pub undos : Equality UndoResult
undos =
    fields (pairs (pairs (answers totals) (lists amounts)) (pairs (lists numbers) (lists numbers)))
    (λ r. ((r.answer, r.table), (r.status, r.out)))
    (λ p. record { answer = p.0.0; table = p.0.1; status = p.1.0; out = p.1.1 })
    (λ r. refl)
