-- The net change of a legal history without aborts is what the sum of the standing amounts rose by.
-- Assumes nothing.
use mathlib.Core.Path.{◌≡◌, refl, sym, ◌∙◌, ap}
use mathlib.Core.Bool.{true, false}
use mathlib.Core.List.{[], ◌∷◌}
use Prim.Native.Nat.{ℕ, zero, suc, ◌+◌, ◌<◌, ◌≤◌}
use native.Mathlib.Omega.{arith}
use lib.Dec.{eqb}
use lib.IntN.{ℤ, neg_ℤ, ◌+ℤ◌, ◌-ℤ◌, +ℤ_assoc, +ℤ_comm, +ℤ_invr, +ℤ_idl, +ℤ_idr}
use borrow.Author.Tests.{eq-eqb, ne_eqb, eqb-true}
use Rattle.std.proofs.lemmas.Bool.{or_left, or_right}
use Rattle.lists.specs.Search.{any}
use Rattle.lists.specs.Tables.{tabulate}
use Rattle.lists.proofs.BoolLaws.{by_cases, clash}
use Rattle.lists.proofs.TablesLaws.{tabulate-ext}
use Rattle.model.specs.History.{History, Amount, Tag, read, write, commit, abort, other, write_to, aborted}
use Rattle.model.specs.Net.{net_change, table_sum}
use Rattle.model.proofs.Legal.{stand, Legal}

-- ---- whole numbers

exchange : (a b t : ℤ) → a +ℤ t ≡ (b +ℤ t) +ℤ (a -ℤ b)
exchange a b t =
    sym
    (ap (◌+ℤ (a -ℤ b)) (+ℤ_comm b t)
    ∙ +ℤ_assoc t b (a -ℤ b)
    ∙ ap (t +ℤ◌) (ap (b +ℤ◌) (+ℤ_comm a (neg_ℤ b)) ∙ sym (+ℤ_assoc b (neg_ℤ b) a) ∙ ap (◌+ℤ a) (+ℤ_invr b) ∙ +ℤ_idl a)
    ∙ +ℤ_comm t a)

-- ---- the sum of a table

-- another amount at one place takes the sum along
table_sum-set : (f g : ℕ → ℤ) (x : ℕ) → ((y : ℕ) → eqb x y ≡ false → g y ≡ f y) → (i n : ℕ) → i ≤ x → x < i + n
    → table_sum (tabulate g i n) ≡ table_sum (tabulate f i n) +ℤ (g x -ℤ f x)
unfolding table_sum tabulate
table_sum-set f g x h i zero l u = absurd (omega arith)
table_sum-set f g x h i (suc n) l u =
    by_cases (eqb x i)
    (λ e. at_first e (eqb-true x i e))
    (λ e. ap (◌+ℤ table_sum (tabulate g (suc i) n)) (h i e)
    ∙ ap (f i +ℤ◌) (table_sum-set f g x h (suc i) n (further (λ w. clash (eq-eqb x i w) e)) (omega arith))
    ∙ sym (+ℤ_assoc (f i) _ _))
  where
    further : (x ≡ i → ⊥) → suc i ≤ x
    further d = omega arith

    at_first : eqb x i ≡ true → x ≡ i → table_sum (tabulate g i (suc n)) ≡ table_sum (tabulate f i (suc n)) +ℤ (g x -ℤ f x)
    at_first e z =
        ap (λ r. g i +ℤ table_sum r) (tabulate-ext g f (suc i) (suc i) n (λ k q. h (suc i + k) (ne_eqb x (suc i + k) (λ w. absurd (omega arith)))))
        ∙ rw z (exchange (g i) (f i) (table_sum (tabulate f (suc i) n)))

-- ---- the net change

module _ (o : ℕ → Amount) (m : ℕ) where
  -- a write moves the sum of the standing amounts by after less before
  table_sum-write : (t : Tag) (s x : ℕ) (b a : Amount) (p : History) → b ≡ stand o p x → x < m
      → table_sum (tabulate (stand o (write t s x b a ∷ p)) 0 m) ≡ table_sum (tabulate (stand o p) 0 m) +ℤ (a -ℤ b)
  table_sum-write t s x b a p e l =
      table_sum-set (stand o p) (stand o (write t s x b a ∷ p)) x
      (λ y q. rw (ne_eqb y x (λ w. clash (eq-eqb x y (sym w)) q)))
      0 m (omega arith) (omega arith)
      ∙ rw (eq-eqb x x refl, e)

  -- with no abort, and every item that is written below m
  pub net-stands : (p : History) → Legal o p → ((s : ℕ) → aborted p s ≡ false) → ((x : ℕ) → any (write_to x) p ≡ true → x < m)
      → table_sum (tabulate (stand o p) 0 m) ≡ table_sum (tabulate o 0 m) +ℤ net_change p
  unfolding net_change
  net-stands [] k n h = sym (+ℤ_idr _)
  net-stands (read t s x ∷ p) k n h = net-stands p k.0 n h
  net-stands (write t s x b a ∷ p) k n h =
      table_sum-write t s x b a p k.1.right (h x (or_left (eqb x x) _ (eq-eqb x x refl)))
      ∙ ap (◌+ℤ (a -ℤ b)) (net-stands p k.0 n (λ y q. h y (or_right (eqb y x) _ q)))
      ∙ +ℤ_assoc (table_sum (tabulate o 0 m)) (net_change p) (a -ℤ b)
  net-stands (commit t s ∷ p) k n h = net-stands p k.0 n h
  net-stands (abort t s ∷ p) k n h = clash (or_left (eqb s s) _ (eq-eqb s s refl)) (n s)
  net-stands (other t s ∷ p) k n h = net-stands p k.0 n h
