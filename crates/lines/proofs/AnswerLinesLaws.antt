-- Lines that are printed or not, line by line.
-- Assumes nothing.
use Rattle.std.proofs.Common.{◌≡◌, ℕ, suc, ◌+◌, ◌-◌, ◌<◌, List, ◌++◌, arith, ap, ◌∙◌, true, false}
use Rattle.lists.specs.Tables.{each}
use Rattle.lists.proofs.TablesLaws.{each-zero, each_last, each-add}
use Rattle.std.proofs.lemmas.Int.{to_z-of_z}
use Rattle.lists.proofs.BoolLaws.{by_cases}
use Rattle.model.specs.History.{Amount, same_amount}
use Rattle.model.proofs.Amounts.{same_refl, same-eq}
use lib.ListN.{get_or}
use borrow.Author.Tests.{eq-eqb}
use Rattle.lines.specs.AnswerLines.{undone_in}
use Rattle.text.specs.Lines.{undone_line}
use Rattle.text.specs.Puts.{Fits}
use Rattle.text.specs.declared.Page.{Page}
use Rattle.text.specs.Pages.{HasRoom, Writes}
use Rattle.text.proofs.PutsLaws.{writes-none, room-front, room-behind, writes-behind}

-- of n lines the first k, the next, and the rest
each_next : (f : ℕ → List ℕ) (b k n : ℕ) → k < n → each f b n ≡ each f b k ++ f (b + k) ++ each f (b + suc k) (n - suc k)
each_next f b k n h =
    let e : n ≡ suc k + (n - suc k) = omega arith in
    ap (each f b) e ∙ each-add f b (suc k) (n - suc k) ∙ ap (λ v. v ++ each f (b + suc k) (n - suc k)) (each_last f b k)

pub each-none : (f : ℕ → List ℕ) (b : ℕ) (p : Page) → Writes p (each f b 0) p
each-none f b p = rw (each-zero f b) (writes-none p)

-- line i, the kth from b on
module _ (f : ℕ → List ℕ) (b k i n : ℕ) (e : i ≡ b + k) (h : k < n) {p q : Page} (room : HasRoom p (each f b n)) (done : Writes p (each f b k) q) where
  room-through : HasRoom p (each f b k ++ f i)
  room-through = room-front _ (each f (b + suc k) (n - suc k)) (rw (each_next f b k n h, ← e) at room)

  pub room-line : HasRoom q (f i)
  room-line = room-behind _ _ room-through done

  pub writes-line : {r : Page} → Writes q (f i) r → Writes p (each f b (suc k)) r
  writes-line more = rw (each_last f b k, ← e) (writes-behind _ _ room-through done more)

-- ---- amounts

pub same_amount-yes : (a b : Amount) → a ≡ b → same_amount a b ≡ true
same_amount-yes a b e = rw e (same_refl b)

pub same_amount-no : (a b : Amount) → (a ≡ b → ⊥) → same_amount a b ≡ false
same_amount-no a b n = by_cases (same_amount a b) (λ e. absurd (n (same-eq a b e))) (λ e. e)

-- what writes a line, or none
pub ruleset line_steps = (same_amount-yes, same_amount-no, to_z-of_z, writes-none)

-- ---- the line of a transaction that was undone

pub undone_in-yes : (status : List ℕ) (s : ℕ) → get_or status s 0 ≡ 2 → undone_in status s ≡ undone_line s
unfolding undone_in
undone_in-yes status s e = rw (eq-eqb _ _ e)

-- room for the line, where there is one
pub marked_room : (status : List ℕ) (s at : ℕ) (l : List ℕ) → get_or status s 0 ≡ 2 → Fits at (undone_in status s) l → Fits at (undone_line s) l
marked_room status s at l e f = rw (undone_in-yes status s e) at f
