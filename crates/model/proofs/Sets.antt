-- The undo set depends on the list only through its members; a list whose names already taken back are struck takes back the same.
-- Assumes nothing.
use mathlib.Core.Path.{◌≡◌, refl, sym, ◌∙◌, ap}
use mathlib.Core.Bool.{Bool, true, false, not, ◌&&◌}
use mathlib.Core.List.{List, [], ◌∷◌, ◌++◌}
use Prim.Native.Nat.{ℕ}
use Rattle.std.proofs.lemmas.Bool.{and_from, not_from_false, or_left, or_right}
use Rattle.lists.specs.Search.{keep, member}
use Rattle.lists.proofs.BoolLaws.{by_cases, or_cases, and_left, and_right, same_truth, clash}
use Rattle.lists.proofs.SearchLaws.{any_none}
use Rattle.lists.proofs.MemberLaws.{member-append, member-keep}
use Rattle.model.specs.History.{Op, History, read, write, commit, abort, other, tx_of, abort_of, committed, aborted}
use Rattle.model.specs.Undo.{reads_from, by_member, reached, undone, surviving, survivors}
use Rattle.model.proofs.Ends.{EndsLast, abort-of}
use Rattle.model.proofs.Closure.{by_member-agree, member-cond, reached-list, reached-closed, reached-least}
use Rattle.model.proofs.Removal.{any-only, surviving-unaborted}
use Rattle.model.proofs.Join.{more-undone}

-- ---- the same members

reached-cong : (φ : Op → Bool) (l m : List ℕ) → ((s : ℕ) → member s l ≡ member s m) → (j : History) (s : ℕ) → member s (reached φ l j) ≡ member s (reached φ m j)
reached-cong φ l m h [] s = h s
reached-cong φ l m h (read t v x ∷ p) s =
    let ih = reached-cong φ l m h p in
    rw (by_member-agree (reached φ l p) (reached φ m p) (reads_from φ p v x) (λ w q. ih (tx_of w)))
    (member-cond s v (reached φ l p) (reached φ m p) (by_member (reached φ m p) (reads_from φ p v x)) (ih s))
reached-cong φ l m h (write t v x b a ∷ p) s = reached-cong φ l m h p s
reached-cong φ l m h (commit t v ∷ p) s = reached-cong φ l m h p s
reached-cong φ l m h (abort t v ∷ p) s = reached-cong φ l m h p s
reached-cong φ l m h (other t v ∷ p) s = reached-cong φ l m h p s

pub surviving-cong : (φ : Op → Bool) (l m : List ℕ) → ((s : ℕ) → member s l ≡ member s m) → (j : History) (s : ℕ) → surviving φ l j s ≡ surviving φ m j s
surviving-cong φ l m h j s = rw (reached-cong φ l m h j s)

-- a committed transaction is taken back if it is not kept
pub undone-surviving : (φ : Op → Bool) (l : List ℕ) (j : History) (s : ℕ) → undone φ l j s ≡ committed j s && not (surviving φ l j s)
undone-surviving φ l j s = go (committed j s) (member s (reached φ l j))
  where
    go : (c m : Bool) → c && m ≡ c && not (c && not m)
    go true true = refl
    go true false = refl
    go false m = refl

-- ---- names already taken back, struck

module _ (φ : Op → Bool) (a l : List ℕ) (j : History) (c : EndsLast j) where
  -- what is left of l
  rest : List ℕ
  rest = keep (λ s. not (undone φ a j s)) l

  keep-lists : (s : ℕ) → member s (a ++ rest) ≡ true → member s (a ++ l) ≡ true
  unfolding rest
  keep-lists s h =
      rw (member-append s a l)
      (or_cases (member s a) (member s rest) (sym (member-append s a rest) ∙ h)
      (λ e. or_left (member s a) _ e)
      (λ e. or_right (member s a) _ (and_right (not (undone φ a j s)) _ (sym (member-keep (λ s. not (undone φ a j s)) s l) ∙ e))))

  lists-keep : (s : ℕ) → member s (a ++ l) ≡ true → member s (reached φ (a ++ rest) j) ≡ true
  unfolding rest
  lists-keep s h =
      or_cases (member s a) (member s l) (sym (member-append s a l) ∙ h)
      (λ e. reached-list φ (a ++ rest) s j (rw (member-append s a rest) (or_left (member s a) _ e)))
      (λ e. by_cases (undone φ a j s)
      (λ u. more-undone φ a rest j c s (and_left (committed j s) _ u) (and_right (committed j s) _ u))
      (λ u. reached-list φ (a ++ rest) s j (rw (member-append s a rest) (or_right (member s a) _ (member-keep (λ s. not (undone φ a j s)) s l ∙ and_from _ _ (not_from_false _ u) e)))))

  -- the names that were struck change nothing
  pub surviving-remaining : (s : ℕ) → surviving φ (a ++ keep (λ v. not (undone φ a j v)) l) j s ≡ surviving φ (a ++ l) j s
  unfolding rest
  surviving-remaining s =
      by_cases (committed j s)
      (λ k. ap (λ m. committed j s && not m)
      (same_truth _ _
      (λ e. reached-least φ (a ++ rest) j (λ v. member v (reached φ (a ++ l) j) ≡ true)
      (record { lists = λ v h. reached-list φ (a ++ l) v j (keep-lists v h); readers = λ i q e m. reached-closed φ (a ++ l) c i e m }) s k e)
      (λ e. reached-least φ (a ++ l) j (λ v. member v (reached φ (a ++ rest) j) ≡ true)
      (record { lists = lists-keep; readers = λ i q e m. reached-closed φ (a ++ rest) c i e m }) s k e)))
      (λ k. rw k)

-- the kept records have no rollback
pub survivors-unaborted : (φ : Op → Bool) (l : List ℕ) (j : History) → EndsLast j → (s : ℕ) → aborted (survivors φ l j) s ≡ false
survivors-unaborted φ l j c s =
    by_cases (surviving φ l j s)
    (λ e. any-only (surviving φ l j) (abort_of s) s (abort-of s) e j ∙ surviving-unaborted φ l j c s e)
    (λ e. any_none (abort_of s) (λ r. surviving φ l j (tx_of r)) (λ r q.
    by_cases (abort_of s r) (λ z. clash (rw (← abort-of s r z) at q) e) (λ z. z)) j)
