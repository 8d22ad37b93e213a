-- A take-back of the copy of a take-back is one take-back with both lists.
-- Assumes nothing.
use mathlib.Core.Path.{◌≡◌, sym, ◌∙◌, ap, fun_ext}
use mathlib.Core.Bool.{Bool, false≢true, true, false}
use mathlib.Core.List.{List, [], ◌∷◌, ◌++◌}
use Prim.Native.Nat.{ℕ}
use borrow.Author.Tests.{ne_eqb}
use Rattle.std.proofs.lemmas.Bool.{or_left}
use Rattle.lists.specs.Search.{member}
use Rattle.lists.proofs.BoolLaws.{by_cases, and_left, and_right}
use Rattle.lists.proofs.SearchLaws.{any_none, keep-keep}
use Rattle.lists.proofs.MemberLaws.{member-append}
use Rattle.model.specs.History.{Op, History, read, write, commit, abort, other, tx_of, commit_of, committed}
use Rattle.model.specs.Undo.{Upto, all, reads_from, by_member, reached, surviving, only, survivors}
use Rattle.model.proofs.Ends.{tail-ends, EndsLast, commit-of}
use Rattle.model.proofs.Closure.{by_member-agree, member-cond, reached-list, reached-skip, reached-closed, reached-least}
use Rattle.model.proofs.Removal.{any-only, reads_from-surviving, reads_from-copy}

module _ (φ : Op → Bool) (a b : List ℕ) (j : History) (c : EndsLast j) where
  listed_in : (s : ℕ) → surviving φ a j s ≡ true → member s b ≡ member s (a ++ b)
  listed_in s h =
      by_cases (member s a)
      (λ e. let i = reached-list φ a s j e in let n = and_right (committed j s) _ h in cc)
      (λ e. sym (member-append s a b ∙ (rw e)))

  abbrev Same : History → Type 0
  Same p = (s : ℕ) → surviving φ a j s ≡ true → member s (reached φ b (only (surviving φ a j) p)) ≡ member s (reached φ (a ++ b) p)

  step : (r : Op) (p : History) → Upto (r ∷ p) j → surviving φ a j (tx_of r) ≡ true → Same p
      → (s : ℕ) → surviving φ a j s ≡ true → member s (reached φ b (r ∷ only (surviving φ a j) p)) ≡ member s (reached φ (a ++ b) (r ∷ p))
  step (read t v x) p i e ih s h =
      rw (reads_from-copy φ a j c i e, by_member-agree (reached φ b (only (surviving φ a j) p)) (reached φ (a ++ b) p) (reads_from φ p v x) (λ w q. ih (tx_of w) (reads_from-surviving φ a j c i e q)))
      (member-cond s v _ _ (by_member (reached φ (a ++ b) p) (reads_from φ p v x)) (ih s h))
  step (write t v x d f) p i e ih s h = ih s h
  step (commit t v) p i e ih s h = ih s h
  step (abort t v) p i e ih s h = ih s h
  step (other t v) p i e ih s h = ih s h

  same-reached : (p : History) → Upto p j → Same p
  same-reached [] i s h = listed_in s h
  same-reached (r ∷ p) i s h =
      by_cases (surviving φ a j (tx_of r))
      (λ e. rw e (step r p i e (same-reached p (tail-ends i)) s h))
      (λ e. rw e (same-reached p (tail-ends i) s h ∙ sym (reached-skip φ (a ++ b) s r p (ne_eqb s (tx_of r) λ q. false≢true (sym e ∙ ap (surviving φ a j) (sym q) ∙ h)))))

  -- what a list takes back, a longer list takes back
  pub more-undone : (s : ℕ) → committed j s ≡ true → member s (reached φ a j) ≡ true → member s (reached φ (a ++ b) j) ≡ true
  more-undone =
      reached-least φ a j (λ s. member s (reached φ (a ++ b) j) ≡ true)
      (record { lists = λ s h. reached-list φ (a ++ b) s j (member-append s a b ∙ or_left (member s a) _ h); readers = λ i k e m. reached-closed φ (a ++ b) c i e m })

  pub surviving-less : (s : ℕ) → surviving φ (a ++ b) j s ≡ true → surviving φ a j s ≡ true
  surviving-less s h =
      by_cases (member s (reached φ a j))
      (λ e. let m = more-undone s (and_left (committed j s) _ h) e in let n = and_right (committed j s) _ h in cc)
      (λ e. rw e (rw (and_left (committed j s) _ h)))

  not-surviving : (s : ℕ) → surviving φ a j s ≡ false → surviving φ (a ++ b) j s ≡ false
  not-surviving s e = by_cases (surviving φ (a ++ b) j s) (λ h. absurd (false≢true (sym e ∙ surviving-less s h))) (λ h. h)

  not_own : (s : ℕ) (r : Op) → surviving φ a j s ≡ false → surviving φ a j (tx_of r) ≡ true → commit_of s r ≡ false
  not_own s r e h = by_cases (commit_of s r) (λ q. absurd (false≢true (sym e ∙ ap (surviving φ a j) (commit-of s r q) ∙ h))) (λ q. q)

  -- the transactions kept by the second are those that the one keeps
  pub surviving-joined : (s : ℕ) → surviving φ b (survivors φ a j) s ≡ surviving φ (a ++ b) j s
  surviving-joined s =
      by_cases (surviving φ a j s)
      (λ e. rw (any-only (surviving φ a j) (commit_of s) s (commit-of s) e j, same-reached j all s e))
      (λ e. rw (any_none (commit_of s) (λ r. surviving φ a j (tx_of r)) (λ r h. not_own s r e h) j) (sym (not-surviving s e)))

  -- and the copy is the same
  pub survivors-joined : survivors φ b (survivors φ a j) ≡ survivors φ (a ++ b) j
  survivors-joined = ap (λ k. only k (survivors φ a j)) (fun_ext surviving-joined) ∙ (keep-keep (λ r. surviving φ a j (tx_of r)) (λ r. surviving φ (a ++ b) j (tx_of r)) (λ r. surviving-less (tx_of r)) j)

-- committed in the copy: kept
pub survivors-committed : (φ : Op → Bool) (a : List ℕ) (j : History) (s : ℕ) → committed (survivors φ a j) s ≡ surviving φ a j s
survivors-committed φ a j s =
    by_cases (surviving φ a j s)
    (λ e. any-only (surviving φ a j) (commit_of s) s (commit-of s) e j ∙ and_left (committed j s) _ e ∙ sym e)
    (λ e. any_none (commit_of s) (λ r. surviving φ a j (tx_of r)) (λ r h.
    by_cases (commit_of s r) (λ q. absurd (false≢true (sym e ∙ ap (surviving φ a j) (commit-of s r q) ∙ h))) (λ q. q)) j ∙ sym e)
