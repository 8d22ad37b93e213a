-- The ends that the working array holds, and the transactions of a journal whose records passed: 1 to 1,024.
-- Assumes nothing.
use mathlib.Core.Path.{◌≡◌, refl, sym, ◌∙◌, fun_ext}
use mathlib.Core.Bool.{Bool, false}
use mathlib.Core.List.{List}
use Prim.Native.Nat.{ℕ, zero, suc, ◌≤◌, ◌<◌}
use native.Mathlib.Omega.{arith}
use lib.Dec.{ltb}
use lib.ListN.{get_or-eq_default}
use borrow.Author.Tests.{ltb-true, ltb-false}
use Rattle.lists.specs.Search.{any}
use Rattle.lists.proofs.BoolLaws.{by_cases}
use Rattle.format.specs.Layout.{record_at}
use Rattle.model.specs.History.{Op, commit_of, committed, aborted}
use Rattle.model.proofs.Ends.{OfTx, EndsLast, commit-of}
use Rattle.model.proofs.Opening.{passing-ends}
use Rattle.journal.specs.Journal.{tx_in, op_of, history}
use Rattle.journal.proofs.Records.{tx_of-op_of}
use Rattle.arrays.specs.Arrays.{Ready, ends_of}
use Rattle.arrays.proofs.Found.{passed-range, passing-history}
use Rattle.arrays.proofs.EndCodes.{code-committed, code-aborted}
use Rattle.arrays.proofs.ArraysLaws.{ends-array}
use Rattle.trace.specs.Codes.{coded}

-- ---- a journal whose records passed

module _ (b : List ℕ) (n : ℕ) (k : Ready b n) where
  pub ends_last : EndsLast (history b n)
  ends_last = passing-ends (passing-history b n k.passed)

  -- no record is of a transaction outside 1 to 1,024
  absent-to : (f : Op → Bool) (s : ℕ) → OfTx f s → ((1 ≤ s) × (s ≤ 1024) → ⊥) → (i : ℕ) → i ≤ n → any f (history b i) ≡ false
  unfolding history
  absent-to f s o h zero l = refl
  absent-to f s o h (suc i) l =
      by_cases (f (op_of (suc i) (record_at b (suc i))))
      (λ e. let z : s ≡ tx_in (record_at b (suc i)) = o _ e ∙ tx_of-op_of (suc i) (record_at b (suc i)) in
      let u = passed-range b n k.passed (suc i) (omega arith) l in absurd (h (rw z u)))
      (λ e. rw e (absent-to f s o h i (omega arith)))

  pub none-committed : (s : ℕ) → ((1 ≤ s) × (s ≤ 1024) → ⊥) → committed (history b n) s ≡ false
  none-committed s h = absent-to (commit_of s) s (commit-of s) h n (omega arith)

  module _ (ends : List ℕ) (e : ends ≡ ends_of (history b n)) where
    pub coded-committed : (s : ℕ) → coded 1 ends s ≡ committed (history b n) s
    unfolding coded
    coded-committed s =
        by_cases (ltb s 1025)
        (λ q. rw (e, (ends-array (history b n)).at s 0 (ltb-true s 1025 q)) (code-committed s (history b n) ends_last))
        (λ q. let l = ltb-false s 1025 q in
        rw (e, get_or-eq_default (ends_of (history b n)) 0 {n = s} (omega (arith, (ends-array (history b n)).size))) (sym (none-committed s (λ u. omega arith))))

    pub coded-aborted : (s : ℕ) → s < 1025 → coded 2 ends s ≡ aborted (history b n) s
    unfolding coded
    coded-aborted s h = rw (e, (ends-array (history b n)).at s 0 h) (code-aborted s (history b n) ends_last)

    pub committed-coded : coded 1 ends ≡ committed (history b n)
    committed-coded = fun_ext coded-committed
