-- Counts that are the same by rule 15's test.
-- Assumes nothing.
use mathlib.Core.Path.{◌≡◌, refl, ap, ◌∙◌}
use mathlib.Core.Bool.{Bool, true, false, not}
use mathlib.Core.List.{List}
use native.Mathlib.Omega.{arith}
use Prim.Native.Nat.{ℕ, ◌≤◌}
use Rattle.std.proofs.lemmas.Grind.{common_steps}
use Rattle.journal.specs.Journal.{count, history, whole}
use Rattle.journal.specs.Refusals.{RecordCounts, same_counts, counts_by_kind, wrong_counts}
use Rattle.counts.specs.declared.Counts.{Counts}
use Rattle.counts.specs.Answers.{record_counts_of, Few}
use Rattle.counts.proofs.KindCounts.{few}

pub right-counts : (b : List ℕ) (c : RecordCounts) → wrong_counts b c ≡ false → c ≡ counts_by_kind (whole b)
unfolding wrong_counts
right-counts b c e = grind (arith, common_steps)

-- counts that agree can rise
pub agreed-few : (b : List ℕ) (c : Counts) → count b ≤ 3200 → wrong_counts b (record_counts_of c) ≡ false → Few c
unfolding whole
agreed-few b c l e = few b (count b) c l (right-counts b (record_counts_of c) e)

-- a test of the counts decides rule 15
pub agreed : (b : List ℕ) (n : ℕ) (c d : Counts) (h : Bool) → n ≡ count b → record_counts_of d ≡ counts_by_kind (history b n) → h ≡ same_counts (record_counts_of c) (record_counts_of d) → h ≡ not (wrong_counts b (record_counts_of c))
unfolding wrong_counts whole
agreed b n c d h e f q =
    q ∙ ap (same_counts (record_counts_of c)) f ∙ ap (λ k. same_counts (record_counts_of c) (counts_by_kind (history b k))) e ∙ twice _
  where
    twice : (x : Bool) → x ≡ not (not x)
    twice true = refl
    twice false = refl
