-- The counts by kind of a journal's records.
-- Assumes nothing.
use mathlib.Core.Path.{◌≡◌, sym, ◌∙◌}
use mathlib.Core.List.{List}
use Prim.Native.Nat.{ℕ, suc, ◌+◌, ◌≤◌}
use native.Mathlib.Omega.{arith}
use native.Mathlib.Numerals.{add-one}
use Rattle.std.proofs.lemmas.Grind.{common_steps}
use Rattle.lists.proofs.SearchLaws.{length-keep}
use Rattle.format.specs.Layout.{record_at}
use Rattle.journal.specs.Journal.{history}
use Rattle.journal.specs.Refusals.{counts_by_kind}
use Rattle.journal.specs.Calls.{raised}
use Rattle.journal.proofs.Records.{length-history, history-zero, history-suc}
use Rattle.journal.proofs.Appending.{counts_by_kind-extended}
use Rattle.counts.specs.declared.Counts.{Counts}
use Rattle.counts.specs.Answers.{record_counts_of, Few}

-- the counts of at most 3,200 records can rise
pub few : (b : List ℕ) (i : ℕ) (c : Counts) → i ≤ 3200 → record_counts_of c ≡ counts_by_kind (history b i) → Few c
unfolding counts_by_kind
few b i c l e = let n = length-history b i in grind (arith, common_steps, length-keep)

pub counting-start : (b : List ℕ) (c : Counts) → c.reads ≡ 0 → c.writes ≡ 0 → c.commits ≡ 0 → c.aborts ≡ 0 → record_counts_of c ≡ counts_by_kind (history b 0)
unfolding counts_by_kind
counting-start b c r w m a = rw (r, w, m, a, history-zero b)

pub counting-step : (b : List ℕ) (i : ℕ) (c : Counts) → record_counts_of c ≡ counts_by_kind (history b i) → (kind : ℕ) (d : Counts) → kind ≡ (record_at b (i + 1)).kind
    → record_counts_of d ≡ raised kind (record_counts_of c) → record_counts_of d ≡ counts_by_kind (history b (i + 1))
counting-step b i c e kind d k q = q ∙ rw (k, e, add-one, history-suc b i) (sym (counts_by_kind-extended (suc i) (record_at b (suc i)) (history b i)))
