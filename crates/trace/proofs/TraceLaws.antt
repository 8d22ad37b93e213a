-- The trace: what one record does to the arrays, and the arrays after n records, from any arrays and from the list.
-- Assumes nothing.
use mathlib.Core.Path.{◌≡◌, refl, sym, ◌∙◌, ap}
use mathlib.Core.Bool.{Bool, true, false, not, ◌&&◌, and-false}
use mathlib.Core.List.{List, [], ◌∷◌}
use mathlib.Core.Option.{Option}
use Prim.Native.Nat.{ℕ, zero, suc, ◌≤◌, ◌<◌}
use native.Mathlib.Omega.{arith}
use lib.Dec.{eqb}
use lib.ListN.{replicate}
use borrow.Author.Tests.{eq-eqb}
use Rattle.lists.specs.Search.{member}
use Rattle.lists.specs.Tables.{stepped}
use Rattle.lists.proofs.BoolLaws.{by_cases}
use Rattle.lists.proofs.TablesLaws.{ByIndex, by_index, by-index-all, by-index-same, by-index-set, stepped_start, stepped-suc}
use Rattle.format.specs.declared.Record.{Record}
use Rattle.format.specs.declared.TransactionId.{TransactionId}
use Rattle.format.specs.Layout.{record_at}
use Rattle.model.specs.History.{Op, History, read, write, commit, abort, other}
use Rattle.model.specs.Undo.{is_source, source_by}
use Rattle.journal.specs.Journal.{items, tx_in, op_of, history}
use Rattle.journal.proofs.Records.{tx_of-op_of, history-zero, history-suc}
use Rattle.journal.proofs.Unrefused.{op_of-read, op_of-write}
use Rattle.journal.specs.Refusals.{malformed}
use Rattle.arrays.specs.Arrays.{Ready}
use Rattle.arrays.proofs.Found.{Found, nothing, at, latest-found, passed-right, passed-range}
use Rattle.arrays.proofs.ArraysLaws.{item-read, by-access}
use Rattle.trace.specs.Codes.{coded, flags_of}
use Rattle.trace.specs.Trace.{nobody, writer_in, source, source_id, sources_of, traced, flags_read, sources_write, flags_after, sources_after, trace_step}
use Rattle.trace.proofs.CodesLaws.{flags-array, flags-more}

-- ---- one record, by its kind

module _ {A : Type 0} (unmarked marked : A) (is_marked : A → Bool) where
  -- sources and flags, one step on
  abbrev pub Step : (i : ℕ) → Record → (ends : List ℕ) → List TransactionId → List A → List TransactionId × List A → Type 0
  Step i r ends sources flags t = t ≡ (sources_after (op_of i r) ends sources, flags_after unmarked marked is_marked (op_of i r) sources flags)

  module _ (i : ℕ) (r : Record) (ends : List ℕ) (sources : List TransactionId) (flags : List A) where
    pub step-read : r.kind ≡ 1 → Step i r ends sources flags (sources, flags_read unmarked marked is_marked sources (tx_in r) r.item.0 flags)
    unfolding flags_after sources_after
    step-read k = rw (op_of-read i r k)

    pub step-write : r.kind ≡ 2 → is_source (write i (tx_in r) r.item.0 r.before r.after) ≡ true → Step i r ends sources flags (sources_write ends (tx_in r) r.item.0 sources, flags)
    unfolding flags_after sources_after
    step-write k e = rw (op_of-write i r k, e)

    pub step-unfeeding : r.kind ≡ 2 → is_source (write i (tx_in r) r.item.0 r.before r.after) ≡ false → Step i r ends sources flags (sources, flags)
    unfolding flags_after sources_after
    step-unfeeding k e = rw (op_of-write i r k, e)

    pub step-other : (r.kind ≡ 1 → ⊥) → (r.kind ≡ 2 → ⊥) → Step i r ends sources flags (sources, flags)
    unfolding flags_after sources_after
    step-other k l =
        by-access (λ o. ◌≡◌ {A = List TransactionId × List A} (sources, flags) (sources_after o ends sources, flags_after unmarked marked is_marked o sources flags)) i r (λ e. absurd (k e)) (λ e. absurd (l e)) refl refl refl

-- ---- the arrays after p

sources-array : (c : ℕ → Bool) (p : History) → ByIndex (source_id c p) 1024 (sources_of c p)
unfolding sources_of
sources-array c p = by_index _ 1024

sources-op : (ends : List ℕ) (p : History) (r : Op) → sources_after r ends (sources_of (coded 1 ends) p) ≡ sources_of (coded 1 ends) (r ∷ p)
unfolding sources_after sources_write sources_of
sources-op ends p (read t s x) = refl
sources-op ends p (write t s x b a) =
    let old = sources-array (coded 1 ends) p in
    let new = sources-array (coded 1 ends) (write t s x b a ∷ p) in
    by_cases (is_source (write t s x b a))
    (λ f. rw f
    (by_cases (coded 1 ends s)
    (λ e. rw e (by-index-set x (record { 0 = s }) nobody old new (rw (eq-eqb x x refl, e, f)) (λ j q. rw q)))
    (λ e. rw e (by-index-same nobody old new (λ j. rw (e, and-false (eqb j x)))))))
    (λ f. rw f (by-index-same nobody old new (λ j. rw (f, and-false (eqb j x && coded 1 ends s)))))
sources-op ends p (commit t s) = refl
sources-op ends p (abort t s) = refl
sources-op ends p (other t s) = refl

-- a read of an item that is below 1,024, fed by a transaction that is not above 1,024
abbrev Narrow : (ℕ → Bool) → History → Op → Type 0
Narrow c p (read t s x) = (x < 1024) × (source c p x < 1025)
Narrow c p (write t s x b a) = Unit {0}
Narrow c p (commit t s) = Unit {0}
Narrow c p (abort t s) = Unit {0}
Narrow c p (other t s) = Unit {0}

flags-op : (c : ℕ → Bool) (bad : List ℕ) (p : History) (r : Op) → Narrow c p r → flags_after false true (λ f. f) r (sources_of c p) (flags_of (traced c bad p)) ≡ flags_of (traced c bad (r ∷ p))
unfolding flags_after flags_read
flags-op c bad p (read t s x) n =
    rw ((sources-array c p).at x nobody n.0, (flags-array (traced c bad p)).at (source c p x) false n.1)
    (by_cases (not (eqb (source c p x) 0) && member (source c p x) (traced c bad p)) (λ e. rw e (flags-more (traced c bad p) s)) (λ e. rw e))
flags-op c bad p (write t s x b a) n = refl
flags-op c bad p (commit t s) n = refl
flags-op c bad p (abort t s) n = refl
flags-op c bad p (other t s) n = refl

writer-range : (b : List ℕ) (n i : ℕ) → Ready b n → i ≤ n → {o : Option Op} → Found b i o → writer_in o < 1025
writer-range b n i k h nothing = omega arith
writer-range b n i k h (at t l m) = rw (tx_of-op_of t (record_at b t)) (omega (arith, (passed-range b n k.passed t l (omega arith)).1))

module _ (b : List ℕ) (n i : ℕ) (k : Ready b n) (h : i < n) where
  formed-at : malformed (items b) (record_at b (suc i)) ≡ false
  formed-at = (passed-right b n k.passed i h).formed

  narrow_at : (c : ℕ → Bool) → Narrow c (history b i) (op_of (suc i) (record_at b (suc i)))
  narrow_at c =
      let r = record_at b (suc i) in
      by-access (Narrow c (history b i)) (suc i) r
      (λ e. (item-read b n r k formed-at e, writer-range b n i k (omega arith) (latest-found (source_by is_source c r.item.0) b i)))
      (λ e. tt) tt tt tt

-- ---- the pass

-- with flags of Bool
abbrev bool_step : List ℕ → List ℕ → ℕ → List TransactionId × List Bool → List TransactionId × List Bool
bool_step = trace_step false true (λ f. f)

-- from no source at all and the flags of the list it is the trace

trace-all : (b ends bad : List ℕ) (n i : ℕ) → Ready b n → i ≤ n
    → stepped (bool_step b ends) i (replicate 1024 nobody, flags_of bad) ≡ (sources_of (coded 1 ends) (history b i), flags_of (traced (coded 1 ends) bad (history b i)))
unfolding trace_step
trace-all b ends bad n zero k h =
    sym (stepped_start (bool_step b ends) _) ∙ rw history-zero (ap (λ l. (l, flags_of bad)) (by-index-all nobody nobody (sources-array (coded 1 ends) []) (λ j. refl)))
trace-all b ends bad n (suc i) k h =
    let p = history b i in
    let r = op_of (suc i) (record_at b (suc i)) in
    let new = flags-op (coded 1 ends) bad p r (narrow_at b n i k (omega arith) (coded 1 ends)) in
    stepped-suc (bool_step b ends) i _ ∙ ap (bool_step b ends (suc i)) (trace-all b ends bad n i k (omega arith)) ∙ rw (history-suc b i) (λ v. (sources-op ends p r v, new v))

pub trace-done : (b ends bad : List ℕ) (flags₀ flags : List Bool) (sources : List TransactionId) (n : ℕ) → Ready b n → flags₀ ≡ flags_of bad → (sources, flags) ≡ stepped (bool_step b ends) n (replicate 1024 nobody, flags₀)
    → flags ≡ flags_of (traced (coded 1 ends) bad (history b n))
trace-done b ends bad flags₀ flags sources n k f e =
    ap (λ s. s.1) (e ∙ ap (λ l. stepped (bool_step b ends) n (replicate 1024 nobody, l)) f ∙ trace-all b ends bad n n k (omega arith))
