-- The table left: what one record does to it, and the table after n records.
-- Assumes nothing.
use mathlib.Core.Path.{◌≡◌, refl, sym, ◌∙◌, ap, subst}
use mathlib.Core.Bool.{Bool, true, false, cond, not}
use mathlib.Core.List.{List, [], ◌∷◌}
use Prim.Native.Nat.{ℕ, zero, suc, ◌+◌, ◌≤◌, ◌<◌}
use native.Mathlib.Omega.{arith}
use lib.Dec.{eqb}
use lib.IntN.{pos}
use lib.ListN.{length, get_or, set, replicate}
use lib.Seq.{set-set}
use borrow.Author.Tests.{eqb-true, eq-eqb}
use Rattle.lists.specs.Search.{any}
use Rattle.lists.specs.Tables.{stepped, coded}
use Rattle.lists.proofs.BoolLaws.{by_cases, or-false-left, or-false-right}
use Rattle.lists.proofs.SearchLaws.{first-skip, first-new, first-old}
use Rattle.lists.proofs.TablesLaws.{tabulate-ext, tabulate-get_or, ByIndex, by_index, by-index-all, by-index-set, stepped_start, stepped-suc}
use Rattle.format.specs.declared.Record.{Record}
use Rattle.format.specs.Layout.{record_at}
use Rattle.model.specs.History.{Op, History, Amount, read, write, commit, abort, other, write_to, before_in, initial}
use Rattle.model.specs.Undo.{replayed}
use Rattle.journal.specs.Inputs.{inputs_of}
use Rattle.journal.specs.Journal.{count, tx_in, op_of, history, whole, amount_at}
use Rattle.journal.specs.Results.{opening_at, table_surviving}
use Rattle.journal.proofs.Records.{history-zero, history-suc}
use Rattle.journal.proofs.Unrefused.{op_of-write}
use Rattle.arrays.specs.Arrays.{Ready}
use Rattle.arrays.proofs.ArraysLaws.{by-access, item-write}
use Rattle.arrays.proofs.Found.{passed-right}
use Rattle.replay.specs.Replaying.{seen_of, left_after, opened_at, table_write, table_after, seen_after, replay_step}

-- ---- one record, by its kind

module _ {A : Type 0} (unmarked marked : A) (is_unmarked : A → Bool) where
  -- marks and table, one step on
  abbrev pub Step : (i : ℕ) → Record → (fates : List ℕ) → List A → List Amount → List A × List Amount → Type 0
  Step i r fates seen t s =
      s ≡ (seen_after unmarked marked is_unmarked (op_of i r) seen, table_after unmarked marked is_unmarked fates (op_of i r) seen t)

  module _ (i : ℕ) (r : Record) (fates : List ℕ) (seen : List A) (t : List Amount) where
    pub step-write : r.kind ≡ 2 → Step i r fates seen t (set seen r.item.0 marked, table_write unmarked marked is_unmarked fates seen (tx_in r) r.item.0 r.before r.after t)
    unfolding seen_after table_after
    step-write k = rw (op_of-write i r k)

    pub step-other : (r.kind ≡ 2 → ⊥) → Step i r fates seen t (seen, t)
    unfolding seen_after table_after
    step-other k =
        by-access (λ o. ◌≡◌ {A = List A × List Amount} (seen, t) (seen_after unmarked marked is_unmarked o seen, table_after unmarked marked is_unmarked fates o seen t)) i r (λ e. refl) (λ e. absurd (k e)) refl refl refl

-- ---- after n records

seen-array : (p : History) → ByIndex (λ x. any (write_to x) p) 1024 (seen_of p)
unfolding seen_of
seen-array p = by_index _ 1024

left-start : (k : ℕ → Bool) (t : List Amount) → t ≡ left_after k [] t
unfolding left_after
left-start k t = sym (tabulate-get_or t (pos 0))

seen-op : (p : History) (r : Op) → seen_after false true not r (seen_of p) ≡ seen_of (r ∷ p)
unfolding seen_after seen_of
seen-op p (read t s x) = refl
seen-op p (write t s x b a) = by-index-set x true false (seen-array p) (seen-array (write t s x b a ∷ p)) (rw (eq-eqb x x refl)) (λ j q. rw q)
seen-op p (commit t s) = refl
seen-op p (abort t s) = refl
seen-op p (other t s) = refl

-- a write to an item below 1,024
abbrev Narrow : Op → Type 0
Narrow (read t s x) = Unit {0}
Narrow (write t s x b a) = x < 1024
Narrow (commit t s) = Unit {0}
Narrow (abort t s) = Unit {0}
Narrow (other t s) = Unit {0}

module _ (k : ℕ → Bool) (l : List Amount) where
  -- the amount of item x after p
  amount : History → ℕ → Amount
  amount p x = replayed k (initial (amount_at l x) p x) p x

  replayed-unwritten : (d : Amount) (p : History) (x : ℕ) → any (write_to x) p ≡ false → replayed k d p x ≡ d
  replayed-unwritten d [] x h = refl
  replayed-unwritten d (read t s y ∷ p) x h = replayed-unwritten d p x h
  replayed-unwritten d (write t s y b a ∷ p) x h = rw (or-false-left (eqb x y) _ h) (replayed-unwritten d p x (or-false-right (eqb x y) _ h))
  replayed-unwritten d (commit t s ∷ p) x h = replayed-unwritten d p x h
  replayed-unwritten d (abort t s ∷ p) x h = replayed-unwritten d p x h
  replayed-unwritten d (other t s ∷ p) x h = replayed-unwritten d p x h

  -- a write to another item changes nothing
  amount-apart : (t s x : ℕ) (b a : Amount) (p : History) (j : ℕ) → eqb j x ≡ false → amount (write t s x b a ∷ p) j ≡ amount p j
  unfolding amount
  amount-apart t s x b a p j q =
      ap (λ o. replayed k (before_in o (amount_at l j)) (write t s x b a ∷ p) j) (first-skip (write_to j) (write t s x b a) p q) ∙ rw q

  -- the first write opens the item at its before image
  amount-first : (t s x : ℕ) (b a : Amount) (p : History) → any (write_to x) p ≡ false → amount (write t s x b a ∷ p) x ≡ cond (k s) a b
  unfolding amount
  amount-first t s x b a p n =
      ap (λ o. replayed k (before_in o (amount_at l x)) (write t s x b a ∷ p) x) (first-new (write_to x) (write t s x b a) p (eq-eqb x x refl) n)
      ∙ rw (eq-eqb x x refl, replayed-unwritten b p x n)

  amount-later : (t s x : ℕ) (b a : Amount) (p : History) → any (write_to x) p ≡ true → amount (write t s x b a ∷ p) x ≡ cond (k s) a (amount p x)
  unfolding amount
  amount-later t s x b a p n =
      ap (λ o. replayed k (before_in o (amount_at l x)) (write t s x b a ∷ p) x) (first-old (write_to x) (write t s x b a) p n) ∙ rw (eq-eqb x x refl)

module _ (fates : List ℕ) (l : List Amount) where
  seen_at : (p : History) (x : ℕ) → x < 1024 → get_or (seen_of p) x false ≡ any (write_to x) p
  seen_at p x h = (seen-array p).at x false h

  put : (p : History) (t s x : ℕ) (b a v : Amount) → amount (coded 1 fates) l (write t s x b a ∷ p) x ≡ v → set (left_after (coded 1 fates) p l) x v ≡ left_after (coded 1 fates) (write t s x b a ∷ p) l
  unfolding left_after amount
  put p t s x b a v e =
      by-index-set x v (pos 0) (by_index (amount (coded 1 fates) l p) (length l)) (by_index (amount (coded 1 fates) l (write t s x b a ∷ p)) (length l)) e
      (λ j q. amount-apart (coded 1 fates) l t s x b a p j q)

  leave : (p : History) (t s x : ℕ) (b a : Amount) → amount (coded 1 fates) l (write t s x b a ∷ p) x ≡ amount (coded 1 fates) l p x → left_after (coded 1 fates) p l ≡ left_after (coded 1 fates) (write t s x b a ∷ p) l
  unfolding left_after amount
  leave p t s x b a e =
      tabulate-ext (amount (coded 1 fates) l p) (amount (coded 1 fates) l (write t s x b a ∷ p)) 0 0 (length l)
      (λ j h. by_cases (eqb (0 + j) x)
      (λ q. subst (λ y. amount (coded 1 fates) l p y ≡ amount (coded 1 fates) l (write t s x b a ∷ p) y) (sym (eqb-true (0 + j) x q)) (sym e))
      (λ q. sym (amount-apart (coded 1 fates) l t s x b a p (0 + j) q)))

  left-write : (p : History) (t s x : ℕ) (b a : Amount) → x < 1024
      → table_write false true not fates (seen_of p) s x b a (left_after (coded 1 fates) p l) ≡ left_after (coded 1 fates) (write t s x b a ∷ p) l
  unfolding table_write opened_at
  left-write p t s x b a h =
      by_cases (any (write_to x) p)
      (λ n. rw (seen_at p x h, n)
      (by_cases (coded 1 fates s)
      (λ e. rw e (put p t s x b a a (amount-later (coded 1 fates) l t s x b a p n ∙ rw e)))
      (λ e. rw e (leave p t s x b a (amount-later (coded 1 fates) l t s x b a p n ∙ rw e)))))
      (λ n. rw (seen_at p x h, n)
      (by_cases (coded 1 fates s)
      (λ e. rw (e, set-set) (put p t s x b a a (amount-first (coded 1 fates) l t s x b a p n ∙ rw e)))
      (λ e. rw e (put p t s x b a b (amount-first (coded 1 fates) l t s x b a p n ∙ rw e)))))

  left-op : (p : History) (r : Op) → Narrow r → table_after false true not fates r (seen_of p) (left_after (coded 1 fates) p l) ≡ left_after (coded 1 fates) (r ∷ p) l
  unfolding table_after left_after
  left-op p (read t s x) h = refl
  left-op p (write t s x b a) h = left-write p t s x b a h
  left-op p (commit t s) h = refl
  left-op p (abort t s) h = refl
  left-op p (other t s) h = refl

module _ (b : List ℕ) (n i : ℕ) (k : Ready b n) (h : i < n) where
  narrow_at : Narrow (op_of (suc i) (record_at b (suc i)))
  narrow_at =
      let r = record_at b (suc i) in
      by-access Narrow (suc i) r (λ e. tt) (λ e. item-write b n r k (passed-right b n k.passed i h).formed e) tt tt tt

-- ---- the pass

-- from no marks at all it is the table left

replay-all : (b fates : List ℕ) (n i : ℕ) (t : List Amount) → Ready b n → i ≤ n
    → stepped (replay_step false true not b fates) i (replicate 1024 false, t) ≡ (seen_of (history b i), left_after (coded 1 fates) (history b i) t)
unfolding replay_step
replay-all b fates n zero t k h =
    let none = by-index-all false false (seen-array []) (λ j. refl) in
    let old = left-start (coded 1 fates) t in
    sym (stepped_start (replay_step false true not b fates) _) ∙ rw history-zero (λ v. (none v, old v))
replay-all b fates n (suc i) t k h =
    let p = history b i in
    let r = op_of (suc i) (record_at b (suc i)) in
    let new = left-op fates t p r (narrow_at b n i k (omega arith)) in
    stepped-suc (replay_step false true not b fates) i _ ∙ ap (replay_step false true not b fates (suc i)) (replay-all b fates n i t k (omega arith)) ∙ rw (history-suc b i) (λ v. (seen-op p r v, new v))

pub left-done : (b fates : List ℕ) (seen : List Bool) (n : ℕ) (t m : List Amount) → Ready b n → (seen, m) ≡ stepped (replay_step false true not b fates) n (replicate 1024 false, t)
    → m ≡ left_after (coded 1 fates) (history b n) t
left-done b fates seen n t m k e = ap (λ s. s.1) (e ∙ replay-all b fates n n t k (omega arith))

-- of the whole journal, it is that of the transactions with code 1
pub table-surviving : (b : List ℕ) (n : ℕ) → n ≡ count b → (fates : List ℕ) (t : List Amount) → left_after (coded 1 fates) (history b n) t ≡ table_surviving (coded 1 fates) (inputs_of b t)
unfolding left_after table_surviving opening_at whole
table-surviving b n c fates t = rw c
