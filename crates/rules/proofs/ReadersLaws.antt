-- Who has read an item since its last write, one read after the other.
-- Assumes nothing.
use mathlib.Core.Path.{◌≡◌, sym, ◌∙◌, ap}
use mathlib.Core.Bool.{◌||◌, or-false, or_assoc}
use mathlib.Core.List.{List}
use Prim.Native.Nat.{ℕ, ◌+◌, ◌*◌, ◌<◌, ◌≤◌}
use native.Mathlib.Omega.{arith}
use lib.Dec.{eqb}
use lib.ListN.{length, get_or}
use Rattle.std.proofs.lemmas.List.{length-map}
use Rattle.lists.specs.Search.{any}
use Rattle.format.specs.Layout.{record_at}
use Rattle.model.specs.History.{of_tx}
use Rattle.journal.specs.Journal.{tx_in, history}
use Rattle.arrays.specs.declared.Touched.{Touched}
use Rattle.arrays.specs.declared.end.End.{End}
use Rattle.arrays.specs.Ends.{code_of, codes}
use Rattle.arrays.specs.Recent.{other_active, reads_since, newest}
use Rattle.arrays.specs.Arrays.{Ready, Linked, ends_of, reads_of, read_before}
use Rattle.arrays.specs.Writers.{looked}
use Rattle.arrays.proofs.Found.{passed-range}
use Rattle.arrays.proofs.ArraysLaws.{ends-array, reads-array}
use Rattle.rules.specs.Readers.{read_by_other, readers_of}
use Rattle.rules.proofs.Walk.{ReadAt, among, newest-bound, newest-is-read, among-newest, among_none, among-step, before-less, before-read}

-- ---- the readers since

-- at read k of item x, with those found on the way
pub record Walked (b : List ℕ) (n s x : ℕ) (f : Touched) (k : ℕ) (all : Touched) : Type 0 where
  pub low : k ≤ n
  pub read : (k ≡ 0 → ⊥) → ReadAt b x k
  pub other : all.other || among (other_active (history b n) s) x b k ≡ f.other || read_by_other (history b n) s x
  pub own : all.own || among (eqb s) x b k ≡ f.own || any (of_tx s) (reads_since x (history b n))

pub walked_start : (b : List ℕ) (n s x : ℕ) (f : Touched) (k : ℕ) (l : List ℕ) → l ≡ reads_of (history b n) → x < 1024 → k ≡ get_or l x 0 → Walked b n s x f k f
walked_start b n s x f k l e h q =
    let z : k ≡ newest (reads_since x (history b n)) = q ∙ rw e ((reads-array (history b n)).at x 0 h) in
    rw z
    (record {
      low = newest-bound b x n;
      read = newest-is-read b x n;
      other = ap (λ a. f.other || a) (sym (among-newest b x n (other_active (history b n) s)));
      own = ap (λ a. f.own || a) (sym (among-newest b x n (eqb s)));
    })

module _ (b : List ℕ) (n s x : ℕ) (f : Touched) (k : ℕ) (all : Touched) (w : Walked b n s x f k all) where
  pub walked-long : Ready b n → 20 * (k + 1) ≤ length b
  walked-long r = omega (arith, w.low, r.long)

  walked-low : (v : ℕ) → Ready b n → (k ≡ 0 → ⊥) → v ≡ tx_in (record_at b k) → v < 1025
  walked-low v r z y = let a = passed-range b n r.passed k (omega arith) w.low in omega (arith, y)

  pub walked-range : (v : ℕ) (ends : List End) → Ready b n → (k ≡ 0 → ⊥) → v ≡ tx_in (record_at b k) → codes ends ≡ ends_of (history b n) → v < length ends
  walked-range v ends r z y e = let a = walked-low v r z y in omega (arith, (ends-array (history b n)).size, ap length e, length-map ends code_of)

  pub walked-less : (l : List ℕ) (j : ℕ) → Linked b n l → (k ≡ 0 → ⊥) → j ≡ get_or l k 0 → j < k
  walked-less l j i z q = rw (q, i.link k (omega arith) w.low (w.read z).kind) (before-less b k z)

  pub walked_step : (v : ℕ) (m l : List ℕ) (j : ℕ) (more : Touched) → Ready b n → (k ≡ 0 → ⊥) → v ≡ tx_in (record_at b k) → m ≡ ends_of (history b n) → more ≡ looked m s v all
      → Linked b n l → j ≡ get_or l k 0 → Walked b n s x f j more
  unfolding looked
  walked_step v m l j more r z y e g i q =
      let d = walked-low v r z y in
      let t : j ≡ read_before b k = q ∙ i.link k (omega arith) w.low (w.read z).kind in
      let less = walked-less l j i z q in
      rw (g, e, (ends-array (history b n)).at v 0 d)
      (record {
        low = omega (arith, w.low);
        read = λ p. rw t (before-read b x k (w.read z) (λ o. p (t ∙ o)));
        other = rw t (or_assoc all.other _ _ ∙ ap (λ a. all.other || a) (rw y (sym (among-step (other_active (history b n) s) x b k z (w.read z)))) ∙ w.other);
        own = rw t (or_assoc all.own _ _ ∙ ap (λ a. all.own || a) (rw y (sym (among-step (eqb s) x b k z (w.read z)))) ∙ w.own);
      })

  pub walked_end : k ≡ 0 → all ≡ readers_of (history b n) s x f
  unfolding readers_of
  walked_end z =
      let o : all.other ≡ f.other || read_by_other (history b n) s x = sym (or-false all.other) ∙ ap (λ a. all.other || a) (sym (among_none (other_active (history b n) s) x b)) ∙ (rw z at w.other) in
      let p : all.own ≡ f.own || any (of_tx s) (reads_since x (history b n)) = sym (or-false all.own) ∙ ap (λ a. all.own || a) (sym (among_none (eqb s) x b)) ∙ (rw z at w.own) in
      rw (← o, ← p)
