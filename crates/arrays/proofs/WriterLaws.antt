-- Who wrote an item last, from the record of its last write.
-- Assumes nothing.
use mathlib.Core.Path.{◌≡◌, refl, sym, ◌∙◌, ap}
use mathlib.Core.Bool.{Bool, true, false, or-true, or-false}
use mathlib.Core.List.{List}
use mathlib.Core.Option.{none, some}
use Prim.Native.Nat.{ℕ, ◌+◌, ◌*◌, ◌<◌, ◌≤◌}
use native.Mathlib.Omega.{arith}
use lib.Dec.{eqb}
use borrow.Author.Tests.{ne_eqb}
use lib.ListN.{length, get_or, get_or-map}
use Rattle.std.specs.Prelude.{map}
use Rattle.std.proofs.lemmas.List.{length-map, get_or-map as at-map}
use Rattle.format.specs.Layout.{record_at}
use Rattle.model.specs.History.{tag_in, write_to}
use Rattle.journal.specs.Journal.{tx_in, op_of, history}
use Rattle.journal.proofs.Records.{tx_of-op_of}
use Rattle.arrays.specs.declared.Touched.{Touched}
use Rattle.arrays.specs.declared.end.End.{End}
use Rattle.arrays.specs.declared.end.End.TheVariants.{Open}
use Rattle.arrays.specs.Ends.{code_of, codes}
use Rattle.arrays.specs.Recent.{last_write}
use Rattle.arrays.specs.Arrays.{Ready, ends_of, writes_of}
use Rattle.arrays.specs.Writers.{writer_of, looked}
use Rattle.arrays.proofs.Found.{latest-found, found_none, found-bound, found_some, passed-range}
use Rattle.arrays.proofs.ArraysLaws.{ends-array, writes-array}

-- the code of an end is that of the end
pub code-at : (l : List End) (i : ℕ) → get_or (codes l) i 0 ≡ code_of (get_or l i Open)
code-at l i = get_or-map code_of l i Open

-- the code of an entry that is there
pub code-read : {A : Type 0} (code : A → ℕ) (l : List A) (i j c : ℕ) (r : A) → c ≡ code r → r ≡ get_or l i r → i ≡ j → j < length l → c ≡ get_or (map code l) j 0
code-read code l i j c r e f h k = e ∙ ap code (f ∙ ap (λ n. get_or l n r) h) ∙ sym (at-map code l j r 0 k)

-- of any list of codes
module _ (m : List ℕ) (s v : ℕ) (f : Touched) where
  pub looked-own : (t : Bool) → t ≡ eqb s v → t ≡ true → ◌≡◌ {A = Touched} (record { other = f.other; own = true }) (looked m s v f)
  unfolding looked
  looked-own t e h = rw (← e, h, or-false f.other, or-true f.own)

  module _ (t : Bool) (e : t ≡ eqb s v) (h : t ≡ false) (end : ℕ) (q : end ≡ get_or m v 0) where
    pub looked-other : end ≡ 0 → ◌≡◌ {A = Touched} (record { other = true; own = f.own }) (looked m s v f)
    unfolding looked
    looked-other z = rw (← e, h, ← q, z, or-false f.own, or-true f.other)

    pub looked-ended : (end ≡ 0 → ⊥) → f ≡ looked m s v f
    unfolding looked
    looked-ended z = rw (← e, h, ← q, ne_eqb end 0 z, or-false f.own, or-false f.other)

-- of the ends themselves
module _ (ends : List End) (s v : ℕ) (f : Touched) (t : Bool) (e : t ≡ eqb s v) (h : t ≡ false) (i : ℕ) (q : i ≡ v) where
  pub looked-open : get_or ends i Open ≡ Open → ◌≡◌ {A = Touched} (record { other = true; own = f.own }) (looked (codes ends) s v f)
  looked-open z = looked-other (codes ends) s v f t e h 0 (sym (rw (← q, code-at ends i, z))) refl

-- ---- the last writer

abbrev nobody : Touched
nobody = record { other = false; own = false }

module _ (b : List ℕ) (n x w : ℕ) (l : List ℕ) (k : Ready b n) (e : l ≡ writes_of (history b n)) (h : x < 1024) (q : w ≡ get_or l x 0) where
  last-tag : w ≡ tag_in (last_write (history b n) x)
  last-tag = q ∙ rw e ((writes-array (history b n)).at x 0 h)

  last-le : w ≤ n
  last-le = rw last-tag (found-bound (latest-found (write_to x) b n))

  pub last-long : 20 * (w + 1) ≤ length b
  last-long = let z = last-le in omega (arith, k.long)

  pub last_none : w ≡ 0 → last_write (history b n) x ≡ none
  last_none z = found_none (latest-found (write_to x) b n) (sym last-tag ∙ z)

  pub last_some : (w ≡ 0 → ⊥) → last_write (history b n) x ≡ some (op_of w (record_at b w))
  last_some z =
      found_some (latest-found (write_to x) b n) (λ y. z (last-tag ∙ y)) ∙ ap (λ t. some (op_of t (record_at b t))) (sym last-tag)

  pub last-low : (v : ℕ) → (w ≡ 0 → ⊥) → v ≡ tx_in (record_at b w) → v < 1025
  last-low v z y = let r = passed-range b n k.passed w (omega arith) last-le in omega (arith, y)

  pub last-range : (v : ℕ) (ends : List End) → (w ≡ 0 → ⊥) → v ≡ tx_in (record_at b w) → codes ends ≡ ends_of (history b n) → v < length ends
  last-range v ends z y f = let r = last-low v z y in omega (arith, (ends-array (history b n)).size, ap length f, length-map ends code_of)

  pub last-nobody : (s : ℕ) → w ≡ 0 → nobody ≡ writer_of (history b n) s x
  unfolding writer_of
  last-nobody s z = rw (last_none z)

  pub last-looked : (s v : ℕ) (m : List ℕ) (r : Touched) → (w ≡ 0 → ⊥) → v ≡ tx_in (record_at b w) → m ≡ ends_of (history b n) → r ≡ looked m s v nobody
      → r ≡ writer_of (history b n) s x
  unfolding writer_of looked
  last-looked s v m r z y f g =
      g ∙ rw (last_some z, tx_of-op_of w (record_at b w), f, (ends-array (history b n)).at v 0 (last-low v z y), y)
