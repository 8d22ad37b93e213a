-- Codes of transactions: flags and fates, by index.
-- Assumes nothing.
use mathlib.Core.Path.{◌≡◌, refl, sym, ◌∙◌, ap}
use mathlib.Core.Bool.{Bool, true, false, ◌||◌}
use mathlib.Core.List.{List, [], ◌∷◌, map}
use Prim.Native.Nat.{ℕ, ◌+◌, ◌<◌}
use lib.Dec.{eqb}
use lib.ListN.{length, get_or, set, take, replicate, get_or-map, length-map}
use borrow.Author.Tests.{eq-eqb}
use denote.Enum.Declared.{Declared, tag_of}
use denote.Enum.Bare.{sameb}
use Rattle.std.proofs.lemmas.List.{take_more}
use Rattle.lists.specs.Search.{member}
use Rattle.lists.specs.Tables.{count_if}
use Rattle.lists.proofs.MemberLaws.{member-append}
use Rattle.lists.proofs.TablesLaws.{filled, ByIndex, by_index, by-index-all, by-index-set, count_if-ext}
use Rattle.arrays.specs.declared.end.End.{End}
use Rattle.arrays.specs.declared.end.End.TheVariants.{Open, Committed, Aborted}
use Rattle.arrays.specs.contracts.end.End as end
use Rattle.arrays.specs.Ends.{code_of, codes}
use Rattle.arrays.proofs.WriterLaws.{code-at}
use Rattle.trace.specs.declared.Fate.{Fate}
use Rattle.trace.specs.declared.Fate.TheVariants.{Neither, Surviving, Undone}
use Rattle.trace.specs.contracts.Fate as fate
use Rattle.trace.specs.Codes.{coded, flags_of, fate_code, fate_codes, fate_of, fates_of}

-- ---- flags

pub flags-array : (m : List ℕ) → ByIndex (λ s. member s m) 1025 (flags_of m)
unfolding flags_of
flags-array m = by_index _ 1025

pub flags-more : (m : List ℕ) (s : ℕ) → set (flags_of m) s true ≡ flags_of (s ∷ m)
flags-more m s = by-index-set s true false (flags-array m) (flags-array (s ∷ m)) (rw (eq-eqb s s refl)) (λ j q. rw q)

pub listed_start : (bad : List ℕ) → replicate 1025 false ≡ flags_of (take 0 bad)
listed_start bad = by-index-all false false (flags-array []) (λ j. refl)

-- one transaction more of the list
pub listed-step : (bad : List ℕ) (k : ℕ) → k < length bad → set (flags_of (take k bad)) (get_or bad k 0) true ≡ flags_of (take (k + 1) bad)
listed-step bad k h =
    by-index-set (get_or bad k 0) true false (flags-array (take k bad)) (flags-array (take (k + 1) bad))
    (more (get_or bad k 0) ∙ rw (eq-eqb (get_or bad k 0) (get_or bad k 0) refl) (or-true (member (get_or bad k 0) (take k bad))))
    (λ j q. more j ∙ rw q (or-false (member j (take k bad))))
  where
    or-true : (a : Bool) → a || (true || false) ≡ true
    or-true true = refl
    or-true false = refl

    or-false : (a : Bool) → a || (false || false) ≡ a
    or-false true = refl
    or-false false = refl

    more : (j : ℕ) → member j (take (k + 1) bad) ≡ member j (take k bad) || (eqb j (get_or bad k 0) || false)
    more j = ap (member j) (take_more bad k 0 h) ∙ member-append j (take k bad) (get_or bad k 0 ∷ [])

-- ---- a list of values of an enum without fields, by the list of their codes, which are the enum's tags

module _ (D : Declared) (code : D.D → ℕ) (tagged : (x : D.D) → tag_of D x ≡ code x) (d : D.D) (z : code d ≡ 0) where
  -- `==` compares the tags
  same-coded : (l : List D.D) (v : D.D) (i : ℕ) → sameb D (get_or l i d) v ≡ coded (code v) (map code l) i
  unfolding coded
  same-coded l v i = rw (tagged (get_or l i d), tagged v, ← get_or-map code l i d, z)

  -- how many transactions have the value
  number-coded : (l : List D.D) (v : D.D) → count_if (λ i. sameb D (get_or l i d) v) 1 1024 ≡ count_if (coded (code v) (map code l)) 1 1024
  number-coded l v = count_if-ext _ _ 1 1 1024 (λ k m. same-coded l v (1 + k))

tagged-fate : (f : Fate) → tag_of fate.the_type f ≡ fate_code f
tagged-fate Neither = refl
tagged-fate Surviving = refl
tagged-fate Undone = refl

tagged-end : (e : End) → tag_of end.the_type e ≡ code_of e
tagged-end Open = refl
tagged-end Committed = refl
tagged-end Aborted = refl

pub fate-at : (fates : List Fate) (s : ℕ) → get_or (fate_codes fates) s 0 ≡ fate_code (get_or fates s Neither)
fate-at fates s = get_or-map fate_code fates s Neither

pub survives-is : (fates : List Fate) (s : ℕ) → sameb fate.the_type (get_or fates s Neither) Surviving ≡ coded 1 (fate_codes fates) s
survives-is fates = same-coded fate.the_type fate_code tagged-fate Neither refl fates Surviving

pub committed-is : (ends : List End) (s : ℕ) → sameb end.the_type (get_or ends s Open) Committed ≡ coded 1 (codes ends) s
committed-is ends = same-coded end.the_type code_of tagged-end Open refl ends Committed

pub number-fates : (fates : List Fate) (v : Fate) → count_if (λ s. sameb fate.the_type (get_or fates s Neither) v) 1 1024 ≡ count_if (coded (fate_code v) (fate_codes fates)) 1 1024
number-fates = number-coded fate.the_type fate_code tagged-fate Neither refl

pub number-ends : (ends : List End) (v : End) → count_if (λ s. sameb end.the_type (get_or ends s Open) v) 1 1024 ≡ count_if (coded (code_of v) (codes ends)) 1 1024
number-ends = number-coded end.the_type code_of tagged-end Open refl

pub length_codes : (fates : List Fate) → length (fate_codes fates) ≡ length fates
length_codes fates = length-map fates fate_code

-- ---- fates

-- an array that has the fate of each transaction
pub fates-done : (ends : List End) (flags : List Bool) (all : List Fate) → length all ≡ 1025
    → ((k : ℕ) → k < 1025 → get_or all k Neither ≡ fate_of (code_of (get_or ends k Open)) (get_or flags k false)) → all ≡ fates_of (codes ends) flags
unfolding fates_of
fates-done ends flags all n h =
    filled (λ s. fate_of (get_or (codes ends) s 0) (get_or flags s false)) 1025 all Neither n
    (λ k l. h k l ∙ ap (λ e. fate_of e (get_or flags k false)) (sym (code-at ends k)))
