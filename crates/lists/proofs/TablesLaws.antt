-- Laws of lists made by index, of elements and parts stored anew, of steps by number, and of counts.
-- Assumes nothing.
use mathlib.Core.Path.{◌≡◌, refl, sym, ap, ◌∙◌}
use mathlib.Core.Bool.{Bool, true, false, cond, ◌||◌}
use mathlib.Core.List.{List, [], ◌∷◌, ◌++◌, map, append_assoc, append-nil}
use Prim.Native.Nat.{ℕ, zero, suc, ◌+◌, ◌-◌, ◌≤◌, ◌<◌}
use native.Mathlib.Nat.{add-zero, zero-add}
use native.Mathlib.Omega.{arith}
use native.Mathlib.Numerals.{add-one}
use lib.Dec.{eqb}
use mir.Val.{bool_byte}
use lib.ListN.{length, take, drop, get_or, set, replicate, length-append, length-drop, length-set, length-replicate, get_or-replicate, drop_of_length-le}
use lib.Seq.{take-append-add, length-take-le, take-append-le, take_at, drop_at, drop-append-add, get_or-take, take-take, drop-drop, sets, sets-eq, get_or-set_same, get_or-set_other, ext_get_or}
use borrow.Author.Tests.{eqb-true, eqb-false, eq-eqb, ne_eqb}
use borrow.Rule.Slice.PartMut.{put_mid}
use Rattle.std.proofs.lemmas.List.{drop-take}
use Rattle.std.specs.Prelude.{filter}
use Rattle.std.specs.List.{range_with_len}
use Rattle.lists.specs.Tables.{tabulate, each, store, stepped, count_if}
use Rattle.lists.proofs.BoolLaws.{by_cases}

-- l has f 0, f 1, .. : n elements
pub record ByIndex {A : Type 0} (f : ℕ → A) (n : ℕ) (l : List A) : Type 0 where
  pub size : length l ≡ n
  pub at : (k : ℕ) (d : A) → k < n → get_or l k d ≡ f k

module _ {A : Type 0} where
  -- ---- tabulate

  pub tabulate-zero : (f : ℕ → A) (i : ℕ) → tabulate f i 0 ≡ []
  unfolding tabulate
  tabulate-zero f i = refl

  pub tabulate-suc : (f : ℕ → A) (i n : ℕ) → tabulate f i (suc n) ≡ f i ∷ tabulate f (suc i) n
  unfolding tabulate
  tabulate-suc f i n = refl

  pub length-tabulate : (f : ℕ → A) (i n : ℕ) → length (tabulate f i n) ≡ n
  unfolding tabulate
  length-tabulate f i zero = refl
  length-tabulate f i (suc n) = ap suc (length-tabulate f (suc i) n)

  pub get_or-tabulate : (f : ℕ → A) (i n k : ℕ) (d : A) → k < n → get_or (tabulate f i n) k d ≡ f (i + k)
  unfolding tabulate
  get_or-tabulate f i zero k d h = absurd (omega arith)
  get_or-tabulate f i (suc n) zero d h = ap f (omega arith)
  get_or-tabulate f i (suc n) (suc k) d h = get_or-tabulate f (suc i) n k d (omega arith) ∙ ap f (omega arith)

  -- two functions that agree on n indices, from i and from j on
  pub tabulate-ext : (f g : ℕ → A) (i j n : ℕ) → ((k : ℕ) → k < n → f (i + k) ≡ g (j + k)) → tabulate f i n ≡ tabulate g j n
  unfolding tabulate
  tabulate-ext f g i j zero h = refl
  tabulate-ext f g i j (suc n) h =
      let here : f i ≡ g j = ap f (omega arith) ∙ h 0 (omega arith) ∙ ap g (omega arith) in
      rw here
      (ap (λ r. g j ∷ r)
      (tabulate-ext f g (suc i) (suc j) n (λ k l. ap f (omega arith) ∙ h (suc k) (omega arith) ∙ ap g (omega arith))))

  -- one element more at the end
  pub tabulate-last : (f : ℕ → A) (i n : ℕ) → tabulate f i (suc n) ≡ tabulate f i n ++ f (i + n) ∷ []
  unfolding tabulate
  tabulate-last f i zero = ap (λ k. f k ∷ []) (omega arith)
  tabulate-last f i (suc n) = ap (λ r. f i ∷ r) (tabulate-last f (suc i) n ∙ ap (λ k. tabulate f (suc i) n ++ f k ∷ []) (omega arith))

  -- a list of n elements, the element at each index by f
  pub filled : (f : ℕ → A) (n : ℕ) (l : List A) (d : A) → length l ≡ n → ((k : ℕ) → k < n → get_or l k d ≡ f k) → l ≡ tabulate f 0 n
  filled f n l d size at =
      ext_get_or d l _ (size ∙ sym (length-tabulate f 0 n))
      (λ k h. let m : k < n = omega arith in at k m ∙ sym (get_or-tabulate f 0 n k d m ∙ ap f (zero-add k)))

  -- a list from its elements
  pub tabulate-get_or : (l : List A) (d : A) → tabulate (λ k. get_or l k d) 0 (length l) ≡ l
  tabulate-get_or l d = sym (filled (λ k. get_or l k d) (length l) l d refl (λ k h. refl))

  -- ---- an array by its index

  pub by_index : (f : ℕ → A) (n : ℕ) → ByIndex f n (tabulate f 0 n)
  by_index f n = record { size = length-tabulate f 0 n; at = λ k d h. get_or-tabulate f 0 n k d h ∙ ap f (omega arith) }

  -- of one value
  pub by-index-all : (v d : A) {f : ℕ → A} {n : ℕ} {l : List A} → ByIndex f n l → ((j : ℕ) → f j ≡ v) → replicate n v ≡ l
  by-index-all v d {f} {n} {l} a o =
      let r : length (replicate n v) ≡ n = length-replicate n v in
      ext_get_or d _ l (r ∙ sym a.size) (λ j h. let m : j < n = omega arith in get_or-replicate n j v d m ∙ sym (a.at j d m ∙ o j))

  -- nothing stored
  pub by-index-same : (d : A) {f g : ℕ → A} {n : ℕ} {l m : List A} → ByIndex f n l → ByIndex g n m → ((j : ℕ) → g j ≡ f j) → l ≡ m
  by-index-same d {f} {g} {n} {l} a b o =
      ext_get_or d l _ (a.size ∙ sym b.size) (λ j h. let i : j < n = omega (arith, a.size) in a.at j d i ∙ sym (b.at j d i ∙ o j))

  -- one element stored, within the array or not
  pub by-index-set : (k : ℕ) (v d : A) {f g : ℕ → A} {n : ℕ} {l m : List A} → ByIndex f n l → ByIndex g n m → g k ≡ v → ((j : ℕ) → eqb j k ≡ false → g j ≡ f j)
      → set l k v ≡ m
  by-index-set k v d {f} {g} {n} {l} a b e o =
      let z : length (set l k v) ≡ n = length-set l k v ∙ a.size in
      ext_get_or d _ _ (z ∙ sym b.size)
      (λ j h.
      let i : j < n = omega arith in
      by_cases (eqb j k)
      (λ q. let w = eqb-true j k q in
      rw w (get_or-set_same l k v d (omega (arith, a.size, w))) ∙ sym (b.at j d i ∙ ap g w ∙ e))
      (λ q. get_or-set_other l k j v d (eqb-false j k q) ∙ a.at j d i ∙ sym (b.at j d i ∙ o j q)))

  -- ---- each

  pub each-zero : (f : ℕ → List A) (i : ℕ) → each f i 0 ≡ []
  unfolding each
  each-zero f i = refl

  pub each-suc : (f : ℕ → List A) (i n : ℕ) → each f i (suc n) ≡ f i ++ each f (suc i) n
  unfolding each
  each-suc f i n = refl

  -- one list more at the end
  pub each_last : (f : ℕ → List A) (i n : ℕ) → each f i (suc n) ≡ each f i n ++ f (i + n)
  unfolding each
  each_last f i zero = append-nil (f i) ∙ ap f (omega arith)
  each_last f i (suc n) =
      ap (λ r. f i ++ r) (each_last f (suc i) n ∙ ap (λ k. each f (suc i) n ++ f k) (omega arith)) ∙ sym (append_assoc (f i) _ _)

  -- the lists of the first m indices, then of n more
  pub each-add : (f : ℕ → List A) (i m n : ℕ) → each f i (m + n) ≡ each f i m ++ each f (i + m) n
  each-add f i zero n = simp (each-zero) (ap (λ k. each f i k) (omega arith) ∙ ap (λ k. each f k n) (omega arith))
  each-add f i (suc m) n =
      ap (each f i) (omega arith) ∙ each-suc f i (m + n) ∙ ap (λ r. f i ++ r) (each-add f (suc i) m n ∙ ap (λ k. each f (suc i) m ++ each f k n) (omega arith))
      ∙ sym (append_assoc (f i) _ _) ∙ ap (λ r. r ++ each f (i + suc m) n) (sym (each-suc f i m))

  pub each-ext : (f g : ℕ → List A) (i j n : ℕ) → ((k : ℕ) → k < n → f (i + k) ≡ g (j + k)) → each f i n ≡ each g j n
  unfolding each
  each-ext f g i j zero h = refl
  each-ext f g i j (suc n) h =
      let here : f i ≡ g j = ap f (omega arith) ∙ h 0 (omega arith) ∙ ap g (omega arith) in
      rw here
      (ap (λ r. g j ++ r)
      (each-ext f g (suc i) (suc j) n (λ k l. ap f (omega arith) ∙ h (suc k) (omega arith) ∙ ap g (omega arith))))

  -- ---- store

  -- the front of a list written
  pub store-front : (v l : List A) → store 0 v l ≡ v ++ drop (length v) l
  unfolding store
  store-front v l = ap (λ k. v ++ drop k l) (zero-add (length v))

  -- the whole of a list written
  pub store-all : (v l : List A) → length l ≡ length v → store 0 v l ≡ v
  store-all v l e = store-front v l ∙ ap (λ r. v ++ r) (drop_of_length-le l {i = length v} (omega arith)) ∙ append-nil v

  -- stores of single elements, one after the other
  pub sets-store : (at : ℕ) (v l : List A) → at + length v ≤ length l → sets l at v ≡ store at v l
  unfolding store
  sets-store at v l h = sets-eq v l at h

  -- a lent part of a slice, put back
  pub part-stored : (at n : ℕ) (v l : List A) → length v ≡ n → put_mid at n l v ≡ store at v l
  unfolding store
  part-stored at n v l e = rw (drop-drop n at l, ← append_assoc, e)

  -- where `at` and `v` stay within the list
  module _ (at : ℕ) (v l : List A) (fits : at + length v ≤ length l) where
    length_before : length (take at l) ≡ at
    length_before = length-take-le at l (omega arith)

    length-through : length (take at l ++ v) ≡ at + length v
    length-through = length-append (take at l) v ∙ ap (λ k. k + length v) length_before

    pub length-store : length (store at v l) ≡ length l
    unfolding store
    length-store = simp (length-append, length_before, length-drop) (omega arith)

    -- in front of what is stored
    take-store : (n : ℕ) → n ≤ at → take n (store at v l) ≡ take n l
    unfolding store
    take-store n h =
        ap (take n) (append_assoc (take at l) v _) ∙ take-append-le n (take at l) _ (omega (arith, length_before)) ∙ take-take n at l h

    pub get_or-store-before : (k : ℕ) (d : A) → k < at → get_or (store at v l) k d ≡ get_or l k d
    get_or-store-before k d h = sym (get_or-take at _ k d h) ∙ ap (λ r. get_or r k d) (take-store at (omega arith)) ∙ get_or-take at l k d h

    -- behind what is stored
    pub drop-store : (n : ℕ) → at + length v ≤ n → drop n (store at v l) ≡ drop n l
    unfolding store
    drop-store n h =
        let e : n ≡ length (take at l ++ v) + (n - (at + length v)) = omega (arith, length-through) in
        let back : at + length v + (n - (at + length v)) ≡ n = omega arith in
        ap (λ k. drop k (store at v l)) e ∙ drop-append-add (take at l ++ v) _ (n - (at + length v))
        ∙ drop-drop (n - (at + length v)) (at + length v) l ∙ ap (λ k. drop k l) back

    -- what is stored
    pub part-store : take (length v) (drop at (store at v l)) ≡ v
    unfolding store
    part-store =
        ap (λ r. take (length v) (drop at r)) (append_assoc (take at l) v _)
        ∙ ap (take (length v)) (drop_at (take at l) _ at length_before) ∙ take_at v _ (length v) refl

    -- a part in front of what is stored, and one behind
    pub part-store-before : (m n : ℕ) → m + n ≤ at → take n (drop m (store at v l)) ≡ take n (drop m l)
    part-store-before m n h = sym (drop-take m n _) ∙ ap (drop m) (take-store (m + n) h) ∙ drop-take m n l

    pub part-store-after : (m n : ℕ) → at + length v ≤ m → take n (drop m (store at v l)) ≡ take n (drop m l)
    part-store-after m n h = ap (take n) (drop-store m h)

    -- the front of a list, with something stored in it
    pub take-stored : (n : ℕ) → at + length v ≤ n → take n (store at v l) ≡ store at v (take n l)
    unfolding store
    take-stored n h =
        let m : at + length v + (n - (at + length v)) ≡ n = omega arith in
        let e : n ≡ length (take at l ++ v) + (n - (at + length v)) = omega (arith, length-through) in
        ap (λ k. take k (store at v l)) e ∙ take-append-add (take at l ++ v) (drop (at + length v) l) (n - (at + length v))
        ∙ ap (λ r. take at l ++ v ++ r) (sym (drop-take (at + length v) (n - (at + length v)) l) ∙ ap (λ k. drop (at + length v) (take k l)) m)
        ∙ ap (λ r. r ++ v ++ drop (at + length v) (take n l)) (sym (take-take at n l (omega arith)))

    -- the front up to what is stored
    pub take-through : take (at + length v) (store at v l) ≡ take at l ++ v
    unfolding store
    take-through = take_at (take at l ++ v) (drop (at + length v) l) (at + length v) length-through

    -- a second store right behind the first
    pub store-store : (w : List A) → store (at + length v) w (store at v l) ≡ store at (v ++ w) l
    unfolding store
    store-store w =
        let e : at + length v + length w ≡ at + length (v ++ w) = omega (arith, length-append v w) in
        rw (take_at (take at l ++ v) (drop (at + length v) l) (at + length v) length-through)
        (ap (λ r. take at l ++ v ++ w ++ r) (drop-store (at + length v + length w) (omega arith) ∙ ap (λ k. drop k l) e)
        ∙ ap (λ r. r ++ drop (at + length (v ++ w)) l) (append_assoc (take at l) v w))

  -- ---- stepped: before the first turn of a loop, one turn later, and behind the last

  module _ (f : ℕ → A → A) where
    pub stepped_start : (s : A) → s ≡ stepped f 0 s
    unfolding stepped
    stepped_start s = refl

    pub stepped-suc : (n : ℕ) (s : A) → stepped f (suc n) s ≡ f (suc n) (stepped f n s)
    unfolding stepped
    stepped-suc n s = refl

    pub stepped-turn : (i : ℕ) (s t u : A) → t ≡ stepped f i s → u ≡ f (i + 1) t → u ≡ stepped f (i + 1) s
    stepped-turn i s t u e q = q ∙ rw (e, add-one) (sym (stepped-suc i s))

    pub stepped-done : (n i : ℕ) (s t : A) → i ≤ n → n ≤ i → t ≡ stepped f i s → t ≡ stepped f n s
    stepped-done n i s t h l e = let z : n ≡ i = omega arith in rw z e

-- ---- a function at each element

pub map-tabulate : {A B : Type 0} (g : A → B) (f : ℕ → A) (i n : ℕ) → map g (tabulate f i n) ≡ tabulate (λ k. g (f k)) i n
unfolding tabulate
map-tabulate g f i zero = refl
map-tabulate g f i (suc n) = ap (λ l. g (f i) ∷ l) (map-tabulate g f (suc i) n)

-- ---- count_if

count_if-zero : (f : ℕ → Bool) (i : ℕ) → count_if f i 0 ≡ 0
unfolding count_if
count_if-zero f i = refl

count_if-suc : (f : ℕ → Bool) (i n : ℕ) → count_if f i (suc n) ≡ cond (f i) (suc (count_if f (suc i) n)) (count_if f (suc i) n)
unfolding count_if
count_if-suc f i n = refl

count_if-no : (f : ℕ → Bool) (i n : ℕ) → f i ≡ false → count_if f i (suc n) ≡ count_if f (suc i) n
unfolding count_if
count_if-no f i n e = simp e

-- one index more at the end
pub count_if-last : (f : ℕ → Bool) (i n : ℕ) → count_if f i (suc n) ≡ cond (f (i + n)) (suc (count_if f i n)) (count_if f i n)
count_if-last f i zero = count_if-suc f i 0 ∙ simp (count_if-zero, add-zero)
count_if-last f i (suc n) =
    let e : suc i + n ≡ i + suc n = omega arith in
    count_if-suc f i (suc n) ∙ rw (count_if-last f (suc i) n, e, count_if-suc f i n) (swap (f i) (f (i + suc n)) (count_if f (suc i) n))
  where
    swap : (a b : Bool) (k : ℕ) → cond a (suc (cond b (suc k) k)) (cond b (suc k) k) ≡ cond b (suc (cond a (suc k) k)) (cond a (suc k) k)
    swap true true k = refl
    swap true false k = refl
    swap false true k = refl
    swap false false k = refl

pub count_if-ext : (f g : ℕ → Bool) (i j n : ℕ) → ((k : ℕ) → k < n → f (i + k) ≡ g (j + k)) → count_if f i n ≡ count_if g j n
count_if-ext f g i j zero h = count_if-zero f i ∙ sym (count_if-zero g j)
count_if-ext f g i j (suc n) h =
    let here : f i ≡ g j = ap f (omega arith) ∙ h 0 (omega arith) ∙ ap g (omega arith) in
    let rest : count_if f (suc i) n ≡ count_if g (suc j) n =
    count_if-ext f g (suc i) (suc j) n (λ k l. ap f (omega arith) ∙ h (suc k) (omega arith) ∙ ap g (omega arith)) in
    count_if-suc f i n ∙ rw (here, rest) (sym (count_if-suc g j n))

-- no more than are tried
pub count_if-bound : (f : ℕ → Bool) (i n : ℕ) → count_if f i n ≤ n
count_if-bound f i zero = rw count_if-zero (omega arith)
count_if-bound f i (suc n) = rw count_if-suc (go (f i) (count_if-bound f (suc i) n))
  where
    go : (a : Bool) {k : ℕ} → k ≤ n → cond a (suc k) k ≤ suc n
    go true h = omega arith
    go false h = omega arith

-- of two tests that never pass together: as many pass one or the other as pass each
pub count_if-add : (f g h : ℕ → Bool) (i n : ℕ) → ((k : ℕ) → h k ≡ f k || g k) → ((k : ℕ) → f k ≡ true → g k ≡ false) → count_if f i n + count_if g i n ≡ count_if h i n
count_if-add f g h i zero e d = rw (count_if-zero f i, count_if-zero g i, count_if-zero h i)
count_if-add f g h i (suc n) e d =
    let ih = count_if-add f g h (suc i) n e d in
    rw (count_if-suc f i n, count_if-suc g i n, count_if-suc h i n, e i)
    (by_cases (f i)
    (λ p. rw (p, d i p) (omega arith))
    (λ p. rw p (by_cases (g i) (λ q. rw q (omega arith)) (λ q. rw q ih))))

pub count_if-none : (f : ℕ → Bool) (i n : ℕ) → ((k : ℕ) → f k ≡ false) → count_if f i n ≡ 0
count_if-none f i zero e = count_if-zero f i
count_if-none f i (suc n) e = count_if-no f i n (e i) ∙ count_if-none f (suc i) n e

-- as many pass as a filter leaves of the numbers
pub count_if-filter : (f : ℕ → Bool) (i n : ℕ) → count_if f i n ≡ length (filter f (range_with_len i n))
unfolding count_if
count_if-filter f i zero = refl
count_if-filter f i (suc n) =
    let e : count_if f (suc i) n ≡ length (filter f (range_with_len (suc i) n)) = count_if-filter f (suc i) n in
    by_cases (f i) (λ p. rw (add-one i, p, e)) (λ p. rw (add-one i, p, e))

-- ---- a loop that counts: of the numbers below s, k pass

module _ (f : ℕ → Bool) (s k : ℕ) (h : 1 ≤ s) (q : k ≡ count_if f 1 (s - 1)) where
  one_more : count_if f 1 (s + 1 - 1) ≡ cond (f s) (suc k) k
  one_more =
      let e : s + 1 - 1 ≡ suc (s - 1) = omega arith in
      let g : 1 + (s - 1) ≡ s = omega arith in
      rw (e, count_if-last f 1 (s - 1), g, q)

  pub count_yes : (a : Bool) → a ≡ f s → a ≡ true → k + 1 ≡ count_if f 1 (s + 1 - 1)
  count_yes a e t = sym (one_more ∙ rw (← e, t, add-one))

  pub count_no : (a : Bool) → a ≡ f s → a ≡ false → k ≡ count_if f 1 (s + 1 - 1)
  count_no a e t = sym (one_more ∙ rw (← e, t))

  pub count-step : (a : Bool) (n : ℕ) → a ≡ f s → n ≡ bool_byte a → k + n ≡ count_if f 1 (s + 1 - 1)
  count-step true n e p = rw p (count_yes true e refl)
  count-step false n e p = let z : k + n ≡ k = omega (arith, p) in z ∙ count_no false e refl

  -- with one more, whatever was found
  pub count-few : (a : Bool) (n : ℕ) → n ≡ bool_byte a → k + n ≤ s
  count-few true n p = let b = count_if-bound f 1 (s - 1) in omega (arith, q, b, p)
  count-few false n p = let b = count_if-bound f 1 (s - 1) in omega (arith, q, b, p)

pub count-start : (f : ℕ → Bool) → 0 ≡ count_if f 1 (1 - 1)
unfolding count_if
count-start f = refl

pub count-done : (f : ℕ → Bool) (s k : ℕ) → s ≤ 1025 → 1025 ≤ s → k ≡ count_if f 1 (s - 1) → k ≡ count_if f 1 1024
count-done f s k h l q = let e : s - 1 ≡ 1024 = omega arith in rw e at q

-- one more, if the code is v
pub one-more-yes : (c e v : ℕ) → e ≡ v → c + 1 ≡ cond (eqb e v) (c + 1) c
one-more-yes c e v h = rw (eq-eqb e v h)

pub one-more-no : (c e v : ℕ) → (e ≡ v → ⊥) → c ≡ cond (eqb e v) (c + 1) c
one-more-no c e v h = rw (ne_eqb e v h)
