-- Laws of little-endian numbers of any width, of entries, and of signed amounts.
-- Assumes nothing.
use mathlib.Core.Path.{◌≡◌, refl, sym, ap, ◌∙◌}
use mathlib.Core.List.{List, [], ◌∷◌, ◌++◌, append_assoc, flat_map}
use Prim.Native.Nat.{ℕ, zero, suc, ◌+◌, ◌*◌, ◌/◌, ◌%◌, ◌^◌, ◌<◌}
use native.Mathlib.Nat.{div-eq_of_lt, add-div_left, mul-suc, mul-zero, div-one, div-div-eq-div-mul, pow-suc, pow-succ', mul_left_comm}
use native.Mathlib.Omega.{arith, pow_step}
use lib.IntN.{ℤ}
use lib.ListN.{length, take, drop, get_or, length-append}
use lib.Seq.{take_at, drop_at, drop-drop, take-nil}
use borrow.Rule.Slice.PartMut.{put_mid}
use mir.Syntax.{w32}
use mir.Val.{SFits}
use mir.ValLaws as vals
use Rattle.std.proofs.lemmas.List.{get_or-drop}
use Rattle.std.specs.Int.{byte_at, byte_worth, bytes_low_first, sum_through}
use Rattle.lists.specs.Tables.{store}
use Rattle.lists.proofs.TablesLaws.{tabulate-zero, tabulate-suc, tabulate-ext, part-stored}
use Rattle.format.specs.Bytes.{Bytes, none, byte, value, bytes, entry, entries, amount, bits}

-- ---- lists of bytes

pub get_or-byte : {b : List ℕ} → Bytes b → (i : ℕ) → get_or b i 0 < 256
get_or-byte none i = omega arith
get_or-byte (byte h k) zero = h
get_or-byte (byte h k) (suc i) = get_or-byte k i

pub Bytes-getD : (b : List ℕ) → ((i : ℕ) → get_or b i 0 < 256) → Bytes b
Bytes-getD [] h = none
Bytes-getD (x ∷ b) h = byte (h 0) (Bytes-getD b (λ i. h (suc i)))

pub Bytes-take : {b : List ℕ} → Bytes b → (n : ℕ) → Bytes (take n b)
Bytes-take k zero = none
Bytes-take none (suc n) = none
Bytes-take (byte h k) (suc n) = byte h (Bytes-take k n)

pub Bytes-drop : {b : List ℕ} → Bytes b → (n : ℕ) → Bytes (drop n b)
Bytes-drop k zero = k
Bytes-drop none (suc n) = none
Bytes-drop (byte h k) (suc n) = Bytes-drop k n

pub Bytes-append : {a b : List ℕ} → Bytes a → Bytes b → Bytes (a ++ b)
Bytes-append none k = k
Bytes-append (byte h j) k = byte h (Bytes-append j k)

pub Bytes-store : (at : ℕ) {v l : List ℕ} → Bytes v → Bytes l → Bytes (store at v l)
unfolding store
Bytes-store at {v} j k = Bytes-append (Bytes-append (Bytes-take k at) j) (Bytes-drop k (at + length v))

-- ---- numbers and their bytes

pub length-bytes : (w n : ℕ) → length (bytes w n) ≡ w
unfolding bytes
length-bytes zero n = refl
length-bytes (suc w) n = ap suc (length-bytes w (n / 256))

pub bytes-bytes : (w n : ℕ) → Bytes (bytes w n)
unfolding bytes
bytes-bytes zero n = none
bytes-bytes (suc w) n = byte {x = n % 256} (omega arith) (bytes-bytes w (n / 256))

pub value-bytes : (w n : ℕ) → n < 256 ^ w → value (bytes w n) ≡ n
unfolding bytes value
value-bytes zero n h = omega arith
value-bytes (suc w) n h = rw (value-bytes w (n / 256) (omega (arith, pow_step 256 w))) (omega arith)

pub bytes-value : {b : List ℕ} → Bytes b → bytes (length b) (value b) ≡ b
unfolding bytes value
bytes-value none = refl
bytes-value (byte {x} {b} h k) =
    let low : (x + 256 * value b) % 256 ≡ x = omega arith in
    let high : (x + 256 * value b) / 256 ≡ value b = omega arith in
    rw (low, high, bytes-value k)

pub value-bound : {b : List ℕ} → Bytes b → value b < 256 ^ length b
unfolding value
value-bound none = omega arith
value-bound (byte {x} {b} h k) = omega (arith, pow_step 256 (length b), value-bound k)

-- a field of w bytes at the front, whether or not the list is that long
pub value-take-bound : {b : List ℕ} → Bytes b → (w : ℕ) → value (take w b) < 256 ^ w
unfolding value
value-take-bound k zero = omega arith
value-take-bound none (suc w) = omega (arith, pow_step 256 w, value-take-bound none w)
value-take-bound (byte h k) (suc w) = omega (arith, pow_step 256 w, value-take-bound k w)

-- a field one byte wider, read at its lowest byte
value-step : (b : List ℕ) (a w : ℕ) → value (take (suc w) (drop a b)) ≡ get_or b a 0 + 256 * value (take w (drop (suc a) b))
unfolding value
value-step [] zero w = rw (take-nil w)
value-step [] (suc a) w = rw (take-nil w)
value-step (x ∷ b) zero w = refl
value-step (x ∷ b) (suc a) w = value-step b a w

value_none : (b : List ℕ) → value (take 0 b) ≡ 0
unfolding value
value_none b = refl

-- a field of one byte
pub value-one : (b : List ℕ) (a : ℕ) → value (take 1 (drop a b)) ≡ get_or b a 0
value-one b a = value-step b a 0 ∙ rw (value_none (drop (suc a) b)) (omega arith)

-- .. and at its highest byte
value-last : (b : List ℕ) (w : ℕ) → value (take (suc w) b) ≡ value (take w b) + get_or b w 0 * 256 ^ w
unfolding value
value-last [] w = rw (take-nil w) (omega arith)
value-last (x ∷ b) zero = omega arith
value-last (x ∷ b) (suc w) =
    let top : get_or b w 0 * 256 ^ suc w ≡ 256 * (get_or b w 0 * 256 ^ w) = ap (λ k. get_or b w 0 * k) (pow-succ' 256 w) ∙ mul_left_comm (get_or b w 0) 256 (256 ^ w) in
    rw (value-last b w, top) (omega arith)

-- byte i of those from `at` on
abbrev byte_from : List ℕ → ℕ → ℕ → ℕ
byte_from b at zero = get_or b at 0
byte_from b at (suc i) = get_or b (at + suc i) 0

-- what std's `from_le_bytes` sums up, and what its `to_le_bytes` lists
pub summed : (b : List ℕ) (at w : ℕ) → sum_through (λ i. byte_worth i (byte_from b at i)) w ≡ value (take (suc w) (drop at b))
summed b at zero = sym (value-one b at)
summed b at (suc w) = rw (summed b at w, ← get_or-drop at b (suc w) 0) (sym (value-last (drop at b) (suc w)))

low_first : (i w n : ℕ) → bytes_low_first i w n ≡ bytes w (n / 256 ^ i)
unfolding bytes
low_first i zero n = refl
low_first i (suc w) n =
    let here : byte_at i n ≡ n / 256 ^ i % 256 = first i in
    let rest : n / 256 ^ suc i ≡ n / 256 ^ i / 256 = ap (λ k. n / k) (pow-suc 256 i) ∙ sym (div-div-eq-div-mul n (256 ^ i) 256) in
    rw (here, low_first (suc i) w n, rest) refl
  where
    first : (i : ℕ) → byte_at i n ≡ n / 256 ^ i % 256
    first zero = ap (λ k. k % 256) (sym (div-one n))
    first (suc i) = refl

listed : (w n : ℕ) → bytes_low_first 0 w n ≡ bytes w n
listed w n = low_first 0 w n ∙ ap (bytes w) (div-one n)

-- the bytes of a number put in a lent part
pub written : (w x at n : ℕ) (b l : List ℕ) → length b ≡ n → b ≡ bytes_low_first 0 w x → put_mid at n l b ≡ store at (bytes w x) l
written w x at n b l e q = part-stored at n b l e ∙ ap (λ v. store at v l) (q ∙ listed w x)

-- ---- entries

-- less than an entry
entries-short : (w : ℕ) (b : List ℕ) → length b < w → entries w b ≡ []
unfolding entries
entries-short w b h = rw (div-eq_of_lt h) (tabulate-zero (entry w b) 0)

-- the first entry, and the later ones
entry_first : (w n : ℕ) (b : List ℕ) → n < 256 ^ w → entry w (bytes w n ++ b) 0 ≡ n
unfolding entry
entry_first w n b h = rw (mul-zero, take_at (bytes w n) b w (length-bytes w n)) (value-bytes w n h)

entry-suc : (w : ℕ) (a b : List ℕ) (i : ℕ) → length a ≡ w → entry w (a ++ b) (suc i) ≡ entry w b i
unfolding entry
entry-suc w a b i e =
    let n : w * suc i ≡ w + w * i = omega (arith, mul-suc w i) in
    ap (λ r. value (take w r)) (ap (λ k. drop k (a ++ b)) n ∙ sym (drop-drop (w * i) w (a ++ b)) ∙ ap (drop (w * i)) (drop_at a b w e))

entries-cons : (w n : ℕ) (b : List ℕ) → 0 < w → n < 256 ^ w → entries w (bytes w n ++ b) ≡ n ∷ entries w b
unfolding entries
entries-cons w n b p h =
    let more : length (bytes w n ++ b) / w ≡ suc (length b / w) =
    ap (λ k. k / w) (length-append (bytes w n) b ∙ ap (λ k. k + length b) (length-bytes w n)) ∙ add-div_left (length b) p ∙ omega arith in
    rw (more, tabulate-suc, entry_first w n b h)
    (ap (λ r. n ∷ r)
    (tabulate-ext _ _ 1 0 (length b / w)
    (λ k l. ap (entry w _) (omega arith) ∙ entry-suc w (bytes w n) b k (length-bytes w n) ∙ ap (entry w b) (omega arith))))

-- numbers written one after the other are read back; less than an entry behind them is left out
pub entries-bytes : (w : ℕ) (ns rest : List ℕ) → 0 < w → ((i : ℕ) → i < length ns → get_or ns i 0 < 256 ^ w) → length rest < w → entries w (flat_map (bytes w) ns ++ rest) ≡ ns
unfolding flat_map
entries-bytes w [] rest p h k = entries-short w rest k
entries-bytes w (n ∷ ns) rest p h k =
    ap (entries w) (append_assoc (bytes w n) _ rest) ∙ entries-cons w n _ p (h 0 (omega arith))
    ∙ ap (λ r. n ∷ r) (entries-bytes w ns rest p (λ i l. h (suc i) (omega arith)) k)

-- ---- amounts

pub amount-bits : {z : ℤ} → SFits w32 z → amount (bits z) ≡ z
amount-bits {z} f = vals.to_z-of_z w32 z f

pub bits-amount : (n : ℕ) → n < 4294967296 → bits (amount n) ≡ n
bits-amount n h = vals.of_z-to_z w32 n (record { fits = h })

pub bits-bound : {z : ℤ} → SFits w32 z → bits z < 4294967296
bits-bound {z} f = (vals.of_z_fits w32 z f).fits

pub amount-fits : (n : ℕ) → n < 4294967296 → SFits w32 (amount n)
amount-fits n h = vals.to_z-Fits w32 n (record { fits = h })
