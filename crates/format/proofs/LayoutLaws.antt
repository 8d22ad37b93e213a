-- Fields of any widths are read back as written and written back as read; from this, the 20 bytes of a record and the record in them.
-- Assumes nothing.
use mathlib.Core.Path.{◌≡◌, refl, sym, ap, ◌∙◌}
use mathlib.Core.List.{List, [], ◌∷◌, ◌++◌, append_assoc}
use Prim.Native.Nat.{ℕ, zero, suc, ◌+◌, ◌-◌, ◌*◌, ◌%◌, ◌^◌, ◌≤◌, ◌<◌}
use native.Mathlib.Nat.{add-zero}
use native.Mathlib.Omega.{arith}
use lib.IntN.{ℤ}
use lib.ListN.{length, take, drop, get_or, length-append, length-drop, set}
use lib.Seq.{take_at, drop_at, take_all, take-take, take-add, drop-drop, length-take-le, take-append-le, drop-append-le}
use Rattle.std.proofs.lemmas.List.{drop-take}
use Rattle.lists.specs.Tables.{store}
use Rattle.lists.proofs.TablesLaws.{sets-store, store-store, store-all}
use Rattle.format.specs.declared.Record.{Record}
use Rattle.format.specs.Bytes.{Bytes, none, value, bytes, amount, bits}
use Rattle.format.specs.Layout.{layout, parsed, printed, fields, record_with, record_of, bytes_of, record_at, Fitting}
use Rattle.format.proofs.BytesLaws.{Bytes-take, Bytes-drop, Bytes-append, length-bytes, bytes-bytes, value-bytes, bytes-value, value-take-bound, value-one, amount-bits, bits-amount, bits-bound, amount-fits}

-- ---- fields of any widths

-- each number fits its width
data Fit : List ℕ → List ℕ → Type 0 where
  no_fields : Fit [] []
  field : {w v : ℕ} {ws vs : List ℕ} → v < 256 ^ w → Fit ws vs → Fit (w ∷ ws) (v ∷ vs)

-- the bytes that the fields take
abbrev width : List ℕ → ℕ
width [] = 0
width (w ∷ ws) = w + width ws

parsed-printed : {ws vs : List ℕ} → Fit ws vs → (rest : List ℕ) → parsed ws (printed ws vs ++ rest) ≡ vs
unfolding parsed printed
parsed-printed no_fields rest = refl
parsed-printed (field {w} {v} {ws} {vs} h k) rest =
    rw (append_assoc (bytes w v) (printed ws vs) rest, take_at (bytes w v) (printed ws vs ++ rest) w (length-bytes w v), drop_at (bytes w v) (printed ws vs ++ rest) w (length-bytes w v), value-bytes w v h, parsed-printed k rest)

printed-parsed : (ws : List ℕ) {b : List ℕ} → Bytes b → width ws ≤ length b → printed ws (parsed ws b) ≡ take (width ws) b
unfolding parsed printed
printed-parsed [] k h = refl
printed-parsed (w ∷ ws) {b} k h =
    let e : length (take w b) ≡ w = length-take-le w b (omega arith) in
    let here : bytes w (value (take w b)) ≡ take w b = rw e at (bytes-value (Bytes-take k w)) in
    rw (here, printed-parsed ws (Bytes-drop k w) (omega (arith, length-drop w b))) (sym (take-add w (width ws) b))

-- bytes behind the fields are not read
parsed-take : (ws : List ℕ) (n : ℕ) (b : List ℕ) → width ws ≤ n → parsed ws (take n b) ≡ parsed ws b
unfolding parsed
parsed-take [] n b h = refl
parsed-take (w ∷ ws) n b h =
    let e : w + (n - w) ≡ n = omega arith in
    let rest : drop w (take n b) ≡ take (n - w) (drop w b) = rw e at (drop-take w (n - w) b) in
    rw (take-take w n b (omega arith), rest, parsed-take ws (n - w) (drop w b) (omega arith))

-- field k stands behind the fields before it
parsed-at : (ws b : List ℕ) (k : ℕ) → k < length ws → get_or (parsed ws b) k 0 ≡ value (take (get_or ws k 0) (drop (width (take k ws)) b))
unfolding parsed
parsed-at [] b k h = absurd (omega arith)
parsed-at (w ∷ ws) b zero h = refl
parsed-at (w ∷ ws) b (suc k) h = parsed-at ws (drop w b) k (omega arith) ∙ ap (λ r. value (take (get_or ws k 0) r)) (drop-drop (width (take k ws)) w b)

parsed-bound : (ws : List ℕ) {b : List ℕ} → Bytes b → (k : ℕ) → k < length ws → get_or (parsed ws b) k 0 < 256 ^ get_or ws k 0
parsed-bound ws {b} j k h = rw (parsed-at ws b k h) (value-take-bound (Bytes-drop j (width (take k ws))) (get_or ws k 0))

printed-bytes : (ws vs : List ℕ) → Bytes (printed ws vs)
unfolding printed
printed-bytes [] vs = none
printed-bytes (w ∷ ws) [] = none
printed-bytes (w ∷ ws) (v ∷ vs) = Bytes-append (bytes-bytes w v) (printed-bytes ws vs)

length-printed : (ws vs : List ℕ) → length vs ≡ length ws → length (printed ws vs) ≡ width ws
unfolding printed
length-printed [] vs e = refl
length-printed (w ∷ ws) [] e = absurd (omega arith)
length-printed (w ∷ ws) (v ∷ vs) e =
    length-append (bytes w v) (printed ws vs) ∙ rw (length-bytes w v, length-printed ws vs (omega arith))

-- ---- the record in 20 bytes

fields_fit : {r : Record} → Fitting r → Fit layout (fields r)
fields_fit f =
    field f.kind (field f.reserved (field f.transaction (field f.next (field f.item
    (field (bits-bound f.before) (field (bits-bound f.after) no_fields))))))

-- a record from its fields
record_with-fields : {r : Record} → Fitting r → record_with (fields r) ≡ r
record_with-fields f = rw (amount-bits f.before, amount-bits f.after)

pub record_of-bytes_of : {r : Record} → Fitting r → (rest : List ℕ) → record_of (bytes_of r ++ rest) ≡ r
unfolding record_of bytes_of
record_of-bytes_of f rest = ap record_with (parsed-printed (fields_fit f) rest) ∙ record_with-fields f

record_of-fitting : {b : List ℕ} → Bytes b → Fitting (record_of b)
unfolding record_of
record_of-fitting k =
    record {
      kind = parsed-bound layout k 0 (omega arith);
      reserved = parsed-bound layout k 1 (omega arith);
      transaction = parsed-bound layout k 2 (omega arith);
      next = parsed-bound layout k 3 (omega arith);
      item = parsed-bound layout k 4 (omega arith);
      before = amount-fits _ (parsed-bound layout k 5 (omega arith));
      after = amount-fits _ (parsed-bound layout k 6 (omega arith));
    }

-- the fields of the record in these bytes
fields-record_of : {b : List ℕ} → Bytes b → fields (record_of b) ≡ parsed layout b
unfolding record_of parsed
fields-record_of {b} k =
    rw (bits-amount (get_or (parsed layout b) 5 0) (parsed-bound layout k 5 (omega arith)), bits-amount (get_or (parsed layout b) 6 0) (parsed-bound layout k 6 (omega arith)))

bytes_of-record_of : {b : List ℕ} → Bytes b → length b ≡ 20 → bytes_of (record_of b) ≡ b
unfolding bytes_of
bytes_of-record_of {b} k e = ap (printed layout) (fields-record_of k) ∙ printed-parsed layout k (omega arith) ∙ take_all 20 b (omega arith)

-- bytes behind the 20 are not read
record_of-take : (b : List ℕ) → record_of (take 20 b) ≡ record_of b
unfolding record_of
record_of-take b = ap record_with (parsed-take layout 20 b (omega arith))

pub length-bytes_of : (r : Record) → length (bytes_of r) ≡ 20
unfolding bytes_of
length-bytes_of r = length-printed layout (fields r) refl

pub bytes_of-bytes : (r : Record) → Bytes (bytes_of r)
unfolding bytes_of
bytes_of-bytes r = printed-bytes layout (fields r)

-- fields stored one after the other, from the front
then : (n : ℕ) (v w l : List ℕ) {x y : List ℕ} → length v ≡ n → n ≤ length l → x ≡ store 0 v l → y ≡ store n w x → y ≡ store 0 (v ++ w) l
then n v w l e h p q =
    let at : n ≡ 0 + length v = omega arith in
    q ∙ rw (p, at) (store-store 0 v l (omega arith) w)

-- the 20 bytes written in parts: two single bytes, then each field
pub bytes_of-stored : (r : Record) (l : List ℕ) {u v : ℕ} {a b c d e : List ℕ} → r.kind < 256 → r.reserved < 256 → u ≡ bits r.before → v ≡ bits r.after → length l ≡ 20
    → a ≡ store 2 (bytes 2 r.transaction.0) (set (set l 0 r.kind) 1 r.reserved) → b ≡ store 4 (bytes 4 r.next.0) a
    → c ≡ store 8 (bytes 4 r.item.0) b → d ≡ store 12 (bytes 4 u) c → e ≡ store 16 (bytes 4 v) d → e ≡ bytes_of r
unfolding bytes_of printed bytes
bytes_of-stored r l {u} {v} {a} {b} {c} {d} {e} hk hr eu ev n pa pb pc pd pe =
    let low : (x : ℕ) → x < 256 → x ≡ x % 256 = λ x h. omega arith in
    let start : set (set l 0 r.kind) 1 r.reserved ≡ store 0 (bytes 1 r.kind ++ bytes 1 r.reserved) l =
    ap (λ x. set (set l 0 x) 1 r.reserved) (low r.kind hk) ∙ ap (λ x. set (set l 0 (r.kind % 256)) 1 x) (low r.reserved hr)
    ∙ sets-store 0 (bytes 1 r.kind ++ bytes 1 r.reserved) l (omega arith) in
    let all : e ≡ store 0 _ l =
    then 16 _ _ l refl (omega arith)
    (then 12 _ _ l refl (omega arith)
    (then 8 _ _ l refl (omega arith) (then 4 _ _ l refl (omega arith) (then 2 _ _ l refl (omega arith) start pa) pb) pc)
    pd)
    pe in
    all ∙ store-all _ l n ∙ rw (eu, ev)

-- ---- record i of a journal

pub record_at-fitting : {b : List ℕ} → Bytes b → (i : ℕ) → Fitting (record_at b i)
unfolding record_at
record_at-fitting k i = record_of-fitting (Bytes-take (Bytes-drop k (20 * i)) 20)

-- a record behind i others
pub record_at-here : (i : ℕ) (a : List ℕ) {r : Record} (c : List ℕ) → length a ≡ 20 * i → Fitting r → record_at (a ++ bytes_of r ++ c) i ≡ r
unfolding record_at
record_at-here i a {r} c e f =
    rw (append_assoc a (bytes_of r) c, drop_at a (bytes_of r ++ c) (20 * i) e, record_of-take) (record_of-bytes_of f c)

-- a record in front of what is appended
pub record_at-front : (i : ℕ) (a c : List ℕ) → 20 * i + 20 ≤ length a → record_at (a ++ c) i ≡ record_at a i
unfolding record_at
record_at-front i a c h =
    rw (drop-append-le (20 * i) a c (omega arith), take-append-le 20 (drop (20 * i) a) c (omega (arith, length-drop (20 * i) a)))

-- the bytes of record i
pub bytes_of-record_at : {b : List ℕ} (i : ℕ) → Bytes b → 20 * i + 20 ≤ length b → take 20 (drop (20 * i) b) ≡ bytes_of (record_at b i)
unfolding record_at
bytes_of-record_at {b} i k h =
    sym (bytes_of-record_of (Bytes-take (Bytes-drop k (20 * i)) 20) (length-take-le 20 (drop (20 * i) b) (omega (arith, length-drop (20 * i) b))))

-- field k of record i
field_at : (b : List ℕ) (i k : ℕ) → k < 7 → get_or (parsed layout (take 20 (drop (20 * i) b))) k 0 ≡ value (take (get_or layout k 0) (drop (20 * i + width (take k layout)) b))
field_at b i k h =
    ap (λ r. get_or r k 0) (parsed-take layout 20 (drop (20 * i) b) (omega arith)) ∙ parsed-at layout (drop (20 * i) b) k h
    ∙ ap (λ r. value (take (get_or layout k 0) r)) (drop-drop (width (take k layout)) (20 * i) b)

pub kind_at : (b : List ℕ) (i : ℕ) → (record_at b i).kind ≡ get_or b (20 * i) 0
unfolding record_at record_of
kind_at b i = field_at b i 0 (omega arith) ∙ value-one b (20 * i + 0) ∙ ap (λ k. get_or b k 0) (add-zero (20 * i))

pub reserved_at : (b : List ℕ) (i : ℕ) → (record_at b i).reserved ≡ get_or b (20 * i + 1) 0
unfolding record_at record_of
reserved_at b i = field_at b i 1 (omega arith) ∙ value-one b (20 * i + 1)

pub transaction_at : (b : List ℕ) (i : ℕ) → (record_at b i).transaction.0 ≡ value (take 2 (drop (20 * i + 2) b))
unfolding record_at record_of
transaction_at b i = field_at b i 2 (omega arith)

pub next_at : (b : List ℕ) (i : ℕ) → (record_at b i).next.0 ≡ value (take 4 (drop (20 * i + 4) b))
unfolding record_at record_of
next_at b i = field_at b i 3 (omega arith)

pub item_at : (b : List ℕ) (i : ℕ) → (record_at b i).item.0 ≡ value (take 4 (drop (20 * i + 8) b))
unfolding record_at record_of
item_at b i = field_at b i 4 (omega arith)

pub before_at : (b : List ℕ) (i : ℕ) → (record_at b i).before ≡ amount (value (take 4 (drop (20 * i + 12) b)))
unfolding record_at record_of
before_at b i = ap amount (field_at b i 5 (omega arith))

pub after_at : (b : List ℕ) (i : ℕ) → (record_at b i).after ≡ amount (value (take 4 (drop (20 * i + 16) b)))
unfolding record_at record_of
after_at b i = ap amount (field_at b i 6 (omega arith))

-- the record made of its fields
pub record_at-made : (b : List ℕ) (i : ℕ) {t n x : ℕ} {p q : ℤ} → t ≡ value (take 2 (drop (20 * i + 2) b)) → n ≡ value (take 4 (drop (20 * i + 4) b))
    → x ≡ value (take 4 (drop (20 * i + 8) b)) → p ≡ amount (value (take 4 (drop (20 * i + 12) b))) → q ≡ amount (value (take 4 (drop (20 * i + 16) b)))
    → record { kind = get_or b (20 * i) 0; reserved = get_or b (20 * i + 1) 0; transaction = record { 0 = t }; next = record { 0 = n }; item = record { 0 = x }; before = p; after = q } ≡ record_at b i
record_at-made b i et en ex ep eq =
    rw (et, en, ex, ep, eq, ← kind_at b i, ← reserved_at b i, ← transaction_at b i, ← next_at b i, ← item_at b i, ← before_at b i, ← after_at b i)
