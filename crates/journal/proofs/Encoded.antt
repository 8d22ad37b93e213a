-- Records written one after the other behind a head, read back.
-- Assumes nothing.
use mathlib.Core.Path.{◌≡◌, refl, sym, ◌∙◌, ap, subst⁻¹}
use mathlib.Core.List.{List, [], ◌∷◌, ◌++◌, append_assoc, append-nil}
use Prim.Native.Nat.{ℕ, zero, suc, ◌+◌, ◌*◌, ◌<◌, ◌≤◌}
use native.Mathlib.Omega.{arith}
use lib.Dec.{eqb}
use lib.ListN.{length, take, length-append}
use lib.Seq.{take-add}
use borrow.Author.Tests.{eqb-true, eqb-false}
use Rattle.lists.proofs.BoolLaws.{by_cases}
use Rattle.format.specs.declared.Record.{Record}
use Rattle.format.specs.Bytes.{Bytes, none}
use Rattle.format.specs.Layout.{record_at, bytes_of, Fitting}
use Rattle.format.proofs.BytesLaws.{Bytes-append}
use Rattle.format.proofs.LayoutLaws.{length-bytes_of, bytes_of-bytes, record_at-here, bytes_of-record_at}
use Rattle.journal.specs.Journal.{count, items, records, history, whole}
use Rattle.journal.specs.Copy.{head_with, encoded, journal_of}
use Rattle.journal.proofs.Records.{ops_of, Each, done, and, ops_of-records}

pub length-encoded : (rs : List Record) → length (encoded rs) ≡ 20 * length rs
unfolding encoded
length-encoded [] = refl
length-encoded (r ∷ rs) = length-append (encoded rs) (bytes_of r) ∙ omega (arith, length-encoded rs, length-bytes_of r)

pub length-journal_of : (m : ℕ) (rs : List Record) → length (journal_of m rs) ≡ 20 * (length rs + 1)
unfolding journal_of
length-journal_of m rs =
    length-append (bytes_of (head_with (length rs) m)) (encoded rs) ∙ omega (arith, length-encoded rs, length-bytes_of (head_with (length rs) m))

encoded-bytes : (rs : List Record) → Bytes (encoded rs)
unfolding encoded
encoded-bytes [] = none
encoded-bytes (r ∷ rs) = Bytes-append (encoded-bytes rs) (bytes_of-bytes r)

pub journal_of-bytes : (m : ℕ) (rs : List Record) → Bytes (journal_of m rs)
unfolding journal_of
journal_of-bytes m rs = Bytes-append (bytes_of-bytes (head_with (length rs) m)) (encoded-bytes rs)

-- ---- behind 20 bytes of a head, and with any bytes behind

module _ (h : List ℕ) (e : length h ≡ 20) where
  -- what holds of each record holds of what is read at its number
  encoded-each : (P : ℕ → Record → Type 0) {rs : List Record} (z : List ℕ) → Each P rs → Each (λ i r. Fitting r) rs → (i : ℕ) → 1 ≤ i → i ≤ length rs
      → P i (record_at (h ++ encoded rs ++ z) i)
  unfolding encoded
  encoded-each P z done f i l m = absurd (omega arith)
  encoded-each P z (and {r} {rs} p c) (and g f) i l m =
      let s : h ++ (encoded rs ++ bytes_of r) ++ z ≡ h ++ encoded rs ++ bytes_of r ++ z = ap (λ v. v ++ z) (sym (append_assoc h (encoded rs) (bytes_of r))) in
      by_cases (eqb i (suc (length rs)))
      (λ q. rw (s, eqb-true i _ q, record_at-here (suc (length rs)) (h ++ encoded rs) z (length-append h (encoded rs) ∙ omega (arith, length-encoded rs)) g) p)
      (λ q. let d = eqb-false i _ q in
      rw (s, append_assoc (h ++ encoded rs) (bytes_of r) z) (encoded-each P (bytes_of r ++ z) c f i l (omega arith)))

  records-encoded : (rs : List Record) (z : List ℕ) → Each (λ i r. Fitting r) rs → records (h ++ encoded rs ++ z) (length rs) ≡ rs
  unfolding encoded records
  records-encoded [] z f = refl
  records-encoded (r ∷ rs) z (and g f) =
      let s : h ++ (encoded rs ++ bytes_of r) ++ z ≡ h ++ encoded rs ++ bytes_of r ++ z = ap (λ v. v ++ z) (sym (append_assoc h (encoded rs) (bytes_of r))) in
      let one : (b : List ℕ) → record_at b (suc (length rs)) ≡ r → records b (length rs) ≡ rs → records b (suc (length rs)) ≡ r ∷ rs =
      λ b d e. rw (d, e) in
      let t : h ++ encoded rs ++ bytes_of r ++ z ≡ h ++ encoded rs ++ (bytes_of r ++ z) = append_assoc (h ++ encoded rs) (bytes_of r) z in
      one (h ++ encoded (r ∷ rs) ++ z)
      (subst⁻¹ (λ b. record_at b (suc (length rs)) ≡ r) s
      (record_at-here (suc (length rs)) (h ++ encoded rs) z (length-append h (encoded rs) ∙ omega (arith, length-encoded rs)) g))
      (subst⁻¹ (λ b. records b (length rs) ≡ rs) (s ∙ t) (records-encoded rs (bytes_of r ++ z) f))

-- ---- a whole journal

pub head_with-fitting : (n m : ℕ) → n < 4294967296 → m < 4294967296 → Fitting (head_with n m)
head_with-fitting n m h k =
    record {
      kind = omega arith;
      reserved = omega arith;
      transaction = omega arith;
      next = h;
      item = k;
      before = record { sfits = omega arith };
      after = record { sfits = omega arith };
    }

module _ (m : ℕ) (rs : List Record) (s : length rs < 4294967296) (t : m < 4294967296) where
  pub head-journal_of : record_at (journal_of m rs) 0 ≡ head_with (length rs) m
  unfolding journal_of
  head-journal_of = record_at-here 0 [] (encoded rs) refl (head_with-fitting (length rs) m s t)

  pub count-journal_of : count (journal_of m rs) ≡ length rs
  unfolding count
  count-journal_of = ap (λ r. r.next.0) head-journal_of

  pub items-journal_of : items (journal_of m rs) ≡ m
  unfolding items
  items-journal_of = ap (λ r. r.item.0) head-journal_of

  pub journal_of-each : (P : ℕ → Record → Type 0) → Each P rs → Each (λ i r. Fitting r) rs → (i : ℕ) → 1 ≤ i → i ≤ length rs → P i (record_at (journal_of m rs) i)
  unfolding journal_of
  journal_of-each P c f i l k =
      rw (sym (append-nil (bytes_of (head_with (length rs) m) ++ encoded rs))) (encoded-each (bytes_of (head_with (length rs) m)) (length-bytes_of (head_with (length rs) m)) P [] c f i l k)

  pub records-journal_of : Each (λ i r. Fitting r) rs → records (journal_of m rs) (length rs) ≡ rs
  unfolding journal_of
  records-journal_of f =
      ap (λ b. records b (length rs)) (sym (append-nil (bytes_of (head_with (length rs) m) ++ encoded rs)))
      ∙ records-encoded (bytes_of (head_with (length rs) m)) (length-bytes_of (head_with (length rs) m)) rs [] f

  pub whole-journal_of : Each (λ i r. Fitting r) rs → whole (journal_of m rs) ≡ ops_of rs
  unfolding whole
  whole-journal_of f =
      ap (history (journal_of m rs)) count-journal_of ∙ sym (ops_of-records (journal_of m rs) (length rs)) ∙ ap ops_of (records-journal_of f)

-- ---- any journal's bytes are its records'

pub encoded-records : (b : List ℕ) (n : ℕ) → Bytes b → 20 * (n + 1) ≤ length b → take (20 * (n + 1)) b ≡ bytes_of (record_at b 0) ++ encoded (records b n)
unfolding encoded records
encoded-records b zero k h = bytes_of-record_at 0 k (omega arith) ∙ sym (append-nil _)
encoded-records b (suc n) k h =
    let a : 20 * (suc n + 1) ≡ 20 * (n + 1) + 20 = omega arith in
    let c : 20 * (n + 1) ≡ 20 * suc n = omega arith in
    ap (λ z. take z b) a ∙ take-add (20 * (n + 1)) 20 b
    ∙ rw (encoded-records b n k (omega arith), c, bytes_of-record_at (suc n) k (omega arith)) (append_assoc (bytes_of (record_at b 0)) (encoded (records b n)) (bytes_of (record_at b (suc n))))
