-- A journal's records after a record, or a record's next, is stored among its bytes.
-- Assumes nothing.
use mathlib.Core.Path.{◌≡◌, sym, ◌∙◌, ap}
use mathlib.Core.Bool.{false, cond}
use mathlib.Core.List.{List, [], append-nil}
use Prim.Native.Nat.{ℕ, suc, ◌+◌, ◌*◌, ◌<◌, ◌≤◌}
use native.Mathlib.Omega.{arith}
use lib.Dec.{eqb, ltb}
use lib.ListN.{length, take, drop}
use borrow.Author.Tests.{eqb-true, eqb-false, ne_eqb, ltb-true, ltb-false}
use Rattle.lists.specs.Tables.{store}
use Rattle.lists.proofs.BoolLaws.{by_cases}
use Rattle.lists.proofs.TablesLaws.{length-store, drop-store, part-store, part-store-before, part-store-after, get_or-store-before}
use Rattle.format.specs.declared.Record.{Record}
use Rattle.format.specs.Bytes.{Bytes, bytes, value, amount}
use Rattle.format.specs.Layout.{record_of, bytes_of, record_at, Fitting}
use Rattle.format.proofs.BytesLaws.{Bytes-store, length-bytes, bytes-bytes, value-bytes}
use Rattle.format.proofs.LayoutLaws.{length-bytes_of, record_of-bytes_of, kind_at, reserved_at, transaction_at, next_at, item_at, before_at, after_at}
use Rattle.journal.specs.Copy.{linked_to}
use Rattle.journal.specs.Calls.{link}

-- a record from its fields
pub record-path : {r q : Record} → r.kind ≡ q.kind → r.reserved ≡ q.reserved → r.transaction.0 ≡ q.transaction.0 → r.next.0 ≡ q.next.0
    → r.item.0 ≡ q.item.0 → r.before ≡ q.before → r.after ≡ q.after → r ≡ q
record-path a b c d e f g =
    λ i. record {
      kind = a i;
      reserved = b i;
      transaction = record { 0 = c i };
      next = record { 0 = d i };
      item = record { 0 = e i };
      before = f i;
      after = g i;
    }

-- bytes stored in front of a record, or behind it
module _ (at : ℕ) (v b : List ℕ) (fits : at + length v ≤ length b) where
  record_at-before : (i : ℕ) → 20 * i + 20 ≤ at → record_at (store at v b) i ≡ record_at b i
  unfolding record_at
  record_at-before i h = ap record_of (part-store-before at v b fits (20 * i) 20 h)

  record_at-behind : (i : ℕ) → at + length v ≤ 20 * i → record_at (store at v b) i ≡ record_at b i
  unfolding record_at
  record_at-behind i h = ap record_of (part-store-after at v b fits (20 * i) 20 h)

-- a record stored
module _ (i : ℕ) (r : Record) (b : List ℕ) (long : 20 * i + 20 ≤ length b) where
  pub stored-fits : 20 * i + length (bytes_of r) ≤ length b
  stored-fits = rw (length-bytes_of r) long

  pub record_at-stored : Fitting r → record_at (store (20 * i) (bytes_of r) b) i ≡ r
  unfolding record_at
  record_at-stored f =
      ap record_of (ap (λ n. take n (drop (20 * i) (store (20 * i) (bytes_of r) b))) (sym (length-bytes_of r)) ∙ part-store (20 * i) (bytes_of r) b stored-fits)
      ∙ ap record_of (sym (append-nil (bytes_of r))) ∙ record_of-bytes_of f []

  pub record_at-stored-other : (j : ℕ) → eqb j i ≡ false → record_at (store (20 * i) (bytes_of r) b) j ≡ record_at b j
  record_at-stored-other j e =
      by_cases (ltb j i)
      (λ l. let h = ltb-true j i l in record_at-before (20 * i) (bytes_of r) b stored-fits j (omega arith))
      (λ l. let h = ltb-false j i l in let d = eqb-false j i e in record_at-behind (20 * i) (bytes_of r) b stored-fits j (rw (length-bytes_of r) (omega arith)))

-- a next stored
module _ (i n : ℕ) (b : List ℕ) (long : 20 * i + 20 ≤ length b) where
  pub linked-fits : 20 * i + 4 + length (bytes 4 n) ≤ length b
  linked-fits = rw (length-bytes 4 n) (omega arith)

  pub record_at-linked : n < 4294967296 → record_at (store (20 * i + 4) (bytes 4 n) b) i ≡ linked_to n (record_at b i)
  record_at-linked h =
      let c : List ℕ = store (20 * i + 4) (bytes 4 n) b in
      let front : (m w : ℕ) → m + w ≤ 4 → take w (drop (20 * i + m) c) ≡ take w (drop (20 * i + m) b) =
      λ m w l. part-store-before (20 * i + 4) (bytes 4 n) b linked-fits (20 * i + m) w (omega arith) in
      let back : (m w : ℕ) → 8 ≤ m → take w (drop (20 * i + m) c) ≡ take w (drop (20 * i + m) b) =
      λ m w l. part-store-after (20 * i + 4) (bytes 4 n) b linked-fits (20 * i + m) w (rw (length-bytes 4 n) (omega arith)) in
      let here : take 4 (drop (20 * i + 4) c) ≡ bytes 4 n =
      ap (λ k. take k (drop (20 * i + 4) c)) (sym (length-bytes 4 n)) ∙ part-store (20 * i + 4) (bytes 4 n) b linked-fits in
      record-path
      (kind_at c i ∙ get_or-store-before (20 * i + 4) (bytes 4 n) b linked-fits (20 * i) 0 (omega arith) ∙ sym (kind_at b i))
      (reserved_at c i ∙ get_or-store-before (20 * i + 4) (bytes 4 n) b linked-fits (20 * i + 1) 0 (omega arith) ∙ sym (reserved_at b i))
      (transaction_at c i ∙ ap value (front 2 2 (omega arith)) ∙ sym (transaction_at b i))
      (next_at c i ∙ ap value here ∙ value-bytes 4 n h)
      (item_at c i ∙ ap value (back 8 4 (omega arith)) ∙ sym (item_at b i))
      (before_at c i ∙ ap (λ v. amount (value v)) (back 12 4 (omega arith)) ∙ sym (before_at b i))
      (after_at c i ∙ ap (λ v. amount (value v)) (back 16 4 (omega arith)) ∙ sym (after_at b i))

  pub record_at-linked-other : (j : ℕ) → eqb j i ≡ false → record_at (store (20 * i + 4) (bytes 4 n) b) j ≡ record_at b j
  record_at-linked-other j e =
      by_cases (ltb j i)
      (λ l. let h = ltb-true j i l in record_at-before (20 * i + 4) (bytes 4 n) b linked-fits j (omega arith))
      (λ l. let h = ltb-false j i l in let d = eqb-false j i e in record_at-behind (20 * i + 4) (bytes 4 n) b linked-fits j (rw (length-bytes 4 n) (omega arith)))

-- the next of no record, or of record i
module _ (n i : ℕ) (b : List ℕ) (long : 20 * i + 20 ≤ length b) where
  pub length-link : length (link n i b) ≡ length b
  unfolding link
  length-link = by_cases (eqb i 0) (λ e. rw e) (λ e. rw e (length-store (20 * i + 4) (bytes 4 n) b (linked-fits i n b long)))

  pub link-bytes : Bytes b → Bytes (link n i b)
  unfolding link
  link-bytes k = by_cases (eqb i 0) (λ e. rw e k) (λ e. rw e (Bytes-store (20 * i + 4) (bytes-bytes 4 n) k))

  pub link-behind : (m : ℕ) → 20 * i + 20 ≤ m → drop m (link n i b) ≡ drop m b
  unfolding link
  link-behind m h = by_cases (eqb i 0) (λ e. rw e) (λ e. rw e (drop-store (20 * i + 4) (bytes 4 n) b (linked-fits i n b long) m (rw (length-bytes 4 n) (omega arith))))

  pub record_at-link : n < 4294967296 → (j : ℕ) → record_at (link n i b) (suc j) ≡ cond (eqb (suc j) i) (linked_to n (record_at b (suc j))) (record_at b (suc j))
  unfolding link
  record_at-link h j =
      by_cases (eqb i 0)
      (λ z. let d : eqb (suc j) i ≡ false = ne_eqb (suc j) i (λ q. let y = eqb-true i 0 z in omega arith) in rw (z, d))
      (λ z. rw z
      (by_cases (eqb (suc j) i)
      (λ e. rw (e, eqb-true (suc j) i e) (record_at-linked i n b long h))
      (λ e. rw e (record_at-linked-other i n b long (suc j) e))))

  pub record_at-link-head : record_at (link n i b) 0 ≡ record_at b 0
  unfolding link
  record_at-link-head =
      by_cases (eqb i 0)
      (λ z. rw z)
      (λ z. rw z (record_at-linked-other i n b long 0 (ne_eqb 0 i (λ q. eqb-false i 0 z (sym q)))))
