-- Journals with the same records but for the links: where both pass, they are the same to the byte.
-- Assumes nothing.
use mathlib.Core.Path.{◌≡◌, refl, sym, ◌∙◌, ap}
use mathlib.Core.List.{List, [], ◌∷◌, map}
use Prim.Native.Nat.{ℕ, zero, suc, ◌+◌, ◌*◌, ◌<◌}
use native.Mathlib.Omega.{arith}
use lib.Dec.{eqb}
use lib.ListN.{length, take, drop, get_or, length-map}
use borrow.Author.Tests.{eqb-true, eqb-false}
use Rattle.lists.proofs.BoolLaws.{by_cases}
use Rattle.format.specs.declared.Record.{Record}
use Rattle.format.specs.Bytes.{Bytes}
use Rattle.format.specs.Layout.{record_at}
use Rattle.model.specs.History.{next_in}
use Rattle.journal.specs.Journal.{count, items, records, history, whole}
use Rattle.journal.specs.Copy.{linked_to}
use Rattle.journal.proofs.Encoded.{encoded-records}
use Rattle.journal.proofs.Checked.{Sound}
use Rattle.journal.proofs.Records.{op_of-linked_to, length-records, ops_of, ops_of-records}
use Rattle.journal.proofs.Stored.{record-path}
use Rattle.journal.proofs.Unrefused.{sound-long, head-is, chained-next}

ops_of-linked : (rs : List Record) → ops_of (map (linked_to 0) rs) ≡ ops_of rs
unfolding ops_of
ops_of-linked [] = refl
ops_of-linked (r ∷ rs) = rw (length-map rs (linked_to 0), ops_of-linked rs, op_of-linked_to (suc (length rs)) 0 r)

module _ (b c : List ℕ) (n : ℕ) where
  pub count-linked : map (linked_to 0) (records b (count b)) ≡ map (linked_to 0) (records c n) → count b ≡ n
  count-linked e =
      sym (length-map (records b (count b)) (linked_to 0) ∙ length-records b (count b)) ∙ ap length e ∙ length-map (records c n) (linked_to 0) ∙ length-records c n

  pub whole-linked : map (linked_to 0) (records b (count b)) ≡ map (linked_to 0) (records c n) → whole b ≡ history c n
  unfolding whole
  whole-linked e =
      sym (ops_of-linked (records b (count b)) ∙ ops_of-records b (count b)) ∙ ap ops_of e ∙ ops_of-linked (records c n) ∙ ops_of-records c n

whole_same : (b c : List ℕ) → map (linked_to 0) (records b (count b)) ≡ map (linked_to 0) (records c (count c)) → whole b ≡ whole c
unfolding whole
whole_same b c e = whole-linked b c (count c) e

linked-at : (b c : List ℕ) (n : ℕ) → map (linked_to 0) (records b n) ≡ map (linked_to 0) (records c n) → (i : ℕ) → i < n
    → linked_to 0 (record_at b (suc i)) ≡ linked_to 0 (record_at c (suc i))
unfolding records
linked-at b c zero e i h = absurd (omega arith)
linked-at b c (suc n) e i h =
    by_cases (eqb i n)
    (λ q. rw (eqb-true i n q) (ap (λ l. get_or l 0 (record_at b 0)) e))
    (λ q. let d = eqb-false i n q in linked-at b c n (ap (drop 1) e) i (omega arith))

relinked : {r q : Record} → linked_to 0 r ≡ linked_to 0 q → r.next.0 ≡ q.next.0 → r ≡ q
relinked e n =
    record-path (ap (λ z. z.kind) e) (ap (λ z. z.reserved) e) (ap (λ z. z.transaction.0) e) n (ap (λ z. z.item.0) e)
    (ap (λ z. z.before) e) (ap (λ z. z.after) e)

records-ext : (b c : List ℕ) (n : ℕ) → ((i : ℕ) → i < n → record_at b (suc i) ≡ record_at c (suc i)) → records b n ≡ records c n
unfolding records
records-ext b c zero h = refl
records-ext b c (suc n) h = rw (h n (omega arith), records-ext b c n (λ i l. h i (omega arith)))

-- where both pass, the links are the same too, and so are the bytes
pub same_bytes : (b c : List ℕ) → Bytes b → Bytes c → Sound b → Sound c → items b ≡ items c
    → map (linked_to 0) (records b (count b)) ≡ map (linked_to 0) (records c (count c)) → take (20 * (count c + 1)) b ≡ take (20 * (count c + 1)) c
same_bytes b c kb kc sb sc m e =
    let n : count b ≡ count c = count-linked b c (count c) e in
    let w : whole b ≡ whole c = whole_same b c e in
    let f : map (linked_to 0) (records b (count c)) ≡ map (linked_to 0) (records c (count c)) = rw n at e in
    let same : (i : ℕ) → i < count c → record_at b (suc i) ≡ record_at c (suc i) =
    λ i h. let q = linked-at b c (count c) f i h in
    relinked q
    (chained-next b (suc i) (sb.right i (omega arith)).chained ∙ rw w (ap (next_in (whole c) (suc i)) (ap (λ z. z.transaction.0) q))
    ∙ sym (chained-next c (suc i) (sc.right i h).chained)) in
    let head : record_at b 0 ≡ record_at c 0 = head-is b sb.head ∙ rw (n, m) (sym (head-is c sc.head)) in
    encoded-records b (count c) kb (omega (arith, sound-long sb))
    ∙ rw (head, records-ext b c (count c) same) (sym (encoded-records c (count c) kc (sound-long sc)))
