-- The copy: one record stored behind those before it, and the whole.
-- Assumes nothing.
use mathlib.Core.Path.{◌≡◌, refl, sym, ◌∙◌, ap}
use mathlib.Core.Bool.{true, false, cond}
use mathlib.Core.List.{List, [], ◌∷◌, ◌++◌, append-nil}
use Prim.Native.Nat.{ℕ, zero, suc, ◌+◌, ◌-◌, ◌*◌, ◌≤◌, ◌<◌}
use native.Mathlib.Omega.{arith}
use native.Mathlib.Numerals.{add-one}
use lib.ListN.{length, get_or}
use mir.Syntax.{w32}
use mir.Val.{to_z, of_z, SFits}
use mir.ValLaws.{to_z-of_z}
use borrow.Rule.Slice.PartMut.{put_mid}
use Rattle.lists.specs.Tables.{store, stepped, coded}
use Rattle.lists.proofs.BoolLaws.{by_cases}
use Rattle.lists.proofs.TablesLaws.{part-stored, store-store, length-store, stepped_start, stepped-suc}
use Rattle.format.specs.declared.Record.{Record}
use Rattle.format.specs.Layout.{record_at, bytes_of}
use Rattle.format.proofs.LayoutLaws.{length-bytes_of}
use Rattle.journal.specs.Journal.{tx_in, records}
use Rattle.journal.specs.Copy.{head_with, linked_to, encoded}
use Rattle.journal.proofs.Encoded.{length-encoded}
use Rattle.repair.specs.Copying.{rank, Ranked, moved, moved_all, copy_bytes, copy_with, copy_step}
use Rattle.repair.proofs.RankLaws.{rank-surviving, rank-le}

-- ---- one record

module _ (b fates ranks out : List ℕ) (i : ℕ) (r : Record) (e : r ≡ record_at b i) where
  pub copy-idle : coded 1 fates (tx_in r) ≡ false → out ≡ copy_step b fates ranks i out
  unfolding copy_step
  copy-idle h = rw (← e, h)

  -- the part written, with its amounts read back from their bits
  pub copy-moved : (next a : ℕ) (part : List ℕ) → coded 1 fates (tx_in r) ≡ true → next ≡ get_or ranks r.next.0 0 → a ≡ get_or ranks i 0 → SFits w32 r.before → SFits w32 r.after
      → part ≡ bytes_of (record { kind = r.kind; reserved = r.reserved; transaction = r.transaction; next = record { 0 = next }; item = r.item; before = to_z w32 (of_z w32 r.before); after = to_z w32 (of_z w32 r.after) })
      → put_mid (20 * a) (20 * a + 20 - 20 * a) out part ≡ copy_step b fates ranks i out
  unfolding copy_step moved
  copy-moved next a part h n c f g o =
      let z : 20 * a + 20 - 20 * a ≡ 20 = omega arith in
      let w : part ≡ bytes_of (linked_to next r) = o ∙ rw (to_z-of_z w32 r.before f, to_z-of_z w32 r.after g) in
      rw (← e, h, z, c, w, n) (part-stored (20 * get_or ranks i 0) 20 (bytes_of (linked_to (get_or ranks r.next.0 0) r)) out (length-bytes_of (linked_to (get_or ranks r.next.0 0) r)))

-- ---- the records so far

module _ (b fates ranks : List ℕ) where
  moved-suc : (i : ℕ) → moved_all (coded 1 fates) ranks (records b (suc i)) ≡ cond (coded 1 fates (tx_in (record_at b (suc i)))) (moved ranks (record_at b (suc i)) ∷ moved_all (coded 1 fates) ranks (records b i)) (moved_all (coded 1 fates) ranks (records b i))
  unfolding records moved_all
  moved-suc i = refl

  pub length_moved : (i : ℕ) → length (moved_all (coded 1 fates) ranks (records b i)) ≡ rank (coded 1 fates) b i
  unfolding records moved_all rank
  length_moved zero = refl
  length_moved (suc i) = by_cases (coded 1 fates (tx_in (record_at b (suc i)))) (λ e. rw e (ap suc (length_moved i))) (λ e. rw e (length_moved i))

  length-copy_bytes : (i : ℕ) → length (copy_bytes b fates ranks i) ≡ 20 * rank (coded 1 fates) b i
  unfolding copy_bytes
  length-copy_bytes i = length-encoded (moved_all (coded 1 fates) ranks (records b i)) ∙ ap (λ k. 20 * k) (length_moved i)

  bytes-zero : copy_bytes b fates ranks 0 ≡ []
  unfolding copy_bytes records moved_all encoded
  bytes-zero = refl

  bytes-surviving : (i : ℕ) → coded 1 fates (tx_in (record_at b (suc i))) ≡ true → copy_bytes b fates ranks (suc i) ≡ copy_bytes b fates ranks i ++ bytes_of (moved ranks (record_at b (suc i)))
  unfolding copy_bytes encoded
  bytes-surviving i e = ap encoded (moved-suc i) ∙ rw e

  bytes-other : (i : ℕ) → coded 1 fates (tx_in (record_at b (suc i))) ≡ false → copy_bytes b fates ranks (suc i) ≡ copy_bytes b fates ranks i
  unfolding copy_bytes
  bytes-other i e = ap encoded (moved-suc i) ∙ rw e

  copy_start : (out : List ℕ) → out ≡ store 20 (copy_bytes b fates ranks 0) out
  unfolding store
  copy_start out = rw bytes-zero (whole 20 out)
    where
      whole : (k : ℕ) (l : List ℕ) → l ≡ lib.ListN.take k l ++ [] ++ lib.ListN.drop (k + 0) l
      whole k l = let z : k + 0 ≡ k = omega arith in rw (z, append-nil) (sym (lib.ListN.take-append-drop k l))

  module _ (n : ℕ) (r : Ranked b fates n ranks) (i : ℕ) (h : i < n) (old : List ℕ) (f : 20 * (get_or ranks n 0 + 1) ≤ length old) where
    rank-here : get_or ranks (suc i) 0 ≡ rank (coded 1 fates) b (suc i)
    rank-here = r.at (suc i) h

    within : rank (coded 1 fates) b i ≤ get_or ranks n 0
    within = rw (r.at n (omega arith)) (rank-le (coded 1 fates) b i n (omega arith))

    fits : 20 + length (copy_bytes b fates ranks i) ≤ length old
    fits = omega (arith, length-copy_bytes i, within)

    copy_more : (out : List ℕ) → out ≡ store 20 (copy_bytes b fates ranks i) old → copy_step b fates ranks (suc i) out ≡ store 20 (copy_bytes b fates ranks (suc i)) old
    unfolding copy_step
    copy_more out e =
        by_cases (coded 1 fates (tx_in (record_at b (suc i))))
        (λ c. let p : 20 * get_or ranks (suc i) 0 ≡ 20 + length (copy_bytes b fates ranks i) = omega (arith, rank-here, rank-surviving (coded 1 fates) b i c, length-copy_bytes i) in
        rw (c, bytes-surviving i c, p, e) (store-store 20 (copy_bytes b fates ranks i) old fits (bytes_of (moved ranks (record_at b (suc i))))))
        (λ c. rw (c, bytes-other i c) e)

  -- there is room for the next
  pub copy-room : (n i : ℕ) (out old : List ℕ) → Ranked b fates n ranks → i < n → 20 * (get_or ranks n 0 + 1) ≤ length old → length out ≡ length old → 20 * (get_or ranks (i + 1) 0 + 1) ≤ length out
  copy-room n i out old r h f e =
      let z : get_or ranks (i + 1) 0 ≡ rank (coded 1 fates) b (suc i) = ap (λ k. get_or ranks k 0) (add-one i) ∙ r.at (suc i) h in
      omega (arith, r.at n (omega arith), rank-le (coded 1 fates) b (suc i) n h)

  -- the records that it writes stand behind the head
  passed : (n : ℕ) → Ranked b fates n ranks → (old : List ℕ) → 20 * (get_or ranks n 0 + 1) ≤ length old → (i : ℕ) → i ≤ n → stepped (copy_step b fates ranks) i old ≡ store 20 (copy_bytes b fates ranks i) old
  passed n r old f zero h = sym (stepped_start (copy_step b fates ranks) old) ∙ copy_start old
  passed n r old f (suc i) h = stepped-suc (copy_step b fates ranks) i old ∙ copy_more n r i (omega arith) old f _ (passed n r old f i (omega arith))

-- ---- the head, and the records behind it

pub copied_all : (b fates ranks out part new : List ℕ) (n m k : ℕ) → Ranked b fates n ranks → 20 * (get_or ranks n 0 + 1) ≤ length out → k ≡ get_or ranks n 0 → part ≡ bytes_of (head_with k m) → new ≡ stepped (copy_step b fates ranks) n (put_mid 0 20 out part)
    → new ≡ store 0 (copy_with b fates ranks n m) out
unfolding copy_with
copied_all b fates ranks out part new n m k r h c p q =
    let head : List ℕ = bytes_of (head_with (get_or ranks n 0) m) in
    let l : length head ≡ 20 = length-bytes_of (head_with (get_or ranks n 0) m) in
    let z : 20 ≡ 0 + length head = omega arith in
    let f : length (store 0 head out) ≡ length out = length-store 0 head out (omega arith) in
    q ∙ rw (p, c, part-stored 0 20 head out l, passed b fates ranks n r (store 0 head out) (omega arith) n (omega arith))
    (ap (λ a. store a (copy_bytes b fates ranks n) (store 0 head out)) z ∙ store-store 0 head out (omega arith) (copy_bytes b fates ranks n))
