-- What stands behind the records plays no part: the statement Behind of specs/Refusing.antt, proved.
-- Assumes nothing.
use mathlib.Core.Path.{◌≡◌, refl, sym, ◌∙◌, ap}
use mathlib.Core.Bool.{Bool, true, false, cond}
use mathlib.Core.List.{List, [], ◌∷◌, ◌++◌}
use mathlib.Core.Option.{Option, some}
use Prim.Native.Nat.{ℕ, zero, suc, ◌+◌, ◌*◌, ◌<◌, ◌≤◌, pred}
use native.Mathlib.Omega.{arith}
use lib.Dec.{eqb, ltb}
use lib.ListN.{length, take, drop, take-append-drop}
use lib.Seq.{length-take-le}
use borrow.Author.Tests.{le-ltb, ltb-false}
use Rattle.lists.specs.Search.{latest, first}
use Rattle.lists.specs.Tables.{each, store}
use Rattle.lists.proofs.BoolLaws.{by_cases}
use Rattle.lists.proofs.TablesLaws.{each-ext, length-store, take-stored, take-through, drop-store}
use Rattle.format.specs.declared.Record.{Record}
use Rattle.format.specs.Layout.{record_at, bytes_of}
use Rattle.format.specs.Bytes.{bytes}
use Rattle.format.proofs.BytesLaws.{length-bytes}
use Rattle.format.proofs.LayoutLaws.{length-bytes_of, record_at-front}
use Rattle.model.specs.History.{Op, Amount, of_tx, tag_in, later_of}
use Rattle.journal.specs.Inputs.{Inputs, onto}
use Rattle.journal.specs.Journal.{count, items, tx_in, records, history, whole}
use Rattle.journal.specs.Refusals.{RecordCounts, short, truncated, bad_head, wrong_table, wrong_next, unsettled, still_active, unknown, absent, no_room, wrong_counts}
use Rattle.journal.specs.Orders.{Refusal, try_each, decide, open_order, record_order, records_order, sound_order, table_order, settled_order, active_order, known_order, present_order, capacity_order, counts_order, new_order, check_order, chain_order, append_order, undo_order, start_order}
use Rattle.journal.specs.Copy.{CopyRule, unchanged, records_surviving, copy_surviving, copy, head_with}
use Rattle.journal.specs.Results.{table_surviving, totals, result}
use Rattle.journal.specs.Calls.{check, walk, chain_of, chain, link, extended, new_record, append, count_records, undo, opening_at, start}
use Rattle.model.proofs.Extension.{first-tag, latest-tag}
use Rattle.journal.proofs.OrdersLaws.{decide-turns, decide-cases, try_each-ext}
use Rattle.journal.proofs.Clear.{decide-clear}
use Rattle.journal.proofs.Checked.{Sound, decide-sound}
use Rattle.journal.proofs.Unrefused.{room, chained-next, history-numbered}
use Rattle.journal.proofs.Appending.{clear-start, clear-appended, extended-behind}
use Rattle.journal.proofs.Records.{history-ext, length-history}
use Rattle.demands.specs.Days.{accepts}
use Rattle.demands.specs.Refusing.{Agree, Behind}
use Rattle.demands.proofs.DaysLaws.{answered-none}

-- a journal that fails 1, 2 or 4 to 9 is refused before its chain is walked
refused-both : (b : List ℕ) (s : ℕ) (l : List ℕ) (n : ℕ) (r : Refusal) → decide (sound_order b) ≡ some r → decide (chain_order b s l n) ≡ some r
unfolding chain_order sound_order
refused-both b s l n r e = decide-turns (open_order b ∷ records_order b ∷ []) (present_order b s ∷ capacity_order l n ∷ []) ∙ rw e

module _ (b c : List ℕ) (a : Agree b c) where
  -- a record found in the whole journal has one of its numbers
  latest-within : (f : Op → Bool) → tag_in (latest f (whole b)) ≤ count b
  unfolding whole
  latest-within f = omega (arith, latest-tag f (history b (count b)) (history-numbered b (count b)), length-history b (count b))

  within-whole : (f : Op → Bool) → tag_in (first f (whole b)) ≤ count b
  unfolding whole
  within-whole f = omega (arith, first-tag f (history b (count b)) (history-numbered b (count b)), length-history b (count b))

  -- ---- the same records

  front : (d : List ℕ) → 20 * (count b + 1) ≤ length d → (i : ℕ) → i ≤ count b → record_at d i ≡ record_at (take (20 * (count b + 1)) d) i
  front d h i l =
      ap (λ e. record_at e i) (sym (take-append-drop (20 * (count b + 1)) d))
      ∙ record_at-front i (take (20 * (count b + 1)) d) (drop (20 * (count b + 1)) d) (omega (arith, length-take-le (20 * (count b + 1)) d h))

  record-agree : (i : ℕ) → i ≤ count b → record_at b i ≡ record_at c i
  record-agree i h = front b a.first_long i h ∙ ap (λ d. record_at d i) a.same ∙ sym (front c a.second_long i h)

  count-agree : count b ≡ count c
  unfolding count
  count-agree = ap (λ r. r.next.0) (record-agree 0 (omega arith))

  items-agree : items b ≡ items c
  unfolding items
  items-agree = ap (λ r. r.item.0) (record-agree 0 (omega arith))

  history-agree : (n : ℕ) → n ≤ count b → history b n ≡ history c n
  history-agree n h = history-ext b c n (λ i l m. record-agree i (omega arith))

  pub whole_agree : whole b ≡ whole c
  unfolding whole
  whole_agree = history-agree (count b) (omega arith) ∙ ap (history c) count-agree

  records-agree-upto : (n : ℕ) → n ≤ count b → records b n ≡ records c n
  unfolding records
  records-agree-upto zero h = refl
  records-agree-upto (suc n) h = rw (record-agree (suc n) h, records-agree-upto n (omega arith))

  pub records-agree : records b (count b) ≡ records c (count c)
  records-agree = records-agree-upto (count b) (omega arith) ∙ ap (records c) count-agree

  -- ---- the same orders

  pub open-agree : open_order b ≡ open_order c
  unfolding open_order short bad_head truncated
  open-agree =
      let l1 : ltb (length b) 20 ≡ false = le-ltb (length b) 20 (omega (arith, a.first_long)) in
      let l2 : ltb (length c) 20 ≡ false = le-ltb (length c) 20 (omega (arith, a.second_long)) in
      let l3 : ltb (length b) (20 * (count b + 1)) ≡ false = le-ltb (length b) (20 * (count b + 1)) a.first_long in
      let l4 : ltb (length c) (20 * (count c + 1)) ≡ false = le-ltb (length c) (20 * (count c + 1)) (omega (arith, a.second_long, count-agree)) in
      rw (l1, l2, l3, l4, record-agree 0 (omega arith))

  wrong_next-agree : (i : ℕ) → i ≤ count b → wrong_next b i ≡ wrong_next c i
  unfolding wrong_next
  wrong_next-agree i h = rw (record-agree i h, whole_agree)

  record-order : (i : ℕ) → i ≤ count b → record_order b i ≡ record_order c i
  unfolding record_order
  record-order i h = rw (wrong_next-agree i h, record-agree i h, items-agree, history-agree (pred i) (omega arith))

  records-order : records_order b ≡ records_order c
  unfolding records_order
  records-order = each-ext (record_order b) (record_order c) 1 1 (count b) (λ k h. record-order (1 + k) (omega arith)) ∙ ap (each (record_order c) 1) count-agree

  sound-order : sound_order b ≡ sound_order c
  unfolding sound_order
  sound-order = rw (open-agree, records-order)

  unsettled-agree : (t : List Amount) (x : ℕ) → unsettled b t x ≡ unsettled c t x
  unfolding unsettled
  unsettled-agree t x = rw whole_agree

  settled-order : (d : Inputs) → settled_order (onto b d) ≡ settled_order (onto c d)
  unfolding settled_order
  settled-order d =
      try_each-ext 10 (unsettled b d.table) (unsettled c d.table) 0 (items b) (λ x l u. unsettled-agree d.table x)
      ∙ ap (try_each 10 (unsettled c d.table) 0) items-agree

  check-order : (d : Inputs) → check_order (onto b d) ≡ check_order (onto c d)
  unfolding check_order table_order wrong_table
  check-order d = rw (open-agree, items-agree, records-order, settled-order d)

  check-agree : (d : Inputs) → check (onto b d) ≡ check (onto c d)
  unfolding check
  check-agree d = rw (check-order d, whole_agree)

  -- ---- take-back

  copy_surviving-agree : (φ : CopyRule) (k : ℕ → Bool) → copy_surviving φ k b ≡ copy_surviving φ k c
  unfolding copy_surviving records_surviving
  copy_surviving-agree φ k = rw (items-agree, whole_agree, records-agree)

  copy-agree : (bad : List ℕ) → copy bad b ≡ copy bad c
  unfolding copy
  copy-agree bad = rw (whole_agree, copy_surviving-agree)

  result-agree : (φ : CopyRule) (u k : ℕ → Bool) (v : Option Refusal) (d : Inputs) (status out : List ℕ) → result φ u k v (onto b d) status out ≡ result φ u k v (onto c d) status out
  unfolding result table_surviving opening_at totals
  result-agree φ u k v d status out = rw (whole_agree, copy_surviving-agree φ k)

  active-agree : active_order (still_active b) ≡ active_order (still_active c)
  unfolding active_order still_active
  active-agree = try_each-ext 11 _ _ 1 1024 (λ s l u. rw whole_agree)

  undo-order : (d : Inputs) (bad status out : List ℕ) → undo_order (onto b d) bad status out (length (copy bad b)) ≡ undo_order (onto c d) bad status out (length (copy bad c))
  unfolding undo_order known_order unknown
  undo-order d bad status out = rw (check-order d, active-agree, whole_agree, copy-agree bad)

  undo-agree : (d : Inputs) (bad status out : List ℕ) → undo (onto b d) bad status out ≡ undo (onto c d) bad status out
  unfolding undo
  undo-agree d bad status out = rw (undo-order d bad status out, whole_agree) (result-agree unchanged _ _ _ d status out)

  -- ---- slip

  -- the chain of a journal that passes 1, 2 and 4 to 9 stays among its records
  walk-agree : Sound b → (n i : ℕ) → i ≤ count b → walk b n i ≡ walk c n i
  unfolding walk
  walk-agree k zero i h = refl
  walk-agree k (suc n) zero h = refl
  walk-agree k (suc n) (suc i) h =
      let next : (record_at b (suc i)).next.0 ≤ count b = next-within k i h in
      rw (← record-agree (suc i) h) (ap (λ l. cond (eqb (suc i) 0) [] (suc i ∷ l)) (walk-agree k n (record_at b (suc i)).next.0 next))
    where
      next-within : Sound b → (i : ℕ) → i < count b → (record_at b (suc i)).next.0 ≤ count b
      next-within k i h = rw (chained-next b (suc i) (k.right i h).chained) (within-whole (later_of (suc i) (tx_in (record_at b (suc i)))))

  chain_of-agree : Sound b → (s : ℕ) → chain_of b s ≡ chain_of c s
  unfolding chain_of
  chain_of-agree k s = walk-agree k (count b) _ (within-whole (of_tx s)) ∙ rw (count-agree, whole_agree)

  chain-order : (s : ℕ) (l : List ℕ) (m n : ℕ) → m ≡ n → chain_order b s l m ≡ chain_order c s l n
  unfolding chain_order present_order absent
  chain-order s l m n e = rw (open-agree, records-order, whole_agree, e)

  chain-agree : (s : ℕ) (l : List ℕ) → chain b s l ≡ chain c s l
  unfolding chain
  chain-agree s l =
      decide-cases (sound_order b)
      (λ z.
      let k = decide-sound b z in
      rw (chain-order s l (length (chain_of b s)) (length (chain_of c s)) (ap length (chain_of-agree k s)), chain_of-agree k s))
      (λ r z.
      rw (refused-both b s l (length (chain_of b s)) r z, refused-both c s l (length (chain_of c s)) r (rw sound-order at z)))

  -- ---- post

  append-order : (d : Inputs) (n : RecordCounts) (r : Record) → no_room b ≡ no_room c → append_order (onto b d) n r ≡ append_order (onto c d) n r
  unfolding append_order counts_order new_order wrong_counts
  append-order d n r e = rw (check-order d, whole_agree, items-agree, count-agree, e)

  module _ (r : Record) (e : no_room b ≡ no_room c) (f : no_room b ≡ false) where
    room-left : 20 * (count b + 1) + 20 ≤ length b
    room-left = (room b f).1

    room-right : 20 * (count b + 1) + 20 ≤ length c
    room-right = omega (arith, (room c (sym e ∙ f)).1, count-agree)

    -- the front of a journal with the new record and its sale's chain
    front-added : (d : List ℕ) → 20 * (count b + 1) + 20 ≤ length d → (i : ℕ) → i ≤ count b
        → take (20 * (count b + 1) + 20) (store 4 (bytes 4 (suc (count b))) (link (suc (count b)) i (store (20 * suc (count b)) (bytes_of r) d)))
        ≡ store 4 (bytes 4 (suc (count b))) (link (suc (count b)) i (take (20 * (count b + 1)) d ++ bytes_of r))
    unfolding link
    front-added d h i l =
        let m : 20 * suc (count b) + length (bytes_of r) ≡ 20 * (count b + 1) + 20 = omega (arith, length-bytes_of r) in
        let at : 20 * suc (count b) ≡ 20 * (count b + 1) = omega arith in
        let s0 : List ℕ = store (20 * suc (count b)) (bytes_of r) d in
        let fit0 : 20 * suc (count b) + length (bytes_of r) ≤ length d = omega arith in
        let len0 : length s0 ≡ length d = length-store (20 * suc (count b)) (bytes_of r) d fit0 in
        let w = length-bytes 4 (suc (count b)) in
        let t0 : take (20 * (count b + 1) + 20) s0 ≡ take (20 * (count b + 1)) d ++ bytes_of r =
        ap (λ k. take k s0) (sym m) ∙ take-through (20 * suc (count b)) (bytes_of r) d fit0 ∙ ap (λ k. take k d ++ bytes_of r) at in
        by_cases (eqb i 0)
        (λ q. rw q
        (take-stored 4 (bytes 4 (suc (count b))) s0 (omega (arith, w, len0)) (20 * (count b + 1) + 20) (omega (arith, w))
        ∙ ap (store 4 (bytes 4 (suc (count b)))) t0))
        (λ q. rw q
        (let fit1 : 20 * i + 4 + length (bytes 4 (suc (count b))) ≤ length s0 = omega (arith, w, len0) in
        let s1 : List ℕ = store (20 * i + 4) (bytes 4 (suc (count b))) s0 in
        take-stored 4 (bytes 4 (suc (count b))) s1 (omega (arith, w, len0, length-store (20 * i + 4) (bytes 4 (suc (count b))) s0 fit1)) (20 * (count b + 1) + 20) (omega (arith, w))
        ∙ ap (store 4 (bytes 4 (suc (count b))))
        (take-stored (20 * i + 4) (bytes 4 (suc (count b))) s0 fit1 (20 * (count b + 1) + 20) (omega (arith, w)) ∙ ap (store (20 * i + 4) (bytes 4 (suc (count b)))) t0)))

    extended-agree : take (20 * (count b + 1) + 20) (extended b r) ≡ take (20 * (count b + 1) + 20) (extended c r)
    unfolding extended
    extended-agree =
        let i : ℕ = tag_in (latest (of_tx r.transaction.0) (whole b)) in
        let l : tag_in (latest (of_tx r.transaction.0) (whole b)) ≤ count b = latest-within (of_tx r.transaction.0) in
        rw (← count-agree, ← whole_agree)
        (front-added b room-left i l ∙ ap (λ d. store 4 (bytes 4 (suc (count b))) (link (suc (count b)) i (d ++ bytes_of r))) a.same ∙ sym (front-added c room-right i l))

  append-agree : (d : Inputs) (n : RecordCounts) (kind s x : ℕ) (v : Amount) → no_room b ≡ no_room c
      → ((append (onto b d) n kind s x v).answer ≡ (append (onto c d) n kind s x v).answer) × ((append (onto b d) n kind s x v).table ≡ (append (onto c d) n kind s x v).table)
      × ((append (onto b d) n kind s x v).counts ≡ (append (onto c d) n kind s x v).counts)
      × (accepts (append (onto b d) n kind s x v).answer ≡ true
      → take (20 * (count b + 1) + 20) (append (onto b d) n kind s x v).journal ≡ take (20 * (count b + 1) + 20) (append (onto c d) n kind s x v).journal)
  unfolding append
  append-agree d n kind s x v e =
      let r : Record = new_record d.table kind s x v in
      let o = append-order d n r e in (
        rw o,
        rw (o, whole_agree, count-agree),
        rw o,
        λ h.
            let z = answered-none (decide (append_order (onto b d) n r)) tt h in
            let f = (clear-appended (onto b d) n r (decide-clear (append_order (onto b d) n r) z)).2.room in
            rw (z, sym (ap decide o) ∙ z) (extended-agree r e f),
      )

-- what an accepted post writes ends with its record
behind-append : (d : Inputs) (n : RecordCounts) (kind s x : ℕ) (v : Amount)
    → drop (20 * (count d.journal + 1) + 20) (append d n kind s x v).journal ≡ drop (20 * (count d.journal + 1) + 20) d.journal
unfolding append
behind-append d n kind s x v =
    let b = d.journal in
    let r : Record = new_record d.table kind s x v in
    let m : 20 * (count b + 2) ≡ 20 * (count b + 1) + 20 = omega arith in
    decide-cases (append_order d n r)
    (λ z.
    let f = (clear-appended d n r (decide-clear (append_order d n r) z)).2.room in
    rw z (ap (λ k. drop k (extended b r)) (sym m) ∙ extended-behind b r (room b f).1 ∙ ap (λ k. drop k b) m))
    (λ q z. rw z)

behind-start : (b : List ℕ) (n : ℕ) → drop 20 (start b n).journal ≡ drop 20 b
unfolding start short
behind-start b n =
    decide-cases (start_order b n)
    (λ z.
    let l : 20 ≤ length b = ltb-false (length b) 20 (clear-start b n (decide-clear (start_order b n) z)).0 in
    rw z (drop-store 0 (bytes_of (head_with 0 n)) b (omega (arith, length-bytes_of (head_with 0 n))) 20 (omega (arith, length-bytes_of (head_with 0 n)))))
    (λ q z. rw z)

count-agrees : (b c : List ℕ) → Agree b c → count_records b ≡ count_records c
unfolding count_records
count-agrees b c a = rw (open-agree b c a, whole_agree b c a)

pub behind : Behind
behind =
    record {
      start = behind-start;
      check = λ d c a. check-agree d.journal c a d;
      chain = λ b c s l a. chain-agree b c a s l;
      count_records = count-agrees;
      undo = λ d c bad status out a. undo-agree d.journal c a d bad status out;
      behind = behind-append;
      append = λ d c n kind s x v a e. append-agree d.journal c a d n kind s x v e;
    }
