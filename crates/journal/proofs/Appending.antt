-- A started journal, and a journal with one record more: bytes, records and history, and that it passes where the record may follow.
-- Assumes nothing.
use mathlib.Core.Path.{◌≡◌, refl, sym, ◌∙◌, ap, subst, subst⁻¹}
use mathlib.Core.Bool.{true, false, cond}
use mathlib.Core.List.{List, [], ◌∷◌, map}
use Prim.Native.Nat.{ℕ, zero, suc, ◌+◌, ◌*◌, ◌<◌, ◌≤◌}
use native.Mathlib.Omega.{arith}
use lib.Dec.{eqb, ltb, leb}
use lib.IntN.{pos}
use lib.ListN.{length, drop, get_or-eq_default}
use borrow.Author.Tests.{eqb-true, eqb-false, ne_eqb, ltb-true, ltb-false, leb-true, le-ltb}
use mir.Syntax.{w32}
use mir.Val.{SFits}
use Rattle.std.proofs.lemmas.Bool.{not-false}
use Rattle.lists.specs.Search.{latest}
use Rattle.lists.specs.Tables.{store, tabulate}
use Rattle.lists.proofs.BoolLaws.{by_cases, clash, and_right}
use Rattle.lists.proofs.TablesLaws.{length-tabulate, get_or-tabulate, length-store, drop-store, tabulate-ext}
use Rattle.format.specs.declared.Record.{Record}
use Rattle.format.specs.Bytes.{Bytes, bytes}
use Rattle.format.specs.Layout.{bytes_of, record_at, Fitting}
use Rattle.format.proofs.BytesLaws.{Bytes-store, length-bytes, bytes-bytes}
use Rattle.format.proofs.LayoutLaws.{record_at-fitting, length-bytes_of, bytes_of-bytes}
use Rattle.model.specs.History.{Op, History, Amount, Tag, tag_of, before_of, after_of, tag_in, of_tx, applied, next_in, write_to, initial, tx_of}
use Rattle.model.proofs.Extension.{Settled, latest-tag, next_last, next-extended, settled-extended, matched-extended, Befores, applied-all, initial-extended}
use Rattle.journal.specs.Inputs.{Inputs, onto, handed_on}
use Rattle.journal.specs.Journal.{count, items, tx_in, op_of, records, history, whole, amount_at}
use Rattle.journal.specs.Copy.{head_with, linked_to}
use Rattle.journal.specs.Refusals.{RecordCounts, counts_by_kind, within, short, truncated, bad_items, malformed, mismatched, no_room, wrong_counts}
use Rattle.journal.specs.Orders.{counts_order, new_order, start_order, append_order}
use Rattle.journal.specs.Calls.{link, extended, accepted, applied_table, raised, start, opening_at, opening_table}
use Rattle.journal.proofs.Clear.{Clear, clear-turns, turns-clear, clear-try, try-clear, clear-decide}
use Rattle.journal.proofs.Encoded.{head_with-fitting}
use Rattle.journal.proofs.Checked.{counts-all, new-all, Follows, RecordRight, Sound, Checks, follows-clear, clear-follows, checks-clear, clear-checks}
use Rattle.journal.proofs.Records.{by_kind, tx_of-op_of, tag_of-op_of, op_of-linked_to, length-history, history-zero, history-suc}
use Rattle.journal.proofs.Stored.{stored-fits, record_at-stored, record_at-stored-other, linked-fits, record_at-linked, record_at-linked-other, length-link, link-bytes, link-behind, record_at-link, record_at-link-head}
use Rattle.journal.proofs.Unrefused.{room, HeadFields, head-head_fields, head_fields-head, table-length, length-table, formed-cases, malformed-linked_to, op_of-read, op_of-write, op_of-commit, op_of-abort, chained-next, next-chained, settled-amount, amount-settled, history-numbered, record-upto}

-- ---- a started journal

pub start-clear : (b : List ℕ) (m : ℕ) → short b ≡ false → bad_items m ≡ false → Clear (start_order b m)
unfolding start_order
start-clear b m e f = clear-turns _ (clear-try 1 0 _ e, (clear-try 2 0 _ f, tt))

pub clear-start : (b : List ℕ) (m : ℕ) → Clear (start_order b m) → (short b ≡ false) × (bad_items m ≡ false)
unfolding start_order
clear-start b m k = let (c1, (c2, end)) = turns-clear _ k in (try-clear 1 _ _ c1, try-clear 2 _ _ c2)

module _ (b : List ℕ) (m : ℕ) (c : Clear (start_order b m)) where
  started-long : 20 ≤ length b
  unfolding short
  started-long = ltb-false (length b) 20 (clear-start b m c).0

  started-items : within 1 1024 m ≡ true
  unfolding bad_items
  started-items = not-false _ (clear-start b m c).1

  started-is : (start b m).journal ≡ store (20 * 0) (bytes_of (head_with 0 m)) b
  unfolding start
  started-is = rw (clear-decide c)

  pub start-accepted : (start b m).answer ≡ accepted tt
  unfolding start
  start-accepted = rw (clear-decide c)

  pub length-started : length (start b m).journal ≡ length b
  length-started = ap length started-is ∙ length-store (20 * 0) (bytes_of (head_with 0 m)) b (stored-fits 0 (head_with 0 m) b started-long)

  pub started-bytes : Bytes b → Bytes (start b m).journal
  started-bytes k = rw started-is (Bytes-store (20 * 0) (bytes_of-bytes (head_with 0 m)) k)

  started-head : record_at (start b m).journal 0 ≡ head_with 0 m
  started-head =
      let h = leb-true m 1024 (and_right (leb 1 m) _ started-items) in
      ap (λ z. record_at z 0) started-is ∙ record_at-stored 0 (head_with 0 m) b started-long (head_with-fitting 0 m (omega arith) (omega arith))

  pub count-started : count (start b m).journal ≡ 0
  unfolding count
  count-started = ap (λ r. r.next.0) started-head

  pub items-started : items (start b m).journal ≡ m
  unfolding items
  items-started = ap (λ r. r.item.0) started-head

  pub whole-started : whole (start b m).journal ≡ []
  unfolding whole
  whole-started = ap (history (start b m).journal) count-started ∙ history-zero (start b m).journal

  -- with whatever else is lent, if the table has an amount for each item
  pub checks-started : (d : Inputs) → length d.table ≡ m → Checks (onto (start b m).journal d)
  unfolding short truncated
  checks-started d e =
      let j : List ℕ = (start b m).journal in
      record {
        sound =
            record {
              long = le-ltb (length j) 20 (omega (arith, length-started, started-long));
              head = head_fields-head j (rw started-head (record { kind = refl; reserved = refl; tx = refl; count = omega arith; items = started-items; before = refl; after = refl }));
              full = le-ltb (length j) (20 * (count j + 1)) (omega (arith, length-started, started-long, count-started));
              right = λ i h. absurd (omega (arith, count-started));
            };
        table = length-table j d.table (e ∙ sym items-started);
        settled = λ x h. amount-settled j d.table x (rw whole-started (λ w. clash w refl));
      }

-- ---- the journal with one record more

-- the sale's last record until now; 0 if it has none
unfoldable last_of : List ℕ → ℕ → ℕ
last_of b s = tag_in (latest (of_tx s) (whole b))

last_of-bound : (b : List ℕ) (s : ℕ) → last_of b s ≤ count b
unfolding last_of whole
last_of-bound b s = omega (arith, latest-tag (of_tx s) (history b (count b)) (history-numbered b (count b)), length-history b (count b))

module _ (b : List ℕ) (r : Record) (long : 20 * (count b + 1) + 20 ≤ length b) where
  -- the record stored, then the next of the sale's last record, then the record count
  added : List ℕ
  added = store (20 * suc (count b)) (bytes_of r) b

  chained : List ℕ
  chained = link (suc (count b)) (last_of b (tx_in r)) added

  extended-is : extended b r ≡ store (20 * 0 + 4) (bytes 4 (suc (count b))) chained
  unfolding extended added chained last_of
  extended-is = refl

  length-added : length added ≡ length b
  unfolding added
  length-added = length-store (20 * suc (count b)) (bytes_of r) b (stored-fits (suc (count b)) r b (omega arith))

  added-long : 20 * last_of b (tx_in r) + 20 ≤ length added
  added-long = omega (arith, last_of-bound b (tx_in r), length-added)

  length-chained : length chained ≡ length b
  unfolding chained
  length-chained = length-link _ _ added added-long ∙ length-added

  chained-long : 20 * 0 + 20 ≤ length chained
  chained-long = omega (arith, length-chained)

  pub length-extended : length (extended b r) ≡ length b
  length-extended =
      ap length extended-is ∙ length-store (20 * 0 + 4) (bytes 4 (suc (count b))) chained (linked-fits 0 (suc (count b)) chained chained-long) ∙ length-chained

  pub extended-bytes : Bytes b → Bytes (extended b r)
  unfolding added chained
  extended-bytes k =
      rw extended-is
      (Bytes-store (20 * 0 + 4) (bytes-bytes 4 (suc (count b)))
      (link-bytes _ _ added added-long (Bytes-store (20 * suc (count b)) (bytes_of-bytes r) k)))

  -- bytes behind the new record stay
  pub extended-behind : drop (20 * (count b + 2)) (extended b r) ≡ drop (20 * (count b + 2)) b
  unfolding added chained
  extended-behind =
      ap (drop (20 * (count b + 2))) extended-is
      ∙ drop-store (20 * 0 + 4) (bytes 4 (suc (count b))) chained (linked-fits 0 (suc (count b)) chained chained-long) (20 * (count b + 2)) (omega (arith, length-bytes 4 (suc (count b))))
      ∙ link-behind (suc (count b)) (last_of b (tx_in r)) added added-long (20 * (count b + 2)) (omega (arith, last_of-bound b (tx_in r)))
      ∙ drop-store (20 * suc (count b)) (bytes_of r) b (stored-fits (suc (count b)) r b (omega arith)) (20 * (count b + 2)) (omega (arith, length-bytes_of r))

  module _ (small : count b < 3200) (fit : Fitting r) where
    head-extended : record_at (extended b r) 0 ≡ linked_to (suc (count b)) (record_at b 0)
    unfolding added chained
    head-extended =
        ap (λ c. record_at c 0) extended-is ∙ record_at-linked 0 (suc (count b)) chained chained-long (omega arith)
        ∙ ap (linked_to (suc (count b)))
        (record_at-link-head _ _ added added-long ∙ record_at-stored-other (suc (count b)) r b (omega arith) 0 (ne_eqb 0 (suc (count b)) (λ e. omega arith)))

    record_at-counted : (i : ℕ) → record_at (extended b r) (suc i) ≡ record_at chained (suc i)
    record_at-counted i =
        ap (λ c. record_at c (suc i)) extended-is ∙ record_at-linked-other 0 (suc (count b)) chained chained-long (suc i) (ne_eqb (suc i) 0 (λ e. omega arith))

    record_at-new : record_at (extended b r) (suc (count b)) ≡ r
    unfolding added chained
    record_at-new =
        let d : eqb (suc (count b)) (last_of b (tx_in r)) ≡ false =
        ne_eqb (suc (count b)) (last_of b (tx_in r)) (λ e. omega (arith, last_of-bound b (tx_in r))) in
        record_at-counted (count b) ∙ record_at-link _ _ added added-long (omega arith) (count b)
        ∙ rw d (record_at-stored (suc (count b)) r b (omega arith) fit)

    record_at-old : (i : ℕ) → i < count b
        → record_at (extended b r) (suc i) ≡ cond (eqb (suc i) (last_of b (tx_in r))) (linked_to (suc (count b)) (record_at b (suc i))) (record_at b (suc i))
    unfolding added chained
    record_at-old i h =
        let e : record_at added (suc i) ≡ record_at b (suc i) =
        record_at-stored-other (suc (count b)) r b (omega arith) (suc i) (ne_eqb (suc i) (suc (count b)) (λ e. omega arith)) in
        record_at-counted i ∙ record_at-link _ _ added added-long (omega arith) i ∙ rw e

    count-extended : count (extended b r) ≡ suc (count b)
    unfolding count
    count-extended = ap (λ q. q.next.0) head-extended

    pub items-extended : items (extended b r) ≡ items b
    unfolding items
    items-extended = ap (λ q. q.item.0) head-extended

    -- the records of before are the same but for the next of one
    same-record : {A : Type 0} (f : Record → A) → ((q : Record) → f (linked_to (suc (count b)) q) ≡ f q) → (i : ℕ) → i < count b
        → f (record_at (extended b r) (suc i)) ≡ f (record_at b (suc i))
    same-record f h i l =
        ap f (record_at-old i l)
        ∙ by_cases (eqb (suc i) (last_of b (tx_in r))) (λ e. rw e (h (record_at b (suc i)))) (λ e. rw e)

    history-extended : (n : ℕ) → n ≤ count b → history (extended b r) n ≡ history b n
    unfolding history
    history-extended zero h = refl
    history-extended (suc n) h =
        rw (same-record (op_of (suc n)) (op_of-linked_to (suc n) (suc (count b))) n h, history-extended n (omega arith))

    pub whole-extended : whole (extended b r) ≡ op_of (suc (count b)) r ∷ whole b
    unfolding whole
    whole-extended =
        ap (history (extended b r)) count-extended ∙ history-suc (extended b r) (count b)
        ∙ rw (record_at-new, history-extended (count b) (omega arith))

    records-same : (n : ℕ) → n ≤ count b → map (linked_to 0) (records (extended b r) n) ≡ map (linked_to 0) (records b n)
    unfolding records
    records-same zero h = refl
    records-same (suc n) h = rw (same-record (linked_to 0) (λ q. refl) n h, records-same n (omega arith))

    -- the records, their links apart
    pub records-extended : map (linked_to 0) (records (extended b r) (count (extended b r))) ≡ linked_to 0 r ∷ map (linked_to 0) (records b (count b))
    unfolding records
    records-extended = rw (count-extended, record_at-new, records-same (count b) (omega arith))

-- ---- post's order

-- no refusal of 4, 6, 7, 8 and 14 for a new record
pub record Enters (b : List ℕ) (r : Record) : Type 0 where
  pub formed : malformed (items b) r ≡ false
  pub follows : Follows (whole b) (op_of (suc (count b)) r)
  pub room : no_room b ≡ false

enters-clear : (b : List ℕ) (r : Record) → Enters b r → Clear (new_order b r)
enters-clear b r e = new-all _ b r e.formed (follows-clear _ _ _ e.follows) e.room

clear-enters : (b : List ℕ) (r : Record) → Clear (new_order b r) → Enters b r
unfolding new_order
clear-enters b r k =
    let (c4, (access, (c14, end))) = turns-clear _ k in
    record { formed = try-clear 4 _ _ c4; follows = clear-follows _ _ _ access; room = try-clear 14 _ _ c14 }

pub append-clear : (d : Inputs) (c : RecordCounts) (r : Record) → Checks d → wrong_counts d.journal c ≡ false → Enters d.journal r → Clear (append_order d c r)
unfolding append_order
append-clear d c r k w e = clear-turns _ (checks-clear d k, (counts-all _ d.journal c w, (enters-clear d.journal r e, tt)))

pub clear-appended : (d : Inputs) (c : RecordCounts) (r : Record) → Clear (append_order d c r) → Checks d × (wrong_counts d.journal c ≡ false) × Enters d.journal r
unfolding append_order counts_order
clear-appended d c r k =
    let (check, (c15, (new, end))) = turns-clear _ k in
    (clear-checks d check, try-clear 15 _ _ c15, clear-enters d.journal r new)

-- ---- the tally and the tables

-- one of the four counts rises, by the kind; a record of another kind counts nowhere
pub counts_by_kind-extended : (i : Tag) (r : Record) (p : History) → counts_by_kind (op_of i r ∷ p) ≡ raised r.kind (counts_by_kind p)
unfolding counts_by_kind raised op_of
counts_by_kind-extended i r p =
    by_cases (eqb r.kind 1) (λ e. rw (eqb-true r.kind 1 e))
    (λ n1.
    by_cases (eqb r.kind 2) (λ e. rw (eqb-true r.kind 2 e))
    (λ n2.
    by_cases (eqb r.kind 3) (λ e. rw (eqb-true r.kind 3 e))
    (λ n3.
    by_cases (eqb r.kind 4) (λ e. rw (eqb-true r.kind 4 e)) (λ n4. rw (n1, n2, n3, n4)))))

pub length-applied_table : (p : History) (o : Op) (t : List Amount) → length (applied_table p o t) ≡ length t
unfolding applied_table
length-applied_table p o t = length-tabulate _ 0 (length t)

pub amount-applied_table : (p : History) (o : Op) (t : List Amount) (x : ℕ) → x < length t → amount_at (applied_table p o t) x ≡ applied o p x (amount_at t x)
unfolding applied_table
amount-applied_table p o t x h =
    get_or-tabulate (λ x. applied o p x (amount_at t x)) 0 (length t) x (pos 0) h ∙ ap (λ x. applied o p x (amount_at t x)) (omega arith)

pub length-opening_table : (d : Inputs) → length (opening_table d) ≡ length d.table
unfolding opening_table
length-opening_table d = length-tabulate (opening_at d) 0 (length d.table)

pub amount-opening_table : (d : Inputs) (x : ℕ) → x < length d.table → amount_at (opening_table d) x ≡ opening_at d x
unfolding opening_table
amount-opening_table d x h = get_or-tabulate (opening_at d) 0 (length d.table) x (pos 0) h ∙ ap (opening_at d) (omega arith)

-- ---- the journal with one record more passes

module _ (d : Inputs) (r : Record) (k : Checks d) (e : Enters d.journal r) (fit : Fitting r) (last : r.next.0 ≡ 0)
    (before : r.kind ≡ 2 → r.before ≡ amount_at d.table r.item.0) where
  abbrev b : List ℕ
  b = d.journal

  abbrev t : List Amount
  t = d.table

  small : count b < 3200
  small = (room b e.room).0

  long : 20 * (count b + 1) + 20 ≤ length b
  long = (room b e.room).1

  -- the chain of the history with one operation more
  next-in : (i : ℕ) → i < count b → next_in (op_of (suc (count b)) r ∷ whole b) (suc i) (tx_in (record_at b (suc i)))
      ≡ cond (eqb (suc i) (last_of b (tx_in r))) (suc (count b)) (next_in (whole b) (suc i) (tx_in (record_at b (suc i))))
  unfolding last_of whole
  next-in i h =
      let o : Op = op_of (suc (count b)) r in
      let u = record-upto b i (count b) h in
      let l : length (history b (count b)) < tag_of o = omega (arith, length-history b (count b), tag_of-op_of (suc (count b)) r) in
      let q : Op = op_of (suc i) (record_at b (suc i)) in
      let j : History = whole b in
      let n : ℕ = last_of b (tx_in r) in
      let newest = next-extended o (history-numbered b (count b)) u l in
      let of_o = subst (λ v. next_in (o ∷ j) (tag_of q) (tx_of q) ≡ cond (eqb (tag_of q) (tag_in (latest (of_tx v) j))) (tag_of o) (next_in j (tag_of q) (tx_of q)))
      (tx_of-op_of (suc (count b)) r) newest in
      let at_o = subst (λ m. next_in (o ∷ j) (tag_of q) (tx_of q) ≡ cond (eqb (tag_of q) n) m (next_in j (tag_of q) (tx_of q)))
      (tag_of-op_of (suc (count b)) r) of_o in
      let at_q = subst (λ k. next_in (o ∷ j) k (tx_of q) ≡ cond (eqb k n) (suc (count b)) (next_in j k (tx_of q)))
      (tag_of-op_of (suc i) (record_at b (suc i))) at_o in
      subst (λ s. next_in (o ∷ j) (suc i) s ≡ cond (eqb (suc i) n) (suc (count b)) (next_in j (suc i) s))
      (tx_of-op_of (suc i) (record_at b (suc i))) at_q

  next-old : (i : ℕ) → i < count b → (record_at (extended b r) (suc i)).next.0 ≡ next_in (whole (extended b r)) (suc i) (tx_in (record_at (extended b r) (suc i)))
  next-old i h =
      let q : Record = record_at b (suc i) in
      let c : q.next.0 ≡ next_in (whole b) (suc i) (tx_in q) = chained-next b (suc i) (k.sound.right i h).chained in
      let a : (record_at (extended b r) (suc i)).next.0 ≡ cond (eqb (suc i) (last_of b (tx_in r))) (suc (count b)) q.next.0 =
      rw (record_at-old b r long small fit i h) (by_cases (eqb (suc i) (last_of b (tx_in r))) (λ z. rw z) (λ z. rw z)) in
      let n : ℕ = cond (eqb (suc i) (last_of b (tx_in r))) (suc (count b)) (next_in (whole b) (suc i) (tx_in q)) in
      a
      ∙ rw c
      (subst⁻¹ (λ p. n ≡ next_in p (suc i) (tx_in (record_at (extended b r) (suc i)))) (whole-extended b r long small fit)
      (subst⁻¹ (λ s. n ≡ next_in (op_of (suc (count b)) r ∷ whole b) (suc i) s) (same-record b r long small fit tx_in (λ z. refl) i h) (sym (next-in i h))))

  next-new : (record_at (extended b r) (suc (count b))).next.0 ≡ next_in (whole (extended b r)) (suc (count b)) (tx_in (record_at (extended b r) (suc (count b))))
  unfolding whole
  next-new = rw (record_at-new b r long small fit, whole-extended b r long small fit)
      (last ∙ sym (next_last (suc (count b)) (tx_in r) (op_of (suc (count b)) r ∷ history b (count b))
      (history-numbered b (count b), tag_of-op_of (suc (count b)) r ∙ ap suc (sym (length-history b (count b)))) (omega (arith, length-history b (count b)))))

  right-old : (i : ℕ) → i < count b → RecordRight (extended b r) (suc i) (history (extended b r) i)
  right-old i h =
      let w = k.sound.right i h in
      let o : op_of (suc i) (record_at (extended b r) (suc i)) ≡ op_of (suc i) (record_at b (suc i)) =
      same-record b r long small fit (op_of (suc i)) (op_of-linked_to (suc i) (suc (count b))) i h in
      let p : history (extended b r) i ≡ history b i = history-extended b r long small fit i (omega arith) in
      record {
        formed = rw (items-extended b r long small fit) (same-record b r long small fit (malformed (items b)) (malformed-linked_to (items b) (suc (count b))) i h ∙ w.formed);
        chained = next-chained (extended b r) (suc i) (next-old i h);
        follows = rw (o, p) w.follows;
        matched = rw (o, p) w.matched;
      }

  matched-new : mismatched (whole b) (op_of (suc (count b)) r) ≡ false
  unfolding mismatched
  matched-new =
      formed-cases (items b) r e.formed
      (λ a l z. rw (op_of-read (suc (count b)) r a))
      (λ a l. rw (op_of-write (suc (count b)) r a, before a) (matched-extended (suc (count b)) (tx_in r) r.item.0 (amount_at t r.item.0) r.after (whole b) (settled-amount b t r.item.0 (k.settled r.item.0 l))))
      (λ a z. rw (op_of-commit (suc (count b)) r a))
      (λ a z. rw (op_of-abort (suc (count b)) r a))

  right_new : RecordRight (extended b r) (suc (count b)) (history (extended b r) (count b))
  unfolding whole
  right_new =
      let n = record_at-new b r long small fit in
      let p : history (extended b r) (count b) ≡ history b (count b) = history-extended b r long small fit (count b) (omega arith) in
      record {
        formed = rw (n, items-extended b r long small fit) e.formed;
        chained = next-chained (extended b r) (suc (count b)) next-new;
        follows = rw (n, p) e.follows;
        matched = rw (n, p) matched-new;
      }

  head-right : HeadFields (record_at (extended b r) 0)
  head-right =
      let h = head-head_fields b k.sound.head in
      rw (head-extended b r long small fit)
      (record { kind = h.kind; reserved = h.reserved; tx = h.tx; count = small; items = h.items; before = h.before; after = h.after })

  sound-extended : Sound (extended b r)
  unfolding short truncated
  sound-extended =
      let l = length-extended b r long in
      let c = count-extended b r long small fit in
      record {
        long = le-ltb (length (extended b r)) 20 (omega (arith, l, long));
        head = head_fields-head (extended b r) head-right;
        full = le-ltb (length (extended b r)) (20 * (count (extended b r) + 1)) (omega (arith, l, long, c));
        right = λ i h.
            by_cases (eqb i (count b))
            (λ q. rw (eqb-true i (count b) q) right_new)
            (λ q. let d = eqb-false i (count b) q in right-old i (omega arith));
      }

  pub checks-extended : Checks (handed_on (extended b r) (applied_table (whole b) (op_of (suc (count b)) r) t) d)
  checks-extended =
      let p : History = whole b in
      let o : Op = op_of (suc (count b)) r in
      let m : length t ≡ items b = table-length b t k.table in
      record {
        sound = sound-extended;
        table = length-table _ _ (length-applied_table p o t ∙ m ∙ sym (items-extended b r long small fit));
        settled = λ x h.
            let l : x < items b = rw (items-extended b r long small fit) at h in
            amount-settled _ _ x
            (subst⁻¹ (λ q. Settled (amount_at (applied_table p o t) x) q x) (whole-extended b r long small fit)
            (subst⁻¹ (λ v. Settled v (o ∷ p) x) (amount-applied_table p o t x (omega arith))
            (settled-extended (amount_at t x) o p x (settled-amount b t x (k.settled x l)))));
      }

  before-new : (x : ℕ) → write_to x (op_of (suc (count b)) r) ≡ true → before_of (op_of (suc (count b)) r) (amount_at t x) ≡ amount_at t x
  before-new x =
      formed-cases (items b) r e.formed
      (λ a l z. rw (op_of-read (suc (count b)) r a) (λ h. clash h refl))
      (λ a l. rw (op_of-write (suc (count b)) r a) (λ h. before a ∙ ap (amount_at t) (sym (eqb-true x r.item.0 h))))
      (λ a z. rw (op_of-commit (suc (count b)) r a) (λ h. clash h refl))
      (λ a z. rw (op_of-abort (suc (count b)) r a) (λ h. clash h refl))

  -- the opening table stays
  pub opening-extended : opening_table (handed_on (extended b r) (applied_table (whole b) (op_of (suc (count b)) r) t) d) ≡ opening_table d
  unfolding opening_table opening_at
  opening-extended =
      let p : History = whole b in
      let o : Op = op_of (suc (count b)) r in
      ap (λ n. tabulate (λ x. initial (amount_at (applied_table p o t) x) (whole (extended b r)) x) 0 n) (length-applied_table p o t)
      ∙ tabulate-ext _ _ 0 0 (length t)
      (λ x h. let q : 0 + x ≡ x = omega arith in
      rw (q, whole-extended b r long small fit, amount-applied_table p o t x h) (initial-extended (amount_at t x) o p x (before-new x)))

-- ---- amounts stay signed 32-bit numbers

zero-fits : SFits w32 (pos 0)
zero-fits = record { sfits = omega arith }

history-befores : {b : List ℕ} → Bytes b → (n : ℕ) → Befores (SFits w32) (history b n)
unfolding history
history-befores k zero = tt
history-befores {b} k (suc n) = (
  history-befores k n,
  λ d h. by_kind (λ o. SFits w32 (before_of o d)) (suc n) (record_at b (suc n)) h (record_at-fitting k (suc n)).before h h h,
)

pub fits-applied_table : (b : List ℕ) (t : List Amount) (i : Tag) (r : Record) → Bytes b → Fitting r → ((x : ℕ) → SFits w32 (amount_at t x))
    → (x : ℕ) → SFits w32 (amount_at (applied_table (whole b) (op_of i r) t) x)
unfolding whole
fits-applied_table b t i r k f h x =
    by_cases (ltb x (length t))
    (λ l. rw (amount-applied_table (history b (count b)) (op_of i r) t x (ltb-true x (length t) l))
    (applied-all (SFits w32) (op_of i r) (history b (count b)) x (amount_at t x) (history-befores k (count b))
    (λ d g. by_kind (λ o. SFits w32 (after_of o d)) i r g f.after g g g) (h x)))
    (λ l. let g = ltb-false x (length t) l in
    rw (get_or-eq_default (applied_table (history b (count b)) (op_of i r) t) (pos 0) {n = x} (omega (arith, length-applied_table (history b (count b)) (op_of i r) t))) zero-fits)
