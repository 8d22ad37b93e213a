-- Demand 1 on the definitions: refusals mean what they say, and what stands behind the records plays no part.
-- proofs/Refusing.antt and proofs/Behind.antt prove the statements. Assumes nothing.
use Rattle.std.specs.Prelude.{◌≡◌, true, false, ◌↔◌, List, [], ◌∷◌, ◌++◌, ℕ, suc, ◌+◌, ◌<◌, ◌≤◌, length, get_or, take, drop}
use Rattle.std.proofs.Math.Option.{none, some}
use Rattle.lists.specs.Search.{member}
use Rattle.format.specs.declared.Record.{Record}
use Rattle.format.specs.Layout.{record_at}
use Rattle.format.specs.Limits.{record_bytes, journal_bytes, max_transaction, status_bytes, max_journal_bytes}
use Rattle.model.specs.History.{Amount}
use Rattle.journal.specs.Inputs.{Inputs, onto}
use Rattle.journal.specs.Journal.{count, items, op_of, history, whole}
use Rattle.journal.specs.Refusals.{RecordCounts, short, truncated, bad_items, bad_head, wrong_table, malformed, wrong_next, terminated}
use Rattle.journal.specs.Refusals.{conflicting, blind, mismatched, unsettled, still_active, unknown, absent, wrong_status, too_short}
use Rattle.journal.specs.Refusals.{no_room, wrong_counts}
use Rattle.journal.specs.Orders.{Trial, Order, decide, open_order, record_order, start_order, check_order, chain_order, append_order}
use Rattle.journal.specs.Orders.{undo_order}
use Rattle.journal.specs.Copy.{copy}
use Rattle.journal.specs.Calls.{Answer, refused, accepted, start, check, chain_of, chain, new_record, append, count_records, undo}
use Rattle.demands.specs.Days.{accepts}

-- ---- accepted, or refused by a number from the list

-- worked through, or refused by one of the numbers
pub data Answers {A : Type 0} (numbers : List ℕ) : Answer A → Type 0 where
  worked_through : {a : A} → Answers numbers (accepted a)
  refused-by : {number place : ℕ} → member number numbers ≡ true → Answers numbers (refused number place)

-- the numbers of each call, in the order in which it tries them
abbrev pub start_numbers : List ℕ
start_numbers = 1 ∷ 2 ∷ []

-- 4 to 9, of a journal's records
abbrev pub record_numbers : List ℕ
record_numbers = 4 ∷ 5 ∷ 6 ∷ 7 ∷ 8 ∷ 9 ∷ []

abbrev pub check_numbers : List ℕ
check_numbers = 1 ∷ 2 ∷ 3 ∷ (record_numbers ++ 10 ∷ [])

abbrev pub count_numbers : List ℕ
count_numbers = 1 ∷ 2 ∷ []

abbrev pub chain_numbers : List ℕ
chain_numbers = 1 ∷ 2 ∷ (record_numbers ++ 12 ∷ 14 ∷ [])

abbrev pub append_numbers : List ℕ
append_numbers = check_numbers ++ 15 ∷ 4 ∷ 6 ∷ 7 ∷ 8 ∷ 14 ∷ []

abbrev pub undo_numbers : List ℕ
undo_numbers = check_numbers ++ 11 ∷ 13 ∷ 12 ∷ 14 ∷ []

pub record Answered : Type 0 where
  pub start : (b : List ℕ) (n : ℕ) → Answers start_numbers (start b n).answer
  pub check : (d : Inputs) → Answers check_numbers (check d)
  pub chain : (b : List ℕ) (s : ℕ) (l : List ℕ) → Answers chain_numbers (chain b s l).answer
  pub append : (d : Inputs) (c : RecordCounts) (kind s x : ℕ) (a : Amount) → Answers append_numbers (append d c kind s x a).answer
  pub count_records : (b : List ℕ) → Answers count_numbers (count_records b)
  pub undo : (d : Inputs) (bad status out : List ℕ) → Answers undo_numbers (undo d bad status out).answer

-- ---- exactly the first condition that holds

-- of the order's conditions the first that holds has this number and place
pub data First (number place : ℕ) : Order → Type 0 where
  here : {t : Trial} {o : Order} → t.holds ≡ true → t.refusal.number ≡ number → t.refusal.place ≡ place
      → First number place (t ∷ o)
  later : {t : Trial} {o : Order} → t.holds ≡ false → First number place o → First number place (t ∷ o)

-- Number and place come back exactly if that condition of the call's order holds and none before it does.
pub record Exactly : Type 0 where
  pub start : (b : List ℕ) (n number place : ℕ) → ((start b n).answer ≡ refused number place) ↔ First number place (start_order b n)
  pub check : (d : Inputs) (number place : ℕ) → (check d ≡ refused number place) ↔ First number place (check_order d)
  pub chain : (b : List ℕ) (s : ℕ) (l : List ℕ) (number place : ℕ) → ((chain b s l).answer ≡ refused number place)
      ↔ First number place (chain_order b s l (length (chain_of b s)))
  pub append : (d : Inputs) (c : RecordCounts) (kind s x : ℕ) (a : Amount) (number place : ℕ)
      → ((append d c kind s x a).answer ≡ refused number place)
      ↔ First number place (append_order d c (new_record d.table kind s x a))
  pub count_records : (b : List ℕ) (number place : ℕ) → (count_records b ≡ refused number place) ↔ First number place (open_order b)
  pub undo : (d : Inputs) (bad status out : List ℕ) (number place : ℕ)
      → ((undo d bad status out).answer ≡ refused number place)
      ↔ First number place (undo_order d bad status out (length (copy bad d.journal)))

-- ---- each number only under the condition written for it, at the place that the table names

-- 1 and 2, which all calls but start share; counting has no others
pub data Unopened (b : List ℕ) : ℕ → ℕ → Type 0 where
  by-short : short b ≡ true → Unopened b 1 0
  by-truncated : truncated b ≡ true → Unopened b 1 0
  by-head : bad_head b ≡ true → Unopened b 2 0

-- with 4 to 9, which check, slip, post and take-back share
pub data Unsound (b : List ℕ) : ℕ → ℕ → Type 0 where
  by-unopened : {n p : ℕ} → Unopened b n p → Unsound b n p
  by-malformed : {i : ℕ} → 1 ≤ i → i ≤ count b → malformed (items b) (record_at b i) ≡ true → Unsound b 4 i
  by_chain : {i : ℕ} → 1 ≤ i → i ≤ count b → wrong_next b i ≡ true → Unsound b 5 i
  by-terminated : {i : ℕ} → i < count b → terminated (history b i) (op_of (suc i) (record_at b (suc i))) ≡ true → Unsound b 6 (suc i)
  by-conflict : {i : ℕ} → i < count b → conflicting (history b i) (op_of (suc i) (record_at b (suc i))) ≡ true → Unsound b 7 (suc i)
  by-blind : {i : ℕ} → i < count b → blind (history b i) (op_of (suc i) (record_at b (suc i))) ≡ true → Unsound b 8 (suc i)
  by_before : {i : ℕ} → i < count b → mismatched (history b i) (op_of (suc i) (record_at b (suc i))) ≡ true → Unsound b 9 (suc i)

-- with 3 and 10
pub data CheckRefused (d : Inputs) : ℕ → ℕ → Type 0 where
  by-unsound : {n p : ℕ} → Unsound d.journal n p → CheckRefused d n p
  by-table : wrong_table d.journal d.table ≡ true → CheckRefused d 3 0
  by-final-state : {x : ℕ} → x < items d.journal → unsettled d.journal d.table x ≡ true → CheckRefused d 10 x

-- start
pub data StartRefused (b : List ℕ) (n : ℕ) : ℕ → ℕ → Type 0 where
  by_bytes : short b ≡ true → StartRefused b n 1 0
  by-items : bad_items n ≡ true → StartRefused b n 2 0

-- slip
pub data ChainRefused (b : List ℕ) (s : ℕ) (l : List ℕ) : ℕ → ℕ → Type 0 where
  unsound-chain : {n p : ℕ} → Unsound b n p → ChainRefused b s l n p
  by-absent : absent b s ≡ true → ChainRefused b s l 12 0
  by-list : too_short l (length (chain_of b s)) ≡ true → ChainRefused b s l 14 0

-- post
pub data AppendRefused (d : Inputs) (c : RecordCounts) (r : Record) : ℕ → ℕ → Type 0 where
  check-append : {n p : ℕ} → CheckRefused d n p → AppendRefused d c r n p
  by-counts : wrong_counts d.journal c ≡ true → AppendRefused d c r 15 0
  new-malformed : malformed (items d.journal) r ≡ true → AppendRefused d c r 4 (suc (count d.journal))
  new-terminated : terminated (whole d.journal) (op_of (suc (count d.journal)) r) ≡ true
      → AppendRefused d c r 6 (suc (count d.journal))
  new-conflict : conflicting (whole d.journal) (op_of (suc (count d.journal)) r) ≡ true
      → AppendRefused d c r 7 (suc (count d.journal))
  new-blind : blind (whole d.journal) (op_of (suc (count d.journal)) r) ≡ true
      → AppendRefused d c r 8 (suc (count d.journal))
  by-room : no_room d.journal ≡ true → AppendRefused d c r 14 0

-- take-back
pub data UndoRefused (d : Inputs) (bad status out : List ℕ) : ℕ → ℕ → Type 0 where
  check-undo : {n p : ℕ} → CheckRefused d n p → UndoRefused d bad status out n p
  by-active : {s : ℕ} → 1 ≤ s → s ≤ max_transaction → still_active d.journal s ≡ true → UndoRefused d bad status out 11 s
  by-status : wrong_status status ≡ true → UndoRefused d bad status out 13 0
  by-unknown : {k : ℕ} → k < length bad → unknown d.journal (get_or bad k 0) ≡ true → UndoRefused d bad status out 12 k
  by-capacity : too_short out (length (copy bad d.journal)) ≡ true → UndoRefused d bad status out 14 0

pub record OnlyUnder : Type 0 where
  pub start : (b : List ℕ) (n number place : ℕ) → (start b n).answer ≡ refused number place → StartRefused b n number place
  pub check : (d : Inputs) (number place : ℕ) → check d ≡ refused number place → CheckRefused d number place
  pub chain : (b : List ℕ) (s : ℕ) (l : List ℕ) (number place : ℕ) → (chain b s l).answer ≡ refused number place
      → ChainRefused b s l number place
  pub append : (d : Inputs) (c : RecordCounts) (kind s x : ℕ) (a : Amount) (number place : ℕ)
      → (append d c kind s x a).answer ≡ refused number place → AppendRefused d c (new_record d.table kind s x a) number place
  pub count_records : (b : List ℕ) (number place : ℕ) → count_records b ≡ refused number place → Unopened b number place
  pub undo : (d : Inputs) (bad status out : List ℕ) (number place : ℕ)
      → (undo d bad status out).answer ≡ refused number place → UndoRefused d bad status out number place

-- record i of the journal is the lowest at which one of 4 to 9 holds, and this is the lowest number there
abbrev pub Lowest : List ℕ → ℕ → ℕ → Type 0
Lowest b number i = (decide (record_order b i) ≡ some (record { number = number; place = i }))
    × ((k : ℕ) → 1 ≤ k → k < i → decide (record_order b k) ≡ none)

-- Among 4 to 9 the lowest record decides, then the lowest number. (Post's own record stands behind the journal's.)
pub record LowestRecord : Type 0 where
  pub check : (d : Inputs) (number i : ℕ) → 4 ≤ number → number ≤ 9 → check d ≡ refused number i → Lowest d.journal number i
  pub chain : (b : List ℕ) (s : ℕ) (l : List ℕ) (number i : ℕ) → 4 ≤ number → number ≤ 9 → (chain b s l).answer ≡ refused number i
      → Lowest b number i
  pub append : (d : Inputs) (c : RecordCounts) (kind s x : ℕ) (a : Amount) (number i : ℕ) → 4 ≤ number → number ≤ 9
      → i ≤ count d.journal
      → (append d c kind s x a).answer ≡ refused number i → Lowest d.journal number i
  pub undo : (d : Inputs) (bad status out : List ℕ) (number i : ℕ) → 4 ≤ number → number ≤ 9
      → (undo d bad status out).answer ≡ refused number i → Lowest d.journal number i

-- 10 gives the lowest such item, 11 the lowest such sale, 12 the lowest list position.
pub record LowestPlace : Type 0 where
  pub check_item : (d : Inputs) (x : ℕ) → check d ≡ refused 10 x → (y : ℕ) → y < x → unsettled d.journal d.table y ≡ false
  pub append_item : (d : Inputs) (c : RecordCounts) (kind s key : ℕ) (a : Amount) (x : ℕ)
      → (append d c kind s key a).answer ≡ refused 10 x
      → (y : ℕ) → y < x → unsettled d.journal d.table y ≡ false
  pub undo_item : (d : Inputs) (bad status out : List ℕ) (x : ℕ) → (undo d bad status out).answer ≡ refused 10 x
      → (y : ℕ) → y < x → unsettled d.journal d.table y ≡ false
  pub transaction : (d : Inputs) (bad status out : List ℕ) (s : ℕ) → (undo d bad status out).answer ≡ refused 11 s
      → (v : ℕ) → 1 ≤ v → v < s → still_active d.journal v ≡ false
  pub position : (d : Inputs) (bad status out : List ℕ) (k : ℕ) → (undo d bad status out).answer ≡ refused 12 k
      → (i : ℕ) → i < k → unknown d.journal (get_or bad i 0) ≡ false

-- Marks of 1,025 and paper of 64,020 bytes always do: then take-back refuses neither by 13 nor by 14. (The program lends these.)
abbrev pub Enough : Type 0
Enough =
    (d : Inputs) (bad status out : List ℕ) (number place : ℕ) → length status ≡ status_bytes → max_journal_bytes ≤ length out
    → (undo d bad status out).answer ≡ refused number place → (number ≡ 13 → ⊥) × (number ≡ 14 → ⊥)

-- ---- a refused call writes to nothing lent

pub record Untouched : Type 0 where
  pub start : (b : List ℕ) (n : ℕ) → accepts (start b n).answer ≡ false → (start b n).journal ≡ b
  pub chain : (b : List ℕ) (s : ℕ) (l : List ℕ) → accepts (chain b s l).answer ≡ false → (chain b s l).lsns ≡ l
  pub append : (d : Inputs) (c : RecordCounts) (kind s x : ℕ) (a : Amount) → accepts (append d c kind s x a).answer ≡ false
      → ((append d c kind s x a).journal ≡ d.journal) × ((append d c kind s x a).table ≡ d.table)
      × ((append d c kind s x a).counts ≡ c)
  pub undo : (d : Inputs) (bad status out : List ℕ) → accepts (undo d bad status out).answer ≡ false
      → ((undo d bad status out).table ≡ d.table) × ((undo d bad status out).status ≡ status) × ((undo d bad status out).out ≡ out)

-- ---- what stands behind the records

-- two buffers that agree on head and records
pub record Agree (b c : List ℕ) : Type 0 where
  pub first_long : journal_bytes (count b) ≤ length b
  pub second_long : journal_bytes (count b) ≤ length c
  pub same : take (journal_bytes (count b)) b ≡ take (journal_bytes (count b)) c

-- They get the same answers and writes. Only the length counts, and only in post's 14, so post is compared where that gives the
-- same; only an accepted post changes bytes behind, and only its record's 20. Start writes the head alone.
pub record Behind : Type 0 where
  pub start : (b : List ℕ) (n : ℕ) → drop record_bytes (start b n).journal ≡ drop record_bytes b
  pub check : (d : Inputs) (c : List ℕ) → Agree d.journal c → check d ≡ check (onto c d)
  pub chain : (b c : List ℕ) (s : ℕ) (l : List ℕ) → Agree b c → chain b s l ≡ chain c s l
  pub count_records : (b c : List ℕ) → Agree b c → count_records b ≡ count_records c
  pub undo : (d : Inputs) (c bad status out : List ℕ) → Agree d.journal c
      → undo d bad status out ≡ undo (onto c d) bad status out
  pub behind : (d : Inputs) (n : RecordCounts) (kind s x : ℕ) (a : Amount)
      → drop (journal_bytes (count d.journal) + record_bytes) (append d n kind s x a).journal
      ≡ drop (journal_bytes (count d.journal) + record_bytes) d.journal
  pub append : (d : Inputs) (c : List ℕ) (n : RecordCounts) (kind s x : ℕ) (a : Amount) → Agree d.journal c
      → no_room d.journal ≡ no_room c
      → ((append d n kind s x a).answer ≡ (append (onto c d) n kind s x a).answer)
      × ((append d n kind s x a).table ≡ (append (onto c d) n kind s x a).table)
      × ((append d n kind s x a).counts ≡ (append (onto c d) n kind s x a).counts)
      × (accepts (append d n kind s x a).answer ≡ true
      → take (journal_bytes (count d.journal) + record_bytes) (append d n kind s x a).journal
      ≡ take (journal_bytes (count d.journal) + record_bytes) (append (onto c d) n kind s x a).journal)
