-- Refusals mean what they say: the statements Exactly, OnlyUnder, LowestRecord, LowestPlace, Enough and Untouched of specs/Refusing.antt, proved.
-- Assumes nothing.
use mathlib.Core.Path.{◌≡◌, refl, sym, ◌∙◌, ap}
use mathlib.Core.Bool.{Bool, true, false}
use mathlib.Core.Logic.{◌↔◌}
use mathlib.Core.List.{List, [], ◌∷◌}
use mathlib.Core.Option.{Option, none, some, none-ne-some, some-injective}
use Prim.Native.Nat.{ℕ, zero, suc, ◌+◌, ◌<◌, ◌≤◌}
use native.Mathlib.Omega.{arith}
use lib.Dec.{eqb}
use lib.ListN.{length, get_or}
use borrow.Author.Tests.{eqb-false, ltb-true}
use Rattle.lists.specs.Search.{member}
use Rattle.lists.specs.Tables.{tabulate}
use Rattle.std.proofs.lemmas.Bool.{or_left, or_right}
use Rattle.lists.proofs.BoolLaws.{by_cases, clash}
use Rattle.lists.proofs.MemberLaws.{member-append}
use Rattle.format.specs.declared.Record.{Record}
use Rattle.model.specs.History.{Amount}
use Rattle.journal.specs.Inputs.{Inputs}
use Rattle.journal.specs.Journal.{count, items}
use Rattle.journal.specs.Refusals.{RecordCounts, wrong_counts, unsettled, still_active, unknown, too_short, wrong_status}
use Rattle.journal.specs.Orders.{Refusal, Trial, Order, decide, open_order, table_order, record_order, records_order, settled_order, active_order, known_order, present_order, status_order, capacity_order, counts_order, new_order, start_order, check_order, chain_order, append_order, undo_order}
use Rattle.journal.specs.Copy.{copy}
use Rattle.journal.specs.Results.{result}
use Rattle.journal.specs.Calls.{refused, answered, start, check, chain_of, chain, new_record, append, count_records, undo}
use Rattle.journal.proofs.Clear.{All, Clear, all_more, all-turns, all-try, all-each, decide-all, decide-clear}
use Rattle.journal.proofs.Deciding.{NumberIn, Label, Labels, all-labels, Says, says-turn, elsewhere, stage-decides, each-place, tried-lowest}
use Rattle.journal.proofs.Answered.{refused-only}
use Rattle.journal.proofs.Checked.{open-all, table-all, access-all, rule-all, record-all, settled-all, active-all, known-all, present-all, status-all, capacity-all, counts-all, new-all, clear-checks}
use Rattle.journal.proofs.Passing.{head-facts}
use Rattle.journal.proofs.OrdersLaws.{refusal_at, try_holds, decide-turn-some, decide-cases}
use Rattle.demands.proofs.CopyLaws.{copy-most}
use Rattle.demands.proofs.DaysLaws.{answered-some}
use Rattle.demands.specs.Refusing.{Answers, worked_through, refused-by, start_numbers, record_numbers, check_numbers, count_numbers, chain_numbers, append_numbers, undo_numbers, Answered, First, here, later, Exactly, Unopened, by-short, by-truncated, by-head, Unsound, by-unopened, by-malformed, by_chain, by-terminated, by-conflict, by-blind, by_before, CheckRefused, by-unsound, by-table, by-final-state, StartRefused, by_bytes, by-items, ChainRefused, unsound-chain, by-absent, by-list, AppendRefused, check-append, by-counts, new-malformed, new-terminated, new-conflict, new-blind, by-room, UndoRefused, check-undo, by-active, by-status, by-unknown, by-capacity, OnlyUnder, LowestRecord, Untouched, Lowest, LowestPlace, Enough}

-- ---- answers

some-answered : {A : Type 0} (d : Option Refusal) (a : A) (n p : ℕ) → d ≡ some (refusal_at n p) → answered d a ≡ refused n p
some-answered d a n p e = rw e

-- ---- exactly the first

decide-first : (n p : ℕ) (o : Order) → decide o ≡ some (refusal_at n p) → First n p o
unfolding decide
decide-first n p [] e = absurd (none-ne-some _ e)
decide-first n p (t ∷ o) e =
    by_cases t.holds
    (λ h. let q = some-injective t.refusal (refusal_at n p) (rw h at e) in here h (ap (λ r. r.number) q) (ap (λ r. r.place) q))
    (λ h. later h (decide-first n p o (rw h at e)))

first-decide : {n p : ℕ} {o : Order} → First n p o → decide o ≡ some (refusal_at n p)
unfolding decide
first-decide {n} {p} (here {t} {o} h a b) = rw h (λ i. some (refusal_at (a i) (b i)))
first-decide (later h f) = rw h (first-decide f)

answer-first : {A : Type 0} (o : Order) (a : A) (n p : ℕ) → (answered (decide o) a ≡ refused n p) ↔ First n p o
answer-first o a n p = (λ e. decide-first n p o (refused-only n p (decide o) a (sym e)), λ f. some-answered (decide o) a n p (first-decide f))

pub exactly : Exactly
unfolding start check chain append count_records undo result
exactly =
    record {
      start = λ b n number place. answer-first (start_order b n) tt number place;
      check = λ d number place. answer-first (check_order d) _ number place;
      chain = λ b s l number place. answer-first (chain_order b s l (length (chain_of b s))) _ number place;
      append = λ d c kind s x a number place. answer-first (append_order d c (new_record d.table kind s x a)) tt number place;
      count_records = λ b number place. answer-first (open_order b) _ number place;
      undo = λ d bad status out number place. answer-first (undo_order d bad status out (length (copy bad d.journal))) _ number place;
    }

-- ---- each number only under its condition

-- a condition that holds is one of the family R
abbrev Means : (ℕ → ℕ → Type 0) → Trial → Type 0
Means R t = t.holds ≡ true → R t.refusal.number t.refusal.place

means-more : {R S : ℕ → ℕ → Type 0} → ((n p : ℕ) → R n p → S n p) → {o : Order} → All (Means R) o → All (Means S) o
means-more f a = all_more (λ t m h. f _ _ (m h)) a

answer-means : {A : Type 0} (R : ℕ → ℕ → Type 0) (o : Order) (a : A) → All (Means R) o → (n p : ℕ) → answered (decide o) a ≡ refused n p → R n p
answer-means R o a m n p e =
    let (t, h, q, f) = decide-all (Means R) m (refusal_at n p) (refused-only n p (decide o) a (sym e)) in
    rw q at (f h)

record-means : (b : List ℕ) (i : ℕ) → 1 ≤ i → i < 1 + count b → All (Means (Unsound b)) (record_order b i)
record-means b zero l m = absurd (omega arith)
record-means b (suc i) l m =
    record-all _ b (suc i) (by-malformed (omega arith) (omega arith)) (by_chain (omega arith) (omega arith))
    (rule-all _ _ _ _ (access-all _ _ _ _ (by-terminated (omega arith)) (by-conflict (omega arith)) (by-blind (omega arith))) (by_before (omega arith)))

open-means : (b : List ℕ) → All (Means (Unopened b)) (open_order b)
open-means b = open-all _ b by-short by-head by-truncated

records-means : (b : List ℕ) → All (Means (Unsound b)) (records_order b)
unfolding records_order
records-means b = all-each (Means (Unsound b)) (record_order b) 1 (count b) (record-means b)

check-means : (d : Inputs) → All (Means (CheckRefused d)) (check_order d)
unfolding check_order
check-means d =
    let M = Means (CheckRefused d) in
    all-turns M _ (
      means-more (λ n p u. by-unsound (by-unopened u)) (open-means d.journal),
      (
        table-all M d by-table,
        (
          means-more (λ n p. by-unsound) (records-means d.journal),
          (settled-all M d (λ x h. by-final-state h), tt),
        ),
      ),
    )

start-means : (b : List ℕ) (n : ℕ) → All (Means (StartRefused b n)) (start_order b n)
unfolding start_order
start-means b n = let M = Means (StartRefused b n) in all-turns M _ (all-try M 1 0 _ by_bytes, (all-try M 2 0 _ by-items, tt))

chain-means : (b : List ℕ) (s : ℕ) (l : List ℕ) → All (Means (ChainRefused b s l)) (chain_order b s l (length (chain_of b s)))
unfolding chain_order
chain-means b s l =
    let M = Means (ChainRefused b s l) in
    all-turns M _ (
      means-more (λ n p u. unsound-chain (by-unopened u)) (open-means b),
      (
        means-more (λ n p. unsound-chain) (records-means b),
        (
          present-all M b s by-absent,
          (capacity-all M l _ by-list, tt),
        ),
      ),
    )

append-means : (d : Inputs) (c : RecordCounts) (r : Record) → All (Means (AppendRefused d c r)) (append_order d c r)
unfolding append_order
append-means d c r =
    let M = Means (AppendRefused d c r) in
    all-turns M _ (
      means-more (λ n p. check-append) (check-means d),
      (
        counts-all M d.journal c by-counts,
        (new-all M d.journal r new-malformed (access-all M _ _ _ new-terminated new-conflict new-blind) by-room, tt),
      ),
    )

undo-means : (d : Inputs) (bad status out : List ℕ) → All (Means (UndoRefused d bad status out)) (undo_order d bad status out (length (copy bad d.journal)))
unfolding undo_order
undo-means d bad status out =
    let M = Means (UndoRefused d bad status out) in
    all-turns M _ (
      means-more (λ n p. check-undo) (check-means d),
      (
        active-all M _ (λ s l m. by-active l m),
        (
          status-all M status by-status,
          (known-all M _ bad (λ k h. by-unknown h), (capacity-all M out _ by-capacity, tt)),
        ),
      ),
    )

pub only_under : OnlyUnder
unfolding start check chain append count_records undo result
only_under =
    record {
      start = λ b n number place e. answer-means (StartRefused b n) _ tt (start-means b n) number place e;
      check = λ d number place e. answer-means (CheckRefused d) _ _ (check-means d) number place e;
      chain = λ b s l number place e. answer-means (ChainRefused b s l) _ _ (chain-means b s l) number place e;
      append = λ d c kind s x a number place e. answer-means (AppendRefused d c (new_record d.table kind s x a)) _ tt (append-means d c (new_record d.table kind s x a)) number place e;
      count_records = λ b number place e. answer-means (Unopened b) _ _ (open-means b) number place e;
      undo = λ d bad status out number place e. answer-means (UndoRefused d bad status out) _ _ (undo-means d bad status out) number place e;
    }

-- ---- the numbers of the stages

record-numbers : (b : List ℕ) (i : ℕ) → All (NumberIn record_numbers) (record_order b i)
record-numbers b i = record-all _ b i refl refl (rule-all _ _ _ _ (access-all _ _ _ _ refl refl refl) refl)

records-numbers : (b : List ℕ) → All (NumberIn record_numbers) (records_order b)
unfolding records_order
records-numbers b = all-each _ (record_order b) 1 (count b) (λ i l m. record-numbers b i)

abbrev open_label : (b : List ℕ) → Label (open_order b)
open_label b = (1 ∷ 2 ∷ [], open-all _ b refl refl refl)

abbrev records_label : (b : List ℕ) → Label (records_order b)
records_label b = (record_numbers, records-numbers b)

abbrev table_label : (d : Inputs) → Label (table_order d)
table_label d = (3 ∷ [], table-all _ d refl)

abbrev settled_label : (d : Inputs) → Label (settled_order d)
settled_label d = (10 ∷ [], settled-all _ d (λ x h. refl))

abbrev active_label : (f : ℕ → Bool) → Label (active_order f)
active_label f = (11 ∷ [], active-all _ f (λ s l m. refl))

abbrev known_label : (f : ℕ → Bool) (bad : List ℕ) → Label (known_order f bad)
known_label f bad = (12 ∷ [], known-all _ f bad (λ k h. refl))

abbrev present_label : (b : List ℕ) (s : ℕ) → Label (present_order b s)
present_label b s = (12 ∷ [], present-all _ b s refl)

abbrev status_label : (status : List ℕ) → Label (status_order status)
status_label status = (13 ∷ [], status-all _ status refl)

abbrev capacity_label : {A : Type 0} (l : List A) (n : ℕ) → Label (capacity_order l n)
capacity_label l n = (14 ∷ [], capacity-all _ l n refl)

abbrev counts_label : (b : List ℕ) (c : RecordCounts) → Label (counts_order b c)
counts_label b c = (15 ∷ [], counts-all _ b c refl)

abbrev new_label : (b : List ℕ) (r : Record) → Label (new_order b r)
new_label b r = (4 ∷ 6 ∷ 7 ∷ 8 ∷ 14 ∷ [], new-all _ b r refl (access-all _ _ _ _ refl refl refl) refl)

abbrev check_labels : (d : Inputs) → Labels (open_order d.journal ∷ table_order d ∷ records_order d.journal ∷ settled_order d ∷ [])
check_labels d = (open_label d.journal, (table_label d, (records_label d.journal, (settled_label d, tt))))

-- what check refuses with: just its numbers
check-numbers : (d : Inputs) → All (NumberIn check_numbers) (check_order d)
unfolding check_order
check-numbers d = all-labels _ (check_labels d)

abbrev check_label : (d : Inputs) → Label (check_order d)
check_label d = (check_numbers, check-numbers d)

abbrev chain_labels : (b : List ℕ) (s : ℕ) (l : List ℕ) (n : ℕ) → Labels (open_order b ∷ records_order b ∷ present_order b s ∷ capacity_order l n ∷ [])
chain_labels b s l n = (open_label b, (records_label b, (present_label b s, (capacity_label l n, tt))))

abbrev undo_labels : (d : Inputs) (bad status out : List ℕ) (n : ℕ)
    → Labels (check_order d ∷ active_order (still_active d.journal) ∷ status_order status ∷ known_order (unknown d.journal) bad ∷ capacity_order out n ∷ [])
undo_labels d bad status out n = (check_label d, (active_label _, (status_label status, (known_label _ bad, (capacity_label out n, tt)))))

abbrev append_labels : (d : Inputs) (c : RecordCounts) (r : Record) → Labels (check_order d ∷ counts_order d.journal c ∷ new_order d.journal r ∷ [])
append_labels d c r = (check_label d, (counts_label d.journal c, (new_label d.journal r, tt)))

-- ---- accepted, or refused by a number from the list

answers : {A : Type 0} (numbers : List ℕ) (o : Order) (a : A) → All (NumberIn numbers) o → Answers numbers (answered (decide o) a)
answers numbers o a n = go (decide o) refl
  where
    go : (r : Option Refusal) → decide o ≡ r → Answers numbers (answered r a)
    go none e = worked_through
    go (some r) e = let (t, h, q, m) = decide-all (NumberIn numbers) n r e in refused-by (rw q at m)

start-numbers : (b : List ℕ) (n : ℕ) → All (NumberIn start_numbers) (start_order b n)
unfolding start_order
start-numbers b n = all-turns _ _ (all-try _ 1 0 _ refl, (all-try _ 2 0 _ refl, tt))

chain-numbers : (b : List ℕ) (s : ℕ) (l : List ℕ) (n : ℕ) → All (NumberIn chain_numbers) (chain_order b s l n)
unfolding chain_order
chain-numbers b s l n = all-labels _ (chain_labels b s l n)

append-numbers : (d : Inputs) (c : RecordCounts) (r : Record) → All (NumberIn append_numbers) (append_order d c r)
unfolding append_order
append-numbers d c r = all-labels _ (append_labels d c r)

undo-numbers : (d : Inputs) (bad status out : List ℕ) (n : ℕ) → All (NumberIn undo_numbers) (undo_order d bad status out n)
unfolding undo_order
undo-numbers d bad status out n = all-labels _ (undo_labels d bad status out n)

pub answered-all : Answered
unfolding start check chain append count_records undo result
answered-all =
    record {
      start = λ b n. answers _ _ _ (start-numbers b n);
      check = λ d. answers _ _ _ (check-numbers d);
      chain = λ b s l. answers _ _ _ (chain-numbers b s l _);
      append = λ d c kind s x a. answers _ _ _ (append-numbers d c (new_record d.table kind s x a));
      count_records = λ b. answers count_numbers _ _ (open-all _ b refl refl refl);
      undo = λ d bad status out. answers _ _ _ (undo-numbers d bad status out _);
    }

-- ---- the stage that decides

-- not one of check's: post's own record has a place behind the journal's
abbrev Own : List ℕ → Trial → Type 0
Own b t = member t.refusal.number check_numbers ≡ true → (member t.refusal.number record_numbers ≡ true → t.refusal.place ≤ count b) → ⊥

own : (b : List ℕ) (k : ℕ) → member k record_numbers ≡ true → member k check_numbers ≡ true → (member k record_numbers ≡ true → suc (count b) ≤ count b) → ⊥
own b k e l h = let g = h e in omega arith

module _ (n i : ℕ) (d : Inputs) where
  -- what refuses take-back by one of check's numbers is check's
  undo-check : (bad status out : List ℕ) (m : ℕ) → member n check_numbers ≡ true → decide (undo_order d bad status out m) ≡ some (refusal_at n i) → decide (check_order d) ≡ some (refusal_at n i)
  unfolding undo_order
  undo-check bad status out m l e = stage-decides check_numbers n i l _ (undo_labels d bad status out m) refl e

  -- and so for post, but for its own record
  append-check : (c : RecordCounts) (r : Record) → member n check_numbers ≡ true → (member n record_numbers ≡ true → i ≤ count d.journal) → decide (append_order d c r) ≡ some (refusal_at n i) → decide (check_order d) ≡ some (refusal_at n i)
  unfolding append_order
  append-check c r u within e =
      let b = d.journal in
      says-turn n i _ (check_order d) _ (λ x. x)
      (elsewhere n i _ (Own b)
      (all-turns (Own b) _ (counts-all (Own b) b c (λ v h. clash v refl), (new-all (Own b) b r (own b 4 refl) (access-all (Own b) _ _ _ (own b 6 refl) (own b 7 refl) (own b 8 refl)) (λ v h. clash v refl), tt)))
      (λ x f q. f (rw q u) (rw q within)))
      e

-- check has the records' numbers
of-check : (n : ℕ) → member n record_numbers ≡ true → member n check_numbers ≡ true
of-check n e = or_right (eqb n 1) _ (or_right (eqb n 2) _ (or_right (eqb n 3) _ (rw (member-append n record_numbers (10 ∷ [])) (or_left _ (member n (10 ∷ [])) e))))

-- ---- the lowest record, then the lowest number

records-lowest : (b : List ℕ) (n i : ℕ) → Says n i (Lowest b n i) (records_order b)
unfolding records_order
records-lowest b n i e =
    each-place (record_order b) 1 (count b) n i (λ k. record-all _ b k refl refl (rule-all _ _ _ _ (access-all _ _ _ _ refl refl refl) refl)) e

check-lowest : (d : Inputs) (n i : ℕ) → member n record_numbers ≡ true → Says n i (Lowest d.journal n i) (check_order d)
unfolding check_order
check-lowest d n i l e = records-lowest d.journal n i (stage-decides record_numbers n i l _ (check_labels d) refl e)

chain-lowest : (b : List ℕ) (s : ℕ) (l : List ℕ) (m n i : ℕ) → member n record_numbers ≡ true → Says n i (Lowest b n i) (chain_order b s l m)
unfolding chain_order
chain-lowest b s l m n i low e = records-lowest b n i (stage-decides record_numbers n i low _ (chain_labels b s l m) refl e)

-- the numbers from i on, m of them
in-run : (n i m : ℕ) → i ≤ n → n < i + m → member n (tabulate (λ k. k) i m) ≡ true
unfolding tabulate
in-run n i zero l u = absurd (omega arith)
in-run n i (suc m) l u =
    by_cases (eqb n i) (λ e. rw e)
    (λ e. or_right (eqb n i) _ (in-run n (suc i) m (omega (arith, eqb-false n i e)) (omega arith)))

-- 4 to 9 are the records'
of-records : (n : ℕ) → 4 ≤ n → n ≤ 9 → member n record_numbers ≡ true
unfolding tabulate
of-records n l u = in-run n 4 6 l (omega arith)

pub lowest-record : LowestRecord
unfolding check chain append undo result
lowest-record =
    record {
      check = λ d n i l u e. check-lowest d n i (of-records n l u) (refused-only n i _ _ (sym e));
      chain = λ b s l n i low high e. chain-lowest b s l _ n i (of-records n low high) (refused-only n i _ _ (sym e));
      append = λ d c kind s x a n i low high within e.
          let m = of-records n low high in
          check-lowest d n i m (append-check n i d c (new_record d.table kind s x a) (of-check n m) (λ h. within) (refused-only n i _ _ (sym e)));
      undo = λ d bad status out n i low high e.
          let m = of-records n low high in
          check-lowest d n i m (undo-check n i d bad status out _ (of-check n m) (refused-only n i _ _ (sym e)));
    }

-- ---- the lowest place

item-lowest : (d : Inputs) (x : ℕ) → Says 10 x ((y : ℕ) → y < x → unsettled d.journal d.table y ≡ false) (check_order d)
unfolding check_order settled_order
item-lowest d x e y h =
    tried-lowest (unsettled d.journal d.table) 0 (items d.journal) 10 x
    (stage-decides (10 ∷ []) 10 x refl _ (check_labels d) refl e) y (omega arith) h

module _ (d : Inputs) (bad status out : List ℕ) (m : ℕ) where
  active-lowest : (s : ℕ) → Says 11 s ((v : ℕ) → 1 ≤ v → v < s → still_active d.journal v ≡ false) (undo_order d bad status out m)
  unfolding undo_order active_order
  active-lowest s e =
      tried-lowest (still_active d.journal) 1 1024 11 s (stage-decides (11 ∷ []) 11 s refl _ (undo_labels d bad status out m) refl e)

  position-lowest : (k : ℕ) → Says 12 k ((i : ℕ) → i < k → unknown d.journal (get_or bad i 0) ≡ false) (undo_order d bad status out m)
  unfolding undo_order known_order
  position-lowest k e i h =
      tried-lowest (λ k. unknown d.journal (get_or bad k 0)) 0 (length bad) 12 k
      (stage-decides (12 ∷ []) 12 k refl _ (undo_labels d bad status out m) refl e) i (omega arith) h

pub lowest-place : LowestPlace
unfolding check append undo result
lowest-place =
    record {
      check_item = λ d x e. item-lowest d x (refused-only 10 x _ _ (sym e));
      append_item = λ d c kind s v a x e.
          item-lowest d x (append-check 10 x d c (new_record d.table kind s v a) refl (λ h. clash h refl) (refused-only 10 x _ _ (sym e)));
      undo_item = λ d bad status out x e. item-lowest d x (undo-check 10 x d bad status out _ refl (refused-only 10 x _ _ (sym e)));
      transaction = λ d bad status out s e. active-lowest d bad status out _ s (refused-only 11 s _ _ (sym e));
      position = λ d bad status out k e. position-lowest d bad status out _ k (refused-only 12 k _ _ (sym e));
    }

-- ---- 13, 14 and 15 by their one stage

undo_refused-13 : (d : Inputs) (bad status out : List ℕ) (place : ℕ) → (undo d bad status out).answer ≡ refused 13 place → wrong_status status ≡ true
unfolding undo result undo_order status_order
undo_refused-13 d bad status out place e =
    try_holds 13 0 _ (stage-decides (13 ∷ []) 13 place refl _ (undo_labels d bad status out _) refl (refused-only 13 place _ _ (sym e)))

pub undo_refused-14 : (d : Inputs) (bad status out : List ℕ) (place : ℕ) → (undo d bad status out).answer ≡ refused 14 place
    → too_short out (length (copy bad d.journal)) ≡ true
unfolding undo result undo_order capacity_order
undo_refused-14 d bad status out place e =
    try_holds 14 0 _ (stage-decides (14 ∷ []) 14 place refl _ (undo_labels d bad status out _) refl (refused-only 14 place _ _ (sym e)))

pub append_refused-15 : (d : Inputs) (c : RecordCounts) (kind s x : ℕ) (a : Amount) (place : ℕ) → (append d c kind s x a).answer ≡ refused 15 place
    → wrong_counts d.journal c ≡ true
unfolding append append_order counts_order
append_refused-15 d c kind s x a place e =
    try_holds 15 0 _ (stage-decides (15 ∷ []) 15 place refl _ (append_labels d c (new_record d.table kind s x a)) refl (refused-only 15 place _ _ (sym e)))

-- ---- marks and paper that always do

-- a refusal by none of check's numbers: check passed before
passed-before : (d : Inputs) (bad status out : List ℕ) (number place : ℕ) → member number check_numbers ≡ false → (undo d bad status out).answer ≡ refused number place
    → Clear (check_order d)
unfolding undo result undo_order
passed-before d bad status out number place n e =
    decide-cases (check_order d) (λ z. decide-clear _ z)
    (λ r z.
    let q : r ≡ refusal_at number place =
    some-injective r _ (sym (decide-turn-some _ _ z) ∙ refused-only number place _ _ (sym e)) in
    let (t, h, f, m) = decide-all (NumberIn check_numbers) (check-numbers d) r z in
    clash (rw (f, q) at m) n)

pub enough : Enough
unfolding wrong_status too_short
enough d bad status out number place marks room e = (
  λ q. clash (undo_refused-13 d bad status out place (rw q at e)) (rw marks),
  λ q.
      let e14 : (undo d bad status out).answer ≡ refused 14 place = rw q at e in
      let k = clear-checks d (passed-before d bad status out 14 place refl e14) in
      omega (arith, ltb-true (length out) _ (undo_refused-14 d bad status out place e14), copy-most bad d.journal, (head-facts d.journal k.sound.head).few),
)

-- ---- a refused call writes nothing

pub untouched : Untouched
unfolding start chain append undo result
untouched =
    record {
      start = λ b n e. answered-some (decide (start_order b n)) tt _ _ e;
      chain = λ b s l e. answered-some (decide (chain_order b s l (length (chain_of b s)))) (length (chain_of b s)) _ _ e;
      append = λ d c kind s x a e.
          let o = decide (append_order d c (new_record d.table kind s x a)) in
          (answered-some o tt _ _ e, answered-some o tt _ _ e, answered-some o tt _ _ e);
      undo = λ d bad status out e.
          let o = decide (undo_order d bad status out (length (copy bad d.journal))) in
          (answered-some o _ _ _ e, answered-some o _ _ _ e, answered-some o _ _ _ e);
    }
