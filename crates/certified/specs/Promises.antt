-- What each call promises: of the values lent at entry, and of the answer and the loans at exit, as the demands say it and with no
-- word of how it is computed. One record a call; the predicates are those of `demands`, and proofs/ takes each promise from the
-- three demands and the requests there.
-- Assumes nothing.
use Rattle.std.specs.Prelude.{◌≡◌, Bool, true, false, ◌↔◌, List, ◌∷◌, ℕ, ◌+◌, ◌<◌, ◌≤◌, ◌-ℤ◌, length, get_or, drop}
use Rattle.std.proofs.Math.Option.{none}
use Rattle.lists.specs.Search.{keep}
use Rattle.lists.specs.Tables.{count_if}
use Rattle.format.specs.declared.Record.{Record}
use Rattle.format.specs.Limits.{record_bytes, journal_bytes, max_transaction}
use Rattle.model.specs.History.{Amount, of_tx, active, current}
use Rattle.model.specs.Net.{table_sum}
use Rattle.model.specs.Undo.{is_source, Closed}
use Rattle.journal.specs.Inputs.{Inputs, inputs_of, handed_on}
use Rattle.journal.specs.Journal.{count, items, whole, amount_at}
use Rattle.journal.specs.Refusals.{RecordCounts, counts_by_kind, unsettled, still_active, unknown}
use Rattle.journal.specs.Orders.{decide, open_order, sound_order, start_order, check_order, chain_order, append_order, undo_order}
use Rattle.journal.specs.Copy.{copy}
use Rattle.journal.specs.Calls.{Answer, refused, accepted, written, chain_of, new_record, raised, opening_table}
use Rattle.journal.specs.Calls.{StartResult, AppendResult, ChainResult, UndoTotals, UndoResult}
use Rattle.demands.specs.Days.{accepts, records_of, Chained, Pass, PassFinished}
use Rattle.demands.specs.Appending.{AppendCall}
use Rattle.demands.specs.Undoing.{Accepting, copy_in, RepairedDay, status_at, StatusMeaning, FewestTransactions, Deleted}
use Rattle.demands.specs.Refusing.{start_numbers, check_numbers, count_numbers, chain_numbers, append_numbers, undo_numbers}
use Rattle.demands.specs.Refusing.{StartRefused, Unopened, CheckRefused, ChainRefused, AppendRefused, UndoRefused, Lowest}
use Rattle.demands.specs.Demands.{Refuses}
use Rattle.demands.specs.Requests.{sum_left}
use Rattle.chain.specs.Visits.{lsns_of}

-- ---- start

-- a journal b that start was lent, and what it is then: no records, n items, and it passes with any table of that many amounts
pub record Fresh (b : List ℕ) (n : ℕ) (journal : List ℕ) : Type 0 where
  pub count : count journal ≡ 0
  pub items : items journal ≡ n
  pub pass : (t : List Amount) → length t ≡ n → Pass (inputs_of journal t)
  pub size : length journal ≡ length b
  pub behind : drop record_bytes journal ≡ drop record_bytes b

-- a start that was lent b and given n, and answered and left r
pub record StartPromise (b : List ℕ) (n : ℕ) (r : StartResult) : Type 0 where
  pub started : accepts r.answer ≡ true → Fresh b n r.journal
  pub refuses : Refuses start_numbers (r.journal ≡ b) (StartRefused b n) (start_order b n) r.answer

-- ---- check

-- a check that was lent d and answered r
pub record CheckPromise (d : Inputs) (r : Answer ℕ) : Type 0 where
  pub acceptance : (accepts r ≡ true) ↔ Pass d
  -- it answers how many sales are open; all open ones have numbers from 1 to 1,024
  pub actives : (n : ℕ) → r ≡ accepted n → n ≡ count_if (active (whole d.journal)) 1 max_transaction
  pub within : accepts r ≡ true → (s : ℕ) → active (whole d.journal) s ≡ true → (1 ≤ s) × (s ≤ max_transaction)
  pub refuses : Refuses check_numbers (Unit {0}) (CheckRefused d) (check_order d) r
  -- of records the lowest, then the lowest number; of items the lowest
  pub lowest_record : (number i : ℕ) → 4 ≤ number → number ≤ 9 → r ≡ refused number i → Lowest d.journal number i
  pub lowest_item : (x : ℕ) → r ≡ refused 10 x → (y : ℕ) → y < x → unsettled d.journal d.table y ≡ false

-- ---- slip

-- a slip of sale s that was lent b and the list l, and answered and left r
pub record ChainPromise (b : List ℕ) (s : ℕ) (l : List ℕ) (r : ChainResult) : Type 0 where
  -- where it accepts, the journal passes 1, 2 and 4 to 9 ..
  pub sound : accepts r.answer ≡ true → decide (sound_order b) ≡ none
  -- .. the list's front is the numbers of that sale's records, in order, its rest as it was; and it answers how many they are
  pub numbers : accepts r.answer ≡ true → r.lsns ≡ written (lsns_of (keep (of_tx s) (whole b))) l
  pub visited : (n : ℕ) → r.answer ≡ accepted n → n ≡ length (keep (of_tx s) (whole b))
  pub refuses : Refuses chain_numbers (r.lsns ≡ l) (ChainRefused b s l) (chain_order b s l (length (chain_of b s))) r.answer
  pub lowest_record : (number i : ℕ) → 4 ≤ number → number ≤ 9 → r.answer ≡ refused number i → Lowest b number i

-- ---- post

-- the record that a post p adds
abbrev pub entry_of : Inputs → AppendCall → Record
entry_of d p = new_record d.table p.kind p.tx p.item p.after

-- what an accepted post p leaves of d and the tally c
pub record Entered (d : Inputs) (c : RecordCounts) (p : AppendCall) (r : AppendResult) : Type 0 where
  -- the records are those before and the new one, each chained
  pub entries : records_of r.journal ≡ entry_of d p ∷ records_of d.journal
  pub chained : Chained r.journal
  pub pass : Pass (handed_on r.journal r.table d)
  -- one of the four counts rises, and they agree with the journal
  pub raised : r.counts ≡ raised p.kind c
  pub agrees : r.counts ≡ counts_by_kind (whole r.journal)
  pub items : items r.journal ≡ items d.journal
  -- the opening table stays, and each amount is what the records make of its opening amount
  pub opening : opening_table (handed_on r.journal r.table d) ≡ opening_table d
  pub standing : (x : ℕ) → x < length (opening_table d)
      → amount_at r.table x ≡ current (amount_at (opening_table d) x) (whole r.journal) x
  pub size : length r.journal ≡ length d.journal
  pub behind : drop (journal_bytes (count d.journal) + record_bytes) r.journal
      ≡ drop (journal_bytes (count d.journal) + record_bytes) d.journal

-- a post p that was lent d and the tally c, and answered and left r
pub record AppendPromise (d : Inputs) (c : RecordCounts) (p : AppendCall) (r : AppendResult) : Type 0 where
  pub passed : accepts r.answer ≡ true → Pass d
  pub entered : accepts r.answer ≡ true → Entered d c p r
  pub refuses : Refuses append_numbers ((r.journal ≡ d.journal) × (r.table ≡ d.table) × (r.counts ≡ c))
      (AppendRefused d c (entry_of d p)) (append_order d c (entry_of d p)) r.answer
  -- at the journal's own records, which stand before the new one
  pub lowest_record : (number i : ℕ) → 4 ≤ number → number ≤ 9 → i ≤ count d.journal → r.answer ≡ refused number i
      → Lowest d.journal number i
  pub lowest_item : (x : ℕ) → r.answer ≡ refused 10 x → (y : ℕ) → y < x → unsettled d.journal d.table y ≡ false

-- ---- counting

-- a count of the records of b that answered r: the tally that post asks for; a journal that passes is counted
pub record CountPromise (b : List ℕ) (r : Answer RecordCounts) : Type 0 where
  pub counted : (c : RecordCounts) → r ≡ accepted c → c ≡ counts_by_kind (whole b)
  pub passing : (t : List Amount) → Pass (inputs_of b t) → accepts r ≡ true
  pub refuses : Refuses count_numbers (Unit {0}) (Unopened b) (open_order b) r

-- ---- take-back

-- what an accepted take-back with the counts n leaves
pub record Repaired (d : Inputs) (bad out : List ℕ) (r : UndoResult) (n : UndoTotals) : Type 0 where
  -- it passes, with every sale finished
  pub left : RepairedDay d out r n
  -- marks and counts; and the sales marked 2 lie in every set that contains the list and what reads from a member. A clause of a
  -- contract takes no statement over all predicates, so the sets are those with a test; over all predicates it is UndoSet of
  -- `demands`
  pub meaning : StatusMeaning d.journal bad r n
  pub least : (g : ℕ → Bool) → Closed is_source bad (whole d.journal) (λ s. g s ≡ true) → (s : ℕ) → status_at r s ≡ 2 → g s ≡ true
  -- they are the fewest whose removal leaves every other read fed as before
  pub fewest : FewestTransactions d.journal bad r
  -- copy and table are those of the delete-transaction model
  pub deleted : Deleted d r (copy_in r n)
  -- 02, request 1: after less before over the copy's writes is the sum of the table left less the sum of the opening table
  pub sum : sum_left r n ≡ table_sum r.table -ℤ table_sum (opening_table d)

-- a take-back that was lent d, a list, marks and paper, and answered and left r
pub record UndoPromise (d : Inputs) (bad status out : List ℕ) (r : UndoResult) : Type 0 where
  -- it accepts exactly a journal and table that pass with every sale finished, and a list, marks and paper that will do
  pub acceptance : (accepts r.answer ≡ true) ↔ (PassFinished d × Accepting d.journal bad status out)
  pub repaired : (n : UndoTotals) → r.answer ≡ accepted n → Repaired d bad out r n
  pub refuses : Refuses undo_numbers ((r.table ≡ d.table) × (r.status ≡ status) × (r.out ≡ out))
      (UndoRefused d bad status out) (undo_order d bad status out (length (copy bad d.journal))) r.answer
  -- of records the lowest, then the lowest number; of items, sales and list positions the lowest
  pub lowest_record : (number i : ℕ) → 4 ≤ number → number ≤ 9 → r.answer ≡ refused number i → Lowest d.journal number i
  pub lowest_item : (x : ℕ) → r.answer ≡ refused 10 x → (y : ℕ) → y < x → unsettled d.journal d.table y ≡ false
  pub lowest_transaction : (s : ℕ) → r.answer ≡ refused 11 s → (v : ℕ) → 1 ≤ v → v < s → still_active d.journal v ≡ false
  pub lowest_position : (k : ℕ) → r.answer ≡ refused 12 k → (i : ℕ) → i < k → unknown d.journal (get_or bad i 0) ≡ false
