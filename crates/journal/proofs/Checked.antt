-- What holds of each condition of a stage, from its conditions; and what check's order says where nothing in it holds: the head, each
-- record and each item, one by one.
-- Assumes nothing.
use mathlib.Core.Path.{◌≡◌}
use mathlib.Core.Bool.{Bool, false}
use mathlib.Core.List.{List}
use mathlib.Core.Option.{none}
use Prim.Native.Nat.{ℕ, zero, suc, pred, ◌+◌, ◌<◌, ◌≤◌}
use native.Mathlib.Omega.{arith}
use lib.ListN.{length, get_or}
use Rattle.format.specs.declared.Record.{Record}
use Rattle.format.specs.Layout.{record_at}
use Rattle.model.specs.History.{Op, History}
use Rattle.journal.specs.Inputs.{Inputs}
use Rattle.journal.specs.Journal.{count, items, op_of, history, whole}
use Rattle.journal.specs.Refusals.{RecordCounts, short, truncated, bad_head, wrong_table, malformed, wrong_next, terminated, conflicting, blind, mismatched, unsettled, absent, wrong_status, too_short, no_room, wrong_counts}
use Rattle.journal.specs.Orders.{Trial, trial, open_order, table_order, access_order, rule_order, record_order, records_order, settled_order, active_order, known_order, present_order, status_order, capacity_order, counts_order, new_order, sound_order, check_order, decide}
use Rattle.journal.proofs.Clear.{All, all-turns, all-try, all-tried, Clear, clear-turns, turns-clear, try-clear, clear-each, each-clear, tried-clear, decide-clear}

-- ---- each condition of a stage

module _ (P : Trial → Type 0) where
  pub open-all : (b : List ℕ) → P (trial 1 0 (short b)) → P (trial 2 0 (bad_head b)) → P (trial 1 0 (truncated b)) → All P (open_order b)
  unfolding open_order
  open-all b c1 c2 whole = all-turns P _ (all-try P 1 0 _ c1, (all-try P 2 0 _ c2, (all-try P 1 0 _ whole, tt)))

  pub access-all : (p : History) (i : ℕ) (o : Op) → P (trial 6 i (terminated p o)) → P (trial 7 i (conflicting p o)) → P (trial 8 i (blind p o)) → All P (access_order p i o)
  unfolding access_order
  access-all p i o c6 c7 c8 = all-turns P _ (all-try P 6 i _ c6, (all-try P 7 i _ c7, (all-try P 8 i _ c8, tt)))

  pub rule-all : (p : History) (i : ℕ) (o : Op) → All P (access_order p i o) → P (trial 9 i (mismatched p o)) → All P (rule_order p i o)
  unfolding rule_order
  rule-all p i o access c9 = all-turns P _ (access, (all-try P 9 i _ c9, tt))

  pub record-all : (b : List ℕ) (i : ℕ) → P (trial 4 i (malformed (items b) (record_at b i))) → P (trial 5 i (wrong_next b i))
      → All P (rule_order (history b (pred i)) i (op_of i (record_at b i))) → All P (record_order b i)
  unfolding record_order
  record-all b i c4 c5 rules = all-turns P _ (all-try P 4 i _ c4, (all-try P 5 i _ c5, (rules, tt)))

  pub new-all : (b : List ℕ) (r : Record) → P (trial 4 (suc (count b)) (malformed (items b) r)) → All P (access_order (whole b) (suc (count b)) (op_of (suc (count b)) r))
      → P (trial 14 0 (no_room b)) → All P (new_order b r)
  unfolding new_order
  new-all b r c4 access c14 = all-turns P _ (all-try P 4 _ _ c4, (access, (all-try P 14 0 _ c14, tt)))

  pub table-all : (d : Inputs) → P (trial 3 0 (wrong_table d.journal d.table)) → All P (table_order d)
  unfolding table_order
  table-all d c = all-try P 3 0 _ c

  pub settled-all : (d : Inputs) → ((x : ℕ) → x < items d.journal → P (trial 10 x (unsettled d.journal d.table x))) → All P (settled_order d)
  unfolding settled_order
  settled-all d c = all-tried P 10 _ _ _ (λ x l m. c x (omega arith))

  pub active-all : (f : ℕ → Bool) → ((s : ℕ) → 1 ≤ s → s ≤ 1024 → P (trial 11 s (f s))) → All P (active_order f)
  unfolding active_order
  active-all f c = all-tried P 11 _ _ _ (λ s l m. c s l (omega arith))

  pub known-all : (f : ℕ → Bool) (bad : List ℕ) → ((k : ℕ) → k < length bad → P (trial 12 k (f (get_or bad k 0)))) → All P (known_order f bad)
  unfolding known_order
  known-all f bad c = all-tried P 12 _ _ _ (λ k l m. c k (omega arith))

  pub present-all : (b : List ℕ) (s : ℕ) → P (trial 12 0 (absent b s)) → All P (present_order b s)
  unfolding present_order
  present-all b s c = all-try P 12 0 _ c

  pub status-all : (status : List ℕ) → P (trial 13 0 (wrong_status status)) → All P (status_order status)
  unfolding status_order
  status-all status c = all-try P 13 0 _ c

  pub capacity-all : {A : Type 0} (l : List A) (n : ℕ) → P (trial 14 0 (too_short l n)) → All P (capacity_order l n)
  unfolding capacity_order
  capacity-all l n c = all-try P 14 0 _ c

  pub counts-all : (b : List ℕ) (c : RecordCounts) → P (trial 15 0 (wrong_counts b c)) → All P (counts_order b c)
  unfolding counts_order
  counts-all b c p = all-try P 15 0 _ p

-- ---- nothing holds

-- no refusal of 6 to 8 for the operation o after the history p
pub record Follows (p : History) (o : Op) : Type 0 where
  pub not_terminated : terminated p o ≡ false
  pub not_conflicting : conflicting p o ≡ false
  pub not_blind : blind p o ≡ false

-- no refusal of 4 to 9 at record i, after the history p
pub record RecordRight (b : List ℕ) (i : ℕ) (p : History) : Type 0 where
  pub formed : malformed (items b) (record_at b i) ≡ false
  pub chained : wrong_next b i ≡ false
  pub follows : Follows p (op_of i (record_at b i))
  pub matched : mismatched p (op_of i (record_at b i)) ≡ false

-- no refusal of 1, 2 and 4 to 9
pub record Sound (b : List ℕ) : Type 0 where
  pub long : short b ≡ false
  pub head : bad_head b ≡ false
  pub full : truncated b ≡ false
  pub right : (i : ℕ) → i < count b → RecordRight b (suc i) (history b i)

-- no refusal of check
pub record Checks (d : Inputs) : Type 0 where
  pub sound : Sound d.journal
  pub table : wrong_table d.journal d.table ≡ false
  pub settled : (x : ℕ) → x < items d.journal → unsettled d.journal d.table x ≡ false

-- ---- 6 to 8, and the record

pub follows-clear : (p : History) (i : ℕ) (o : Op) → Follows p o → Clear (access_order p i o)
follows-clear p i o f = access-all _ p i o f.not_terminated f.not_conflicting f.not_blind

pub clear-follows : (p : History) (i : ℕ) (o : Op) → Clear (access_order p i o) → Follows p o
unfolding access_order
clear-follows p i o k =
    let (c6, (c7, (c8, end))) = turns-clear _ k in
    record { not_terminated = try-clear 6 _ _ c6; not_conflicting = try-clear 7 _ _ c7; not_blind = try-clear 8 _ _ c8 }

record-clear : (b : List ℕ) (i : ℕ) → RecordRight b (suc i) (history b i) → Clear (record_order b (suc i))
record-clear b i r = record-all _ b (suc i) r.formed r.chained (rule-all _ _ _ _ (follows-clear _ _ _ r.follows) r.matched)

pub clear-record : (b : List ℕ) (i : ℕ) → Clear (record_order b (suc i)) → RecordRight b (suc i) (history b i)
unfolding record_order rule_order
clear-record b i k =
    let (c4, (c5, (rules, end))) = turns-clear _ k in
    let (access, (c9, last)) = turns-clear _ rules in
    record { formed = try-clear 4 _ _ c4; chained = try-clear 5 _ _ c5; follows = clear-follows _ _ _ access; matched = try-clear 9 _ _ c9 }

pub records-clear : (b : List ℕ) → ((i : ℕ) → i < count b → RecordRight b (suc i) (history b i)) → Clear (records_order b)
unfolding records_order
records-clear b h = clear-each (record_order b) 1 (count b) (λ k l m. at k l m)
  where
    at : (k : ℕ) → 1 ≤ k → k < 1 + count b → Clear (record_order b k)
    at zero l m = absurd (omega arith)
    at (suc k) l m = record-clear b k (h k (omega arith))

-- ---- check

pub open-clear : (b : List ℕ) → short b ≡ false → bad_head b ≡ false → truncated b ≡ false → Clear (open_order b)
open-clear b l h w = open-all _ b l h w

pub clear-opens : (b : List ℕ) → Clear (open_order b) → (short b ≡ false) × (bad_head b ≡ false) × (truncated b ≡ false)
unfolding open_order
clear-opens b k = let (c1, (c2, (whole, end))) = turns-clear _ k in (try-clear 1 _ _ c1, try-clear 2 _ _ c2, try-clear 1 _ _ whole)

pub clear-sound : (b : List ℕ) → Clear (open_order b) → Clear (records_order b) → Sound b
unfolding records_order
clear-sound b c d =
    let (l, h, w) = clear-opens b c in
    record {
      long = l;
      head = h;
      full = w;
      right = λ i h. clear-record b i (each-clear (record_order b) 1 (count b) d (suc i) (omega arith) (omega arith));
    }

pub decide-sound : (b : List ℕ) → decide (sound_order b) ≡ none → Sound b
unfolding sound_order
decide-sound b e = let (opens, (records, end)) = turns-clear _ (decide-clear _ e) in clear-sound b opens records

pub checks-clear : (d : Inputs) → Checks d → Clear (check_order d)
unfolding check_order
checks-clear d k =
    clear-turns _ (
      open-clear d.journal k.sound.long k.sound.head k.sound.full,
      (table-all _ d k.table, (records-clear d.journal k.sound.right, (settled-all _ d k.settled, tt))),
    )

pub clear-checks : (d : Inputs) → Clear (check_order d) → Checks d
unfolding check_order table_order settled_order
clear-checks d k =
    let (opens, (c3, (records, (c10, end)))) = turns-clear _ k in
    record { sound = clear-sound d.journal opens records; table = try-clear 3 _ _ c3; settled = λ x h. tried-clear 10 _ _ _ c10 x (omega arith) (omega arith) }
