-- The table left in one pass: each item's opening amount at its first write, then the after images of the kept writes. The pass
-- goes on from any table and any marks of the items written until then.
-- Assumes nothing.
use Rattle.std.specs.Prelude.{Bool, cond, List, ℕ, length, get_or, set}
use Rattle.lists.specs.Search.{any}
use Rattle.lists.specs.Tables.{tabulate, coded}
use Rattle.format.specs.Layout.{record_at}
use Rattle.format.specs.Limits.{max_items}
use Rattle.model.specs.History.{Op, History, Amount, read, write, commit, abort, other, write_to, initial}
use Rattle.model.specs.Undo.{replayed}
use Rattle.journal.specs.Journal.{op_of, amount_at}

-- a mark for each item that was written
unfoldable pub seen_of : History → List Bool
seen_of p = tabulate (λ x. any (write_to x) p) 0 max_items

-- the table after p, with the writes of the transactions of k
unfoldable pub left_after : (ℕ → Bool) → History → List Amount → List Amount
left_after k p t = tabulate (λ x. replayed k (initial (amount_at t x) p x) p x) 0 (length t)

-- ---- what one operation does, with marks of any kind

module _ {A : Type 0} (unmarked marked : A) (is_unmarked : A → Bool) where
  -- the opening amount of item x, if it was not written before
  unfoldable pub opened_at : List A → ℕ → Amount → List Amount → List Amount
  opened_at seen x b t = cond (is_unmarked (get_or seen x unmarked)) (set t x b) t

  -- a write of item x by s
  unfoldable pub table_write : List ℕ → List A → ℕ → ℕ → Amount → Amount → List Amount → List Amount
  table_write fates seen s x b a t = let o : List Amount = opened_at seen x b t in cond (coded 1 fates s) (set o x a) o

  unfoldable pub table_after : List ℕ → Op → List A → List Amount → List Amount
  table_after fates (read t s x) seen l = l
  table_after fates (write t s x b a) seen l = table_write fates seen s x b a l
  table_after fates (commit t s) seen l = l
  table_after fates (abort t s) seen l = l
  table_after fates (other t s) seen l = l

  unfoldable pub seen_after : Op → List A → List A
  seen_after (read t s x) seen = seen
  seen_after (write t s x b a) seen = set seen x marked
  seen_after (commit t s) seen = seen
  seen_after (abort t s) seen = seen
  seen_after (other t s) seen = seen

  -- what record i of a journal does to marks and table
  unfoldable pub replay_step : List ℕ → List ℕ → ℕ → List A × List Amount → List A × List Amount
  replay_step b fates i s = let r : Op = op_of i (record_at b i) in (seen_after r s.0, table_after fates r s.0 s.1)
