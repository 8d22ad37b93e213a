-- The net change, record by record.
-- Assumes nothing.
use mathlib.Core.Path.{◌≡◌}
use mathlib.Core.List.{List}
use Prim.Native.Nat.{ℕ, ◌+◌}
use native.Mathlib.Numerals.{add-one}
use lib.IntN.{ℤ, pos}
use Rattle.std.proofs.lemmas.Int.{ints, to_z-of_z}
use Rattle.format.specs.Layout.{record_at}
use Rattle.model.specs.Net.{net_with, net_change}
use Rattle.journal.specs.Journal.{op_of, history}
use Rattle.journal.proofs.Records.{history-zero, history-suc}

module _ (b : List ℕ) where
  pub net-none : net_change (history b 0) ≡ pos 0
  unfolding net_change
  net-none = rw (history-zero b)

  -- n after i records, m after one more
  pub net-more : (i : ℕ) (n m : ℤ) → n ≡ net_change (history b i) → m ≡ net_with (op_of (i + 1) (record_at b (i + 1))) n → net_change (history b (i + 1)) ≡ m
  unfolding net_change
  net-more i n m e q = rw (q, e, add-one, history-suc b i)

pub ruleset one_more = (ints, to_z-of_z, net-none, net-more)
