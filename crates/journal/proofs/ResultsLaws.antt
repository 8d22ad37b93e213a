-- The result of any set of kept transactions: its sizes.
-- Assumes nothing.
use mathlib.Core.Path.{◌≡◌}
use mathlib.Core.Bool.{Bool}
use mathlib.Core.List.{List}
use Prim.Native.Nat.{ℕ, ◌+◌, ◌*◌, ◌≤◌}
use native.Mathlib.Omega.{arith}
use lib.ListN.{length}
use Rattle.lists.proofs.TablesLaws.{length-tabulate}
use Rattle.model.specs.Undo.{only, renumber}
use Rattle.journal.specs.Journal.{count, items, records, whole}
use Rattle.journal.specs.Copy.{CopyRule, records_surviving, copy_surviving}
use Rattle.journal.specs.Results.{status_vector}
use Rattle.journal.proofs.Records.{length-copied_by, length-records}
use Rattle.journal.proofs.Encoded.{length-journal_of}

module _ (φ : CopyRule) (k : ℕ → Bool) (b : List ℕ) where
  -- the copy has no more records than the journal
  pub records_surviving-few : length (records_surviving φ k b) ≤ count b
  unfolding records_surviving
  records_surviving-few =
      let l = length-copied_by φ k (renumber (only k (whole b))) (records b (count b)) in omega (arith, length-records b (count b))

  pub copy_surviving-length : length (copy_surviving φ k b) ≡ 20 * (length (records_surviving φ k b) + 1)
  unfolding copy_surviving
  copy_surviving-length = length-journal_of (items b) (records_surviving φ k b)

  pub copy_surviving-most : length (copy_surviving φ k b) ≤ 20 * (count b + 1)
  copy_surviving-most = omega (arith, records_surviving-few, copy_surviving-length)

pub length-status_vector : (u k : ℕ → Bool) → length (status_vector u k) ≡ 1025
unfolding status_vector
length-status_vector u k = length-tabulate _ 0 1025
