-- The size of the copy: 20 bytes for the head and for each record, no more than the journal's.
-- Assumes nothing.
use mathlib.Core.Path.{◌≡◌}
use mathlib.Core.List.{List}
use Prim.Native.Nat.{ℕ, ◌+◌, ◌*◌, ◌≤◌}
use lib.ListN.{length}
use Rattle.model.specs.Undo.{is_source, surviving}
use Rattle.journal.specs.Journal.{count, whole}
use Rattle.journal.specs.Copy.{unchanged, copy_records, copy}
use Rattle.journal.proofs.ResultsLaws.{copy_surviving-length, copy_surviving-most}

module _ (bad b : List ℕ) where
  pub copy-length : length (copy bad b) ≡ 20 * (length (copy_records bad b) + 1)
  unfolding copy copy_records
  copy-length = copy_surviving-length unchanged (surviving is_source bad (whole b)) b

  pub copy-most : length (copy bad b) ≤ 20 * (count b + 1)
  unfolding copy
  copy-most = copy_surviving-most unchanged (surviving is_source bad (whole b)) b
