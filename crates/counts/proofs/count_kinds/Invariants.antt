-- After i records the counts are those of the first i.
use Rattle.std.proofs.Common.{◌≡◌}
use Rattle.journal.specs.Journal.{history}
use Rattle.journal.specs.Refusals.{counts_by_kind}
use Rattle.counts.specs.Answers.{record_counts_of}
use Rattle.counts.proofs.count_kinds.Given as goal

abbrev pub invariant-loop-i : goal.invariant-loop-i
invariant-loop-i l = record_counts_of l.counts ≡ counts_by_kind (history l.journal l.i)
