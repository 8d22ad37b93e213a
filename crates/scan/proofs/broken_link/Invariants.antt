-- The slots hold the lowest later record of each transaction, and `low` the lowest record after record j whose next is wrong.
use Rattle.std.proofs.Common.{◌≡◌, ◌+◌, ◌-◌}
use Rattle.scan.specs.Chain.{nexts_of, lowest_broken}
use Rattle.scan.proofs.broken_link.Given as goal

abbrev pub invariant-loop-j : goal.invariant-loop-j
invariant-loop-j l =
    record {
      slots : l.slots ≡ nexts_of l.journal.bytes.now l.j;
      low : l.low.0 ≡ lowest_broken l.journal.bytes.now (l.j + 1) (l.journal.records - l.j);
    }
