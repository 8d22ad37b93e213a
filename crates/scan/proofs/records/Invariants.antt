-- The first n records passed, and what is left decides.
use Rattle.std.proofs.Common.{◌≡◌, ◌+◌, ◌-◌}
use Rattle.lists.specs.Tables.{each}
use Rattle.journal.specs.Orders.{decide, record_order, records_order}
use Rattle.scan.proofs.records.Given as goal

abbrev pub invariant-loop-n : goal.invariant-loop-n
invariant-loop-n l =
    let b = l.journal.bytes.now in
    record {
      n : l.pass.n ≡ l.n;
      journal : l.pass.journal ≡ l.journal;
      left : decide (records_order b) ≡ decide (each (record_order b) (l.n + 1) (l.journal.records - l.n));
    }
