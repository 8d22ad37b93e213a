-- The decision, then the stores. The new record is the one that is asked for, with its amount read back from its bits.
use Rattle.append.proofs.Results.{from_bits, append-refused, append-admitted, append-done}
use Rattle.append.proofs.append.Goals as goal

pub returns-in-Err : goal.returns-in-Err
returns-in-Err c =
    let e = from_bits _ _ _ _ _ _ c.ranges.after c.new_record-r.ensures in
    append-refused _ _ _ _ _ _ _ e _ c.in-Err.ensures

pub enter-requires : goal.enter-requires
enter-requires c =
    let e = from_bits _ _ _ _ _ _ c.ranges.after c.new_record-r.ensures in
    append-admitted _ _ _ _ _ _ _ e _ c.in-Ok.ensures

pub returns-in-Ok : goal.returns-in-Ok
returns-in-Ok c =
    let e = from_bits _ _ _ _ _ _ c.ranges.after c.new_record-r.ensures in
    let q = c.enter.ensures in
    append-done _ _ _ _ _ _ _ e _ c.in-Ok.ensures _ _ _ q.0 q.1 q.2
