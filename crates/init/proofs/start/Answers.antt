-- The two refusals in their order, then the head stored in front.
use native.Mathlib.Omega.{arith}
use Rattle.std.proofs.Common.{ap, ◌∙◌}
use Rattle.format.specs.Layout.{bytes_of}
use Rattle.init.proofs.Orders.{start-truncated, start-items, started}
use Rattle.init.proofs.start.Goals as goal

pub returns-then-journal-lt-RECORD_BYTES : goal.returns-then-journal-lt-RECORD_BYTES
returns-then-journal-lt-RECORD_BYTES c =
    let s = start-truncated c.args.journal.now c.args.items (omega arith) in
    record { answer = s.0; journal = s.1 }

pub returns-then-items-lt1 : goal.returns-then-items-lt1
returns-then-items-lt1 c =
    let s = start-items c.args.journal.now c.args.items (omega arith) c.then-items-lt1.either in
    record { answer = s.0; journal = s.1 }

pub returns : goal.returns
returns c =
    let s = started c.args.journal.now c.args.items (omega arith) (omega arith) (omega arith) (c.put_record.ensures ∙ ap bytes_of c.head.ensures) in
    record { answer = s.0; journal = s.1 }
