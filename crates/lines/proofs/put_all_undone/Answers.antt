-- The lines of the transactions below s, and its own.
use Rattle.std.proofs.Common.{◌≡◌, ◌+◌, ◌-◌, suc, arith}
use Rattle.lines.specs.AnswerLines.{undone_in}
use Rattle.lines.proofs.AnswerLinesLaws.{each-none, room-line, writes-line}
use Rattle.lines.proofs.put_all_undone.Goals as goal

pub loop-s-init : goal.loop-s-init
loop-s-init c = each-none _ 1 _

pub put_undone_in-requires-clause-room : goal.put_undone_in-requires-clause-room
put_undone_in-requires-clause-room c =
    let l = c.loop-s in room-line (undone_in c.args.status.now) 1 (l.s - 1) l.s 1024 (omega arith) (omega arith) c.requires.room l.invariant

pub loop-s-preserved : goal.loop-s-preserved
loop-s-preserved c =
    let l = c.loop-s in
    let e : l.s + 1 - 1 ≡ suc (l.s - 1) = omega arith in
    rw e (writes-line (undone_in c.args.status.now) 1 (l.s - 1) l.s 1024 (omega arith) (omega arith) c.requires.room l.invariant c.put_undone_in.ensures)
