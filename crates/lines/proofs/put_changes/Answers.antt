-- The lines of the items below x, and its own.
use Rattle.std.proofs.Common.{length, w32, FitsSigned, rules, arith, add-one}
use Rattle.std.proofs.lemmas.Int.{to_z-of_z}
use Rattle.journal.specs.Journal.{amount_at}
use Rattle.lines.specs.AnswerLines.{change_in}
use Rattle.lines.proofs.AnswerLinesLaws.{each-none, room-line, writes-line}
use Rattle.lines.proofs.put_changes.Goals as goal

pub loop-x-init : goal.loop-x-init
loop-x-init c = each-none _ 0 _

pub put_change_of-requires : goal.put_change_of-requires
put_change_of-requires c =
    let l = c.loop-x in
    let f : FitsSigned w32 (amount_at c.args.old.now l.x) = search rules in
    let g : FitsSigned w32 (amount_at c.args.new.now l.x) = search rules in
    rw (to_z-of_z w32 _ f, to_z-of_z w32 _ g)
    (room-line (change_in c.args.old.now c.args.new.now) 0 l.x l.x (length c.args.old.now) (omega arith) (omega arith) c.requires.room l.invariant)

pub loop-x-preserved : goal.loop-x-preserved
loop-x-preserved c =
    let l = c.loop-x in
    let f : FitsSigned w32 (amount_at c.args.old.now l.x) = search rules in
    let g : FitsSigned w32 (amount_at c.args.new.now l.x) = search rules in
    rw add-one
    (writes-line (change_in c.args.old.now c.args.new.now) 0 l.x l.x (length c.args.old.now) (omega arith) (omega arith) c.requires.room l.invariant (rw (to_z-of_z w32 _ f, to_z-of_z w32 _ g) at c.put_change_of.ensures))
