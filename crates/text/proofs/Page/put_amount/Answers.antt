-- By the test whether it is below zero.
use Rattle.text.proofs.DecimalLaws.{decimal_z-below, decimal_z-plain}
use Rattle.text.proofs.PutsLaws.{room-front, room-behind, writes-behind}
use Rattle.text.proofs.Page.put_amount.Goals as goal

pub put_word-requires : goal.put_word-requires
put_word-requires c = room-front _ _ (rw (decimal_z-below _ c.ranges.x _ c.unsigned_abs-size.ensures.value c.if-x-lt0.true) at c.requires)

pub put_number-requires : goal.put_number-requires
put_number-requires c =
    room-behind _ _ (rw (decimal_z-below _ c.ranges.x _ c.unsigned_abs-size.ensures.value c.if-x-lt0.true) at c.requires) c.put_word.ensures

pub put_number-requires-else-x-lt0 : goal.put_number-requires-else-x-lt0
put_number-requires-else-x-lt0 c = rw (decimal_z-plain _ c.ranges.x _ c.unsigned_abs-size.ensures.value c.if-x-lt0.false) at c.requires

pub returns-then-x-lt0 : goal.returns-then-x-lt0
returns-then-x-lt0 c =
    let e = decimal_z-below _ c.ranges.x _ c.unsigned_abs-size.ensures.value c.if-x-lt0.true in
    rw e (writes-behind _ _ (rw e at c.requires) c.put_word.ensures c.put_number.ensures)

pub returns-else-x-lt0 : goal.returns-else-x-lt0
returns-else-x-lt0 c = rw (decimal_z-plain _ c.ranges.x _ c.unsigned_abs-size.ensures.value c.if-x-lt0.false) c.put_number-else-x-lt0.ensures
