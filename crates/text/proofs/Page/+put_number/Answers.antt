-- The digits in front are those of a tenth, which is less.
use Rattle.std.proofs.Common.{arith}
use Rattle.text.proofs.DecimalLaws.{decimal-few, decimal-many}
use Rattle.text.proofs.PutsLaws.{room-front, room-behind, writes-behind}
use Rattle.text.proofs.Page.+put_number.Goals as goal

pub put_digit-requires-clause-room : goal.put_digit-requires-clause-room
put_digit-requires-clause-room t c = rw (decimal-few _ c.if-x-lt10.true) at c.requires

pub put_number-requires : goal.put_number-requires
put_number-requires t c =
    (omega (arith, c.decreases), room-front _ _ (rw (decimal-many _ c.if-x-lt10.false c.ranges.x.fits) at c.requires))

pub put_digit-requires-else-x-lt10-clause-room : goal.put_digit-requires-else-x-lt10-clause-room
put_digit-requires-else-x-lt10-clause-room t c =
    room-behind _ _ (rw (decimal-many _ c.if-x-lt10.false c.ranges.x.fits) at c.requires) c.put_number.ensures

pub returns-then-x-lt10 : goal.returns-then-x-lt10
returns-then-x-lt10 t c = rw (decimal-few _ c.if-x-lt10.true) c.put_digit.ensures

pub returns-else-x-lt10 : goal.returns-else-x-lt10
returns-else-x-lt10 t c =
    rw (decimal-many _ c.if-x-lt10.false c.ranges.x.fits)
    (writes-behind _ _ (rw (decimal-many _ c.if-x-lt10.false c.ranges.x.fits) at c.requires) c.put_number.ensures c.put_digit-else-x-lt10.ensures)
