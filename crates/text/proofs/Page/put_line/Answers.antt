-- The parts passed so far, the next, and the rest.
use Rattle.text.specs.Parts.{text_of}
use Rattle.text.proofs.PutsLaws.{writes-none, room-next, writes-next}
use Rattle.text.proofs.Page.put_line.Goals as goal

pub loop-part-init : goal.loop-part-init
loop-part-init c = writes-none _

pub put_part-requires : goal.put_part-requires
put_part-requires c = room-next text_of _ _ _ c.loop-part-test.true c.requires c.loop-part.invariant

pub loop-part-preserved : goal.loop-part-preserved
loop-part-preserved c = writes-next text_of _ _ _ c.loop-part-test.true c.requires c.loop-part.invariant c.put_part.ensures
