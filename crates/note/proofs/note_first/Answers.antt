use Rattle.note.proofs.NoteLaws.{put_first, put-later}
use Rattle.note.proofs.note_first.Goals as goal

pub returns-then-firsts-at-eq0 : goal.returns-then-firsts-at-eq0
returns-then-firsts-at-eq0 c = rw (← c.index-at.ensures) (search put_first)

pub returns-else-firsts-at-eq0 : goal.returns-else-firsts-at-eq0
returns-else-firsts-at-eq0 c = rw (← c.index-at.ensures) (search put-later)
