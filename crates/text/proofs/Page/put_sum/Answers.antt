-- The word, the digits behind it, and the end of the line.
use Rattle.text.proofs.LinesLaws.{flatten-labelled, flatten-one}
use Rattle.text.proofs.PutsLaws.{room-front, room-behind, writes-behind}
use Rattle.text.proofs.Page.put_sum.Goals as goal

pub put-requires : goal.put-requires
put-requires g c =
    let room = rw (flatten-labelled, flatten-one) at c.requires in
    room-front _ _ (room-behind _ _ room c.put_word.ensures)

pub put_word-requires-2 : goal.put_word-requires-2
put_word-requires-2 g c =
    let room = rw (flatten-labelled, flatten-one) at c.requires in
    room-behind _ _ (room-behind _ _ room c.put_word.ensures) c.put.ensures

pub returns : goal.returns
returns g c =
    let room = rw (flatten-labelled, flatten-one) at c.requires in
    let rest = room-behind _ _ room c.put_word.ensures in
    rw (flatten-labelled, flatten-one)
    (writes-behind _ _ room c.put_word.ensures (writes-behind _ _ rest c.put.ensures c.put_word-2.ensures))
