-- The lines behind those that stand there.
use Rattle.lines.specs.AnswerLines.{lines}
use Rattle.lines.specs.Counting.{records_in}
use Rattle.text.proofs.PutsLaws.{room-first, room-rest, writes-rest, writes-last}
use Rattle.lines.proofs.Report.put_accepted.Goals as goal

pub put_counts-requires : goal.put_counts-requires
unfolding lines records_in
put_counts-requires g c = rw c.copied_records.ensures (room-first _ _ _ c.requires)

pub put_all_undone-requires-clause-room : goal.put_all_undone-requires-clause-room
unfolding lines records_in
put_all_undone-requires-clause-room g c =
    let first = rw c.copied_records.ensures at c.put_counts.ensures in
    room-first _ _ _ (room-rest _ _ _ _ first c.requires)

pub put_changes-requires-clause-room : goal.put_changes-requires-clause-room
unfolding lines records_in
put_changes-requires-clause-room g c =
    let first = rw c.copied_records.ensures at c.put_counts.ensures in
    room-first _ _ _ (room-rest _ _ _ _ c.put_all_undone.ensures (room-rest _ _ _ _ first c.requires))

pub put_sum-requires : goal.put_sum-requires
unfolding lines records_in
put_sum-requires g c =
    let first = rw c.copied_records.ensures at c.put_counts.ensures in
    room-first _ _ _ (room-rest _ _ _ _ c.put_changes.ensures (room-rest _ _ _ _ c.put_all_undone.ensures (room-rest _ _ _ _ first c.requires)))

pub put_end-requires : goal.put_end-requires
unfolding lines records_in
put_end-requires g c =
    let first = rw c.copied_records.ensures at c.put_counts.ensures in
    rw (c.from.ensures, c.from-2.ensures, c.from-3.ensures)
    (room-first _ _ _
    (room-rest _ _ _ _ c.put_sum.ensures (room-rest _ _ _ _ c.put_changes.ensures (room-rest _ _ _ _ c.put_all_undone.ensures (room-rest _ _ _ _ first c.requires)))))

pub returns : goal.returns
unfolding lines records_in
returns g c =
    let first = rw c.copied_records.ensures at c.put_counts.ensures in
    let last = rw (c.from.ensures, c.from-2.ensures, c.from-3.ensures) at c.put_end.ensures in
    let behind_counts = room-rest _ _ _ _ first c.requires in
    let behind_undone = room-rest _ _ _ _ c.put_all_undone.ensures behind_counts in
    let behind_changes = room-rest _ _ _ _ c.put_changes.ensures behind_undone in
    writes-rest _ _ _ _ _ c.requires first
    (writes-rest _ _ _ _ _ behind_counts c.put_all_undone.ensures
    (writes-rest _ _ _ _ _ behind_undone c.put_changes.ensures (writes-rest _ _ _ _ _ behind_changes c.put_sum.ensures (writes-last _ _ _ last))))
