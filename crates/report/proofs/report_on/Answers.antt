-- What is printed is by what take-back answered and left.
use Rattle.journal.specs.Calls.{UndoResult}
use Rattle.certified.specs.Packed.{undone_of}
use Rattle.report.proofs.SumLaws.{printed-sum}
use Rattle.report.proofs.ReportLaws.{reported-fits, reported-put}
use Rattle.report.proofs.report_on.Goals as goal

pub put_answer-requires : goal.put_answer-requires
put_answer-requires c =
    let a = c.undo-answer in
    let u : UndoResult = undone_of a.result a.new.table a.new.status a.new.out in
    let kept = rw c.requires.same at a.ensures.demands in
    let sum = printed-sum _ _ _ _ {u = u} kept c.net_in.type_inv c.net_in.ensures.0 in
    reported-fits _ _ _ _ {u = u} kept _ c.count_in.ensures _ sum c.requires.room

pub returns : goal.returns
returns c =
    let a = c.undo-answer in
    let u : UndoResult = undone_of a.result a.new.table a.new.status a.new.out in
    let kept = rw c.requires.same at a.ensures.demands in
    let sum = printed-sum _ _ _ _ {u = u} kept c.net_in.type_inv c.net_in.ensures.0 in
    let result = rw c.requires.same at a.ensures.result in
    let printed = reported-put _ _ _ _ {u = u} kept _ c.count_in.ensures _ sum result c.put_answer.ensures in
    record { text = printed.0; demands = printed.1 }
