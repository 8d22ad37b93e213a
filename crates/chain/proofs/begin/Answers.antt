-- The head, the records, then the array of first records.
use Rattle.std.proofs.lemmas.Result.{err_from_is_err_and}
use Rattle.fields.proofs.HeadLaws.{opened-count}
use Rattle.chain.proofs.Stages.{begin-refused, begin-records, begin-passed}
use Rattle.chain.proofs.begin.Goals as goal

pub returns-in_err-header : goal.returns-in_err-header
returns-in_err-header c =
    let p = err_from_is_err_and c.from_residual.result c.from_residual.ensures.1 in
    rw (p.1, p.2) (begin-refused _ _ _ _ c.in_err-header.ensures.answer)

pub returns-in_err-records : goal.returns-in_err-records
returns-in_err-records c =
    let p = err_from_is_err_and c.from_residual-in_err-records.result c.from_residual-in_err-records.ensures.1 in
    let h = c.in_ok-header.ensures in
    let e = rw (c.new-pass.ensures.journal, h.bytes) at c.in_err-records.ensures.answer in
    rw (p.1, p.2) (begin-records _ _ _ h.answer _ e)

pub returns : goal.returns
returns c =
    let h = c.in_ok-header.ensures in
    let j = c.new-pass.ensures.journal in
    let v = c.in_ok-records.ensures in
    let e = rw (j, h.bytes) at v.answer in
    let n = opened-count _ _ _ _ v.all j h.bytes in
    let p = c.records.new.pass in
    let k = rw (v.journal, j, h.bytes) at p.ready in
    let f = rw (v.journal, j, h.bytes) at p.state.begun in
    begin-passed _ _ _ h.answer p.n p.kept.firsts _ k n f e c.first_of.ensures
