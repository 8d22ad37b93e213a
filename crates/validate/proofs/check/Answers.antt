use mathlib.Core.Path.{◌∙◌}
use Rattle.std.proofs.lemmas.Result.{err_from_is_err_and}
use Rattle.fields.proofs.HeadLaws.{opened-count}
use Rattle.settle.proofs.Final.{active-number}
use Rattle.validate.proofs.Whole.{head_refused, verified_decides, check_refused, check_accepted}
use Rattle.validate.proofs.check.Goals as goal

pub returns-in_err-header : goal.returns-in_err-header
returns-in_err-header c =
    let p = err_from_is_err_and c.from_residual.result c.from_residual.ensures.1 in
    let e = c.in_err-header.ensures.answer in
    rw (p.1, p.2) (check_refused _ _ (head_refused _ _ e))

pub returns-in-Err : goal.returns-in-Err
returns-in-Err c =
    let h = c.in_ok-header.ensures in
    let e = rw (c.new-pass.ensures.journal, h.bytes) at c.in-Err.ensures.answer in
    check_refused _ _ (verified_decides _ _ _ h.answer e)

pub returns-in-Ok : goal.returns-in-Ok
returns-in-Ok c =
    let h = c.in_ok-header.ensures in
    let j = c.new-pass.ensures.journal in
    let v = c.in-Ok.ensures in
    let e = rw (j, h.bytes) at v.answer in
    let n = opened-count _ _ _ _ v.all j h.bytes in
    let p = c.verify_opened.new.pass in
    let a = c.active_count.ensures ∙ active-number p.journal.bytes.now p.n p.kept.ends p.kept.firsts p.state.ended p.state.begun in
    check_accepted _ _ _ (verified_decides _ _ _ h.answer e) n (rw (v.journal, j, h.bytes) at a)
