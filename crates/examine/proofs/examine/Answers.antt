-- The head, then check's other refusals, then 11.
use mathlib.Core.Path.{◌∙◌, ap}
use Rattle.std.proofs.lemmas.Result.{err_from_is_err_and}
use Rattle.journal.proofs.Answered.{accepted-only}
use Rattle.fields.proofs.HeadLaws.{opened-count}
use Rattle.fields.specs.Heads.{size}
use Rattle.validate.proofs.Whole.{head_refused, verified_decides}
use Rattle.examine.proofs.Examining.{refused_by, sized_by, examined_early, examined_late}
use Rattle.examine.proofs.examine.Goals as goal

pub returns-in_err-header-clause-answer : goal.returns-in_err-header-clause-answer
returns-in_err-header-clause-answer c =
    let p = err_from_is_err_and c.from_residual.result c.from_residual.ensures.1 in
    rw (p.1, p.2) (refused_by _ _ _ (examined_early _ _ (head_refused _ _ c.in_err-header.ensures.answer)))

pub returns-in_err-verify_opened-clause-answer : goal.returns-in_err-verify_opened-clause-answer
returns-in_err-verify_opened-clause-answer c =
    let p = err_from_is_err_and c.from_residual-in_err-verify_opened.result c.from_residual-in_err-verify_opened.ensures.1 in
    let h = c.in_ok-header.ensures in
    let e = rw (c.new-pass.ensures.journal, h.bytes) at c.in_err-verify_opened.ensures.answer in
    rw (p.1, p.2) (refused_by _ _ _ (examined_early _ _ (verified_decides _ _ _ h.answer e)))

pub returns-clause-answer : goal.returns-clause-answer
returns-clause-answer c =
    let h = c.in_ok-header.ensures in
    let j = c.new-pass.ensures.journal in
    let v = c.in_ok-verify_opened.ensures in
    let e = rw (j, h.bytes) at v.answer in
    let n = opened-count _ _ _ _ v.all j h.bytes in
    let a = rw (v.journal, j, h.bytes) at c.closed.ensures.answer in
    sized_by _ _ c.closed.result _ (examined_late _ _ _ (verified_decides _ _ _ h.answer e) n a) c.closed.ensures.journal
    (ap size (v.journal ∙ j) ∙ (accepted-only _ _ _ h.answer).1)
