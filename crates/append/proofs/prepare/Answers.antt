-- The head, check's other refusals, then rule 15 and the new record.
use mathlib.Core.Path.{sym, ◌∙◌, ap}
use Rattle.std.proofs.lemmas.Result.{err_from_is_err_and}
use Rattle.counts.specs.Answers.{record_counts_of}
use Rattle.fields.proofs.HeadLaws.{opened-count}
use Rattle.validate.proofs.Whole.{head_refused, verified_decides}
use Rattle.append.proofs.Planning.{plan-refused, plan-barred, plan-entered}
use Rattle.append.proofs.prepare.Goals as goal

pub returns-in_err-header : goal.returns-in_err-header
returns-in_err-header c =
    let p = err_from_is_err_and c.from_residual.result c.from_residual.ensures.1 in
    rw (p.1, p.2) (plan-refused _ (record_counts_of c.args.counts) c.args.r _ (head_refused _ _ c.in_err-header.ensures.answer))

pub returns-in_err-verify_opened : goal.returns-in_err-verify_opened
returns-in_err-verify_opened c =
    let p = err_from_is_err_and c.from_residual-in_err-verify_opened.result c.from_residual-in_err-verify_opened.ensures.1 in
    let h = c.in_ok-header.ensures in
    let e = rw (c.new-pass.ensures.journal, h.bytes) at c.in_err-verify_opened.ensures.answer in
    rw (p.1, p.2) (plan-refused _ (record_counts_of c.args.counts) c.args.r _ (verified_decides _ _ _ h.answer e))

pub judge_entry-requires : goal.judge_entry-requires
judge_entry-requires c =
    let v = c.in_ok-verify_opened.ensures in
    let p = c.verify_opened.new.pass in
    rw (c.seen.ensures.n, c.seen.ensures.journal) (v.all ∙ ap (λ j. j.records) (sym v.journal) ∙ p.journal.opened.counted, p.journal.opened.keys)

pub returns-in_err-judge_entry : goal.returns-in_err-judge_entry
returns-in_err-judge_entry c =
    let p = err_from_is_err_and c.from_residual-in_err-judge_entry.result c.from_residual-in_err-judge_entry.ensures.1 in
    let h = c.in_ok-header.ensures in
    let j = c.new-pass.ensures.journal in
    let v = c.in_ok-verify_opened.ensures in
    let e = rw (j, h.bytes) at v.answer in
    let f = rw (c.seen.ensures.journal, v.journal, j, h.bytes) at c.in_err-judge_entry.ensures in
    rw (p.1, p.2) (plan-barred _ _ _ (verified_decides _ _ _ h.answer e) _ f)

pub returns : goal.returns
returns c =
    let h = c.in_ok-header.ensures in
    let j = c.new-pass.ensures.journal in
    let v = c.in_ok-verify_opened.ensures in
    let e = rw (j, h.bytes) at v.answer in
    let n = opened-count _ _ _ _ v.all j h.bytes in
    let f = rw (c.seen.ensures.journal, v.journal, j, h.bytes) at c.in_ok-judge_entry.ensures in
    plan-entered _ _ _ (verified_decides _ _ _ h.answer e) _ n f
