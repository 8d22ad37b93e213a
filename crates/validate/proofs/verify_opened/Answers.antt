use Rattle.std.proofs.lemmas.Result.{err_from_is_err_and}
use Rattle.validate.proofs.Whole.{tabled_refused, final_decides}
use Rattle.validate.proofs.verify_opened.Goals as goal

pub returns-in_err-verify_records-clause-answer : goal.returns-in_err-verify_records-clause-answer
returns-in_err-verify_records-clause-answer c =
    let p = err_from_is_err_and c.from_residual.result c.from_residual.ensures.1 in
    let e = c.in_err-verify_records.ensures.answer in
    rw (p.1, p.2) (search tabled_refused)

pub returns-clause-answer : goal.returns-clause-answer
returns-clause-answer c =
    let v = c.in_ok-verify_records.ensures in
    let e = v.answer in
    let f = rw (c.amounts.ensures.writers, c.seen.ensures.journal, v.journal) at c.final_state.ensures in
    search final_decides
