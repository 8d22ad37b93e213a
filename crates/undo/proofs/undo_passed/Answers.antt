-- 13 and 12 decide before the rest; the fates are the list's, and what they deliver is take-back's result.
use Rattle.std.proofs.Common.{refl, sym}
use Rattle.std.proofs.lemmas.Result.{err_from_is_err_and}
use Rattle.undo.proofs.ResultLaws.{examined, result-admit, result-given, result-delivered}
use Rattle.undo.proofs.undo_passed.Goals as goal

pub returns-in_err-admit : goal.returns-in_err-admit
returns-in_err-admit c =
    let p = err_from_is_err_and c.from_residual.result c.from_residual.ensures.1 in
    rw (p.1, p.2) (result-admit _ _ _ _ _ _ _ (examined _ c.args.passed.now refl c.requires) _ c.in_err-admit.ensures)

pub deliver-requires : goal.deliver-requires
deliver-requires c = result-given _ _ _ c.args.out.now _ _ _ (examined _ c.args.passed.now refl c.requires) (sym c.in_ok-admit.ensures)

pub returns : goal.returns
returns c =
    let d = c.deliver.ensures in
    result-delivered _ _ _ _ _ _ _ (examined _ c.args.passed.now refl c.requires) (sym c.in_ok-admit.ensures) _ c.classify-fates.ensures _ _ _ _ (d.answer, (d.table, (d.status, d.out)))
