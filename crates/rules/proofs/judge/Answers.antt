use borrow.Author.Rules.{rules}
use Rattle.std.proofs.lemmas.Result.{err_from_is_err_and}
use Rattle.arrays.proofs.ArraysLaws.{item-write}
use mathlib.Core.Path.{◌≡◌}
use Rattle.rules.proofs.RuleLaws.{access_refused, stands-write, differs-write, stands-other}
use Rattle.rules.proofs.judge.Goals as goal

pub returns-in_err-judge_access : goal.returns-in_err-judge_access
returns-in_err-judge_access c =
    let p = err_from_is_err_and c.from_residual.result c.from_residual.ensures.1 in
    rw (p.1, p.2) (access_refused _ _ c.args.r _ c.in_err-judge_access.ensures)

pub matches_standing-requires : goal.matches_standing-requires
matches_standing-requires c =
    item-write _ _ c.args.r c.args.seen.now.touches.writers.ready c.requires (search rules)

pub returns-then-matches_standing : goal.returns-then-matches_standing
returns-then-matches_standing c = let k : c.args.r.kind ≡ 2 = search rules in search (stands-write, rules)

pub returns-else-matches_standing : goal.returns-else-matches_standing
returns-else-matches_standing c = let k : c.args.r.kind ≡ 2 = search rules in search (differs-write, rules)

pub returns-in_default : goal.returns-in_default
returns-in_default c = search (stands-other, rules)

pub returns-in_default-2 : goal.returns-in_default-2
returns-in_default-2 c = search (stands-other, rules)
