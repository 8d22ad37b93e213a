use mathlib.Core.Path.{sym, ◌∙◌}
use borrow.Author.Rules.{rules}
use borrow.Author.Tests.{eqb-false}
use Rattle.scan.proofs.RecordLaws.{record-malformed, record-chain, record-rest}
use Rattle.scan.proofs.check_record.Goals as goal

pub returns-then-not-formed : goal.returns-then-not-formed
returns-then-not-formed c = search record-malformed

pub returns-then-eq : goal.returns-then-eq
returns-then-eq c = search (record-chain, rules)

pub returns : goal.returns
returns c =
    let z = eqb-false _ _ (sym c.eq.ensures ∙ c.if-eq.false) in
    let j = rw (c.seen.ensures.journal, c.seen.ensures.n) at c.judge.ensures in
    search record-rest
