use mathlib.Core.Path.{◌∙◌, ap}
use borrow.Author.Rules.{rules}
use lib.ListN.{get_or}
use Rattle.arrays.proofs.WriterLaws.{last-long}
use Rattle.rules.proofs.AmountLaws.{base-long, last-ends, standing-after, standing-before}
use Rattle.rules.proofs.standing_at.Goals as goal

pub transaction_at-v-requires : goal.transaction_at-v-requires
transaction_at-v-requires c = search (last-long, rules)

pub bounds : goal.bounds
bounds c = search (last-ends, rules)

pub record_at-first-requires : goal.record_at-first-requires
record_at-first-requires c = search (base-long, rules)

pub record_at-last-requires : goal.record_at-last-requires
record_at-last-requires c = search (last-long, rules)

pub returns-in-Aborted : goal.returns-in-Aborted
returns-in-Aborted c =
    let q = ap (λ i. get_or c.args.amounts.now.writers.writes.now i 0) c.index.ensures in
    let t = c.index-2.ensures ∙ c.transaction_at-v.ensures in
    let p = ap (λ i. get_or c.args.amounts.now.bases.now i 0) c.index-in-Aborted.ensures in
    search (standing-before, rules)

pub returns-in-Open : goal.returns-in-Open
returns-in-Open c =
    let q = ap (λ i. get_or c.args.amounts.now.writers.writes.now i 0) c.index.ensures in
    let t = c.index-2.ensures ∙ c.transaction_at-v.ensures in
    search (standing-after, rules)
