use borrow.Author.Rules.{rules}
use Rattle.arrays.proofs.WriterLaws.{last-long, last-range, last-nobody, last-looked}
use Rattle.arrays.proofs.last_writer.Goals as goal

pub returns-then-w-eq0 : goal.returns-then-w-eq0
returns-then-w-eq0 c = search (last-nobody, rules)

pub transaction_at-v-requires : goal.transaction_at-v-requires
transaction_at-v-requires c = search (last-long, rules)

pub look-requires : goal.look-requires
look-requires c = search (last-range, rules)

pub returns : goal.returns
returns c = search (last-looked, rules)
