use mathlib.Core.Path.{ap}
use borrow.Author.Rules.{rules}
use lib.ListN.{get_or}
use Rattle.rules.proofs.ReadersLaws.{walked_start, walked-long, walked-range, walked-less, walked_step, walked_end}
use Rattle.rules.proofs.readers.Goals as goal

pub loop-k-init : goal.loop-k-init
loop-k-init c = let q = ap (λ i. get_or c.args.touches.now.reads.now i 0) c.index.ensures in search walked_start

pub transaction_at-v-requires : goal.transaction_at-v-requires
transaction_at-v-requires c = search walked-long

pub look-all-requires : goal.look-all-requires
look-all-requires c = search walked-range

pub loop-k-smaller : goal.loop-k-smaller
loop-k-smaller c = search (walked-less, rules)

pub loop-k-preserved : goal.loop-k-preserved
loop-k-preserved c = let q = ap (λ i. get_or c.args.touches.now.links.now i 0) c.index-in-loop-k.ensures in search walked_step

pub returns : goal.returns
returns c = search walked_end
