-- One rank more a turn.
use Rattle.std.proofs.Common.{refl, arith, rules}
use Rattle.std.proofs.lemmas.List.Edits.{fill_by_more}
use Rattle.repair.proofs.RankLaws.{rank-start, ranks-start, rank-more, rank-at-most}
use Rattle.repair.proofs.ranks.Goals as goal

pub loop-i-init : goal.loop-i-init
loop-i-init g c = record { counted = rank-start _ _; size = refl; at = ranks-start _ _ }

pub next_rank-surviving-requires-clause-few : goal.next_rank-surviving-requires-clause-few
next_rank-surviving-requires-clause-few g c = let few = rank-at-most _ _ _ _ c.loop-i.invariant.counted in omega arith

pub loop-i-preserved : goal.loop-i-preserved
loop-i-preserved g c =
    let more = rank-more _ _ _ _ _ c.loop-i.invariant.counted c.next_rank-surviving.ensures in
    record { counted = more; size = search rules; at = λ k m. rw more (fill_by_more _ _ _ 0 (omega arith) (λ j q. c.loop-i.invariant.at j (omega arith)) k (omega arith)) }
