-- The record numbers so far are the front of the list.
use Rattle.std.proofs.Common.{◌∙◌}
use Rattle.chain.proofs.Steps.{written-left, written-set, written_all}
use Rattle.chain.proofs.follow.Goals as goal

pub loop-k-preserved : goal.loop-k-preserved
loop-k-preserved c =
    let s = c.in-Some.ensures.steps in
    let e = c.loop-k.invariant.left ∙ s.0 in
    record {
      left = rw s.2 (written-left _ _ c.requires _ _ _ e);
      written = rw (s.1, s.2, c.loop-k.invariant.written) (written-set _ _ c.requires _ _ _ e);
    }

pub returns : goal.returns
returns c = c.loop-k.invariant.written ∙ written_all _ _ c.requires _ (c.loop-k.invariant.left ∙ c.in-None.ensures.steps.0.0)
