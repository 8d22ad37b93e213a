-- Each number in its place.
use Rattle.std.proofs.Common.{◌≢◌, ◌<◌, ◌/◌, length, arith, ap, get_or-set_other, get_or-set_same, below_more}
use Rattle.format.specs.Bytes.{entry}
use Rattle.decode.proofs.FilesLaws.{numbers-stored}
use Rattle.decode.proofs.read_all.Goals as goal

pub loop-i-preserved : goal.loop-i-preserved
unfolding entry
loop-i-preserved g c d =
    below_more _ _
    (λ k h. let ne : k ≢ c.loop-i.i = omega arith in rw get_or-set_other (c.loop-i.invariant d k h))
    (let lt : c.loop-i.i < length c.loop-i.x-items = omega arith in rw get_or-set_same (rw c.WIDTH-in-loop-i.ensures at c.read.ensures))

pub returns-clause-values : goal.returns-clause-values
returns-clause-values g c =
    numbers-stored _ g.T.Wire.WIDTH c.args.file.now _ c.loop-i.i c.loop-i.x-items c.args.list.now
    (ap (λ w. length c.args.file.now / w) c.WIDTH.ensures) (rw c.WIDTH.ensures c.requires) c.loop-i.auto.x-items
    c.loop-i-test.false c.loop-i.invariant
