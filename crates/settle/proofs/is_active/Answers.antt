use mathlib.Core.Path.{ap}
use lib.ListN.{get_or}
use Rattle.arrays.proofs.WriterLaws.{code-read}
use Rattle.settle.proofs.Final.{active-in}
use Rattle.settle.proofs.is_active.Goals as goal

pub returns : goal.returns
returns g c =
    let p = ap (λ i. get_or c.args.firsts.now i 0) c.index-at.ensures in
    let q = code-read g.E.Code.code _ _ _ _ _ c.code.ensures c.index-ends-at.is c.index-at.ensures c.requires.0 in
    search active-in
