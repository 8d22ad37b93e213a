use Rattle.arrays.proofs.WriterLaws.{code-read, looked-own, looked-other, looked-ended}
use Rattle.arrays.proofs.look.Goals as goal

pub returns-then-eq : goal.returns-then-eq
returns-then-eq g c = search looked-own

pub returns-then-code : goal.returns-then-code
returns-then-code g c =
    let q = code-read g.E.Code.code _ _ _ _ _ c.code.ensures c.index-ends-index.is c.index.ensures c.requires in
    search looked-other

pub returns-else-code : goal.returns-else-code
returns-else-code g c =
    let q = code-read g.E.Code.code _ _ _ _ _ c.code.ensures c.index-ends-index.is c.index.ensures c.requires in
    search looked-ended
