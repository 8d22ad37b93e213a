-- The equation is that of `undo::undo`, and the definition keeps the promise.
use Rattle.format.proofs.BytesLaws.{Bytes-getD}
use Rattle.journal.specs.Inputs.{inputs_of}
use Rattle.certified.proofs.UndoLaws.{undo-certified}
use Rattle.certified.proofs.undo.Goals as goal

pub returns-clause-demands : goal.returns-clause-demands
returns-clause-demands c =
    let u = c.undo.ensures in
    undo-certified (inputs_of c.args.journal.now c.args.table.now) c.args.bad.now c.args.status.now c.args.out.now
    (Bytes-getD _ (λ i. (c.type_inv.journal i).fits)) u.answer u.table u.status u.out
