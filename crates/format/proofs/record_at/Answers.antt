-- Each field stands where the layout has it.
use Rattle.std.proofs.Common.{ap, ◌∙◌}
use Rattle.format.specs.Layout.{record_at}
use Rattle.format.proofs.BytesLaws.{amount-bits}
use Rattle.format.proofs.LayoutLaws.{record_at-made}
use Rattle.format.proofs.record_at.Goals as goal

pub returns : goal.returns
returns c =
    rw (amount-bits {z = c.read-4.result} (record { sfits = c.read-4.type_inv }), amount-bits {z = c.read-5.result} (record { sfits = c.read-5.type_inv }))
    (record_at-made c.args.journal.now c.index-at.result c.read.ensures c.read-2.ensures c.read-3.ensures c.read-4.ensures c.read-5.ensures)
    ∙ ap (record_at c.args.journal.now) c.index-at.ensures
