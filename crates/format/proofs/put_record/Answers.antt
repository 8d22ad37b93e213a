-- Parts stored one after the other fill the 20 bytes.
use Rattle.std.proofs.Common.{rules, ap}
use Rattle.format.specs.Bytes.{bits}
use Rattle.format.proofs.BytesLaws.{amount-bits}
use Rattle.format.proofs.LayoutLaws.{bytes_of-stored}
use Rattle.format.proofs.put_record.Goals as goal

pub returns : goal.returns
returns c =
    bytes_of-stored c.args.r c.args.out.now (search rules) (search rules)
    (ap bits (amount-bits {z = c.args.r.before} (search rules))) (ap bits (amount-bits {z = c.args.r.after} (search rules)))
    c.requires c.write.ensures c.write-2.ensures c.write-3.ensures c.write-4.ensures c.write-5.ensures
