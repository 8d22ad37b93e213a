-- std's sum of the bytes.
use Rattle.std.proofs.Common.{◌∙◌}
use Rattle.format.proofs.BytesLaws.{summed}
use Rattle.format.proofs.U16Wire.read.Goals as goal

pub returns : goal.returns
returns c = c.from_le_bytes.ensures ∙ summed c.args.s.now c.args.at 1
