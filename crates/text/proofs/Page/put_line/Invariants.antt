use Rattle.std.proofs.Common.{take}
use Rattle.text.specs.Pages.{Writes}
use Rattle.text.specs.Parts.{texts_of}
use Rattle.text.proofs.Page.put_line.Given as goal

abbrev pub invariant-loop-part : goal.invariant-loop-part
invariant-loop-part l = Writes l.initial.self (texts_of (take l.part-index l.parts)) l.self
