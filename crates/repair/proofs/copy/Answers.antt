-- The head is stored in front, and the records behind it.
use Rattle.std.proofs.Common.{ap, ◌∙◌}
use Rattle.format.specs.Layout.{bytes_of}
use Rattle.repair.proofs.CopyLaws.{copied_all}
use Rattle.repair.proofs.copy.Goals as goal

pub returns : goal.returns
returns g c = copied_all _ _ _ _ _ _ _ _ _ c.requires.ranked c.requires.room c.at-surviving.ensures (c.put_record.ensures ∙ ap bytes_of c.head.ensures) c.copy_records.ensures
