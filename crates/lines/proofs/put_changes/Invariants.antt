use Rattle.lists.specs.Tables.{each}
use Rattle.text.specs.Pages.{Writes}
use Rattle.lines.specs.AnswerLines.{change_in}
use Rattle.lines.proofs.put_changes.Given as goal

abbrev pub invariant-loop-x : goal.invariant-loop-x
invariant-loop-x l = Writes l.initial.page (each (change_in l.old l.new) 0 l.x) l.page
