use Rattle.std.proofs.Common.{◌-◌}
use Rattle.lists.specs.Tables.{each}
use Rattle.text.specs.Pages.{Writes}
use Rattle.lines.specs.AnswerLines.{undone_in}
use Rattle.lines.proofs.put_all_undone.Given as goal

abbrev pub invariant-loop-s : goal.invariant-loop-s
invariant-loop-s l = Writes l.initial.page (each (undone_in l.status) 1 (l.s - 1)) l.page
