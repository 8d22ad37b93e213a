-- A refusal is read back as it was, so what is handed over of it keeps post's promise.
use Rattle.std.proofs.Common.{rules}
use Rattle.c_answers.proofs.Reading.{refused-in}
use Rattle.c_append.proofs.append.Goals as goal
use Rattle.c_append.proofs.append.Goals.{in-Ok, in_default}

pub returns-clause-demands : goal.returns-clause-demands
returns-clause-demands c =
    elim c.match-appended.branch [
      | in-Ok w ↦ search (rules, refused-in) parts 8
      | in_default w ↦ search (rules, refused-in) parts 8
    ]
