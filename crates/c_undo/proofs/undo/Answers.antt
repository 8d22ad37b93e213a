-- A refusal is read back as it was, so what is handed over of it keeps take-back's promise.
use Rattle.c_answers.proofs.Reading.{refused-in}
use Rattle.c_undo.proofs.undo.Goals as goal

pub returns-in-Err-clause-demands : goal.returns-in-Err-clause-demands
returns-in-Err-clause-demands c = rw (c.refuse.ensures.number, c.refuse.ensures.place, refused-in _ c.in-Err.why _) c.in-Err.ensures.demands
