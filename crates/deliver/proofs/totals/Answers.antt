-- The counts by the codes of fates and of ends.
use Rattle.std.proofs.Common.{refl, ◌∙◌}
use Rattle.arrays.specs.declared.end.End.TheVariants.{Aborted}
use Rattle.trace.specs.declared.Fate.TheVariants.{Surviving, Undone}
use Rattle.trace.proofs.CodesLaws.{number-fates, number-ends}
use Rattle.deliver.proofs.totals.Goals as goal

pub returns : goal.returns
returns c =
    (c.number_of.ensures ∙ number-fates c.args.fates.now Surviving, c.number_of-2.ensures ∙ number-fates c.args.fates.now Undone, c.number_of-3.ensures ∙ number-ends c.args.ends.now Aborted, refl)
