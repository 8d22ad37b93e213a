-- The equation is that of `append::append`, and the definition keeps the promise.
use borrow.Author.Rules.{rules}
use mir.Syntax.{w32}
use mir.Val.{SFits}
use mir.ValLaws.{to_z-of_z}
use Rattle.format.proofs.BytesLaws.{Bytes-getD}
use Rattle.journal.specs.Inputs.{inputs_of}
use Rattle.journal.specs.Journal.{amount_at}
use Rattle.counts.specs.Answers.{record_counts_of}
use Rattle.certified.proofs.AppendLaws.{append-certified}
use Rattle.certified.proofs.append.Goals as goal

pub returns-clause-demands : goal.returns-clause-demands
returns-clause-demands c =
    let done = rw (to_z-of_z w32 c.args.after c.ranges.after) at c.append.ensures in
    let seen : SFits w32 (amount_at c.args.table.now c.args.item.0) = rw (← c.at-seen.ensures) (record { sfits = c.at-seen.type_inv }) in
    append-certified (inputs_of c.args.journal.now c.args.table.now) (record_counts_of c.args.counts.now)
    (record { kind = c.args.kind; tx = c.args.transaction.0; item = c.args.item.0; after = c.args.after })
    (Bytes-getD _ (λ i. search rules)) seen c.ranges.after done.answer done.journal done.table done.counts
