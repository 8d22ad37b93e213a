use mathlib.Core.Path.{◌≡◌, ◌∙◌}
use Rattle.std.proofs.Common.{rules}
use Rattle.std.proofs.lemmas.List.{map-set}
use Rattle.fields.proofs.Fields.{formed-kinds}
use Rattle.journal.specs.Journal.{items}
use Rattle.arrays.specs.declared.end.End.TheVariants.{Committed, Aborted}
use Rattle.arrays.specs.Ends.{code_of}
use Rattle.note.proofs.NoteLaws.{next-low, read-low, write-low, in-firsts, in-reads, in-writes, in-bases, in-links, own-again, state-read, state-write, state-commit, state-abort}
use Rattle.note.proofs.note.Goals as goal
use Rattle.note.proofs.note.Goals.{then-r, else-r}

pub last_writer-requires : goal.last_writer-requires
last_writer-requires c = search write-low

pub note_first-requires : goal.note_first-requires
note_first-requires c = search (in-firsts, next-low)

pub note_read-requires : goal.note_read-requires
note_read-requires c =
    let k : c.args.r.kind ≡ 1 = search rules in
    (search (in-reads, read-low), search in-links)

pub note_write-requires : goal.note_write-requires
note_write-requires c =
    let k : c.args.r.kind ≡ 2 = search rules in
    (search (in-writes, write-low), search (in-bases, write-low), search (in-reads, write-low))

pub bounds-kept-index : goal.bounds-kept-index
bounds-kept-index c = rw c.index.ensures (search next-low)

pub bounds-kept-index-in-Ok-Abort : goal.bounds-kept-index-in-Ok-Abort
bounds-kept-index-in-Ok-Abort c = rw c.index-in-Ok-Abort.ensures (search next-low)

pub returns-in-Ok-Read : goal.returns-in-Ok-Read
returns-in-Ok-Read c =
    let k : c.args.r.kind ≡ 1 = search rules in
    search state-read

pub returns-in-Ok-Write : goal.returns-in-Ok-Write
returns-in-Ok-Write c =
    let k : c.args.r.kind ≡ 2 = search rules in
    elim c.if-r.branch [
      | then-r w ↦ let a = w.again-is ∙ own-again _ _ _ _ w.last_writer.ensures in search state-write
      | else-r w ↦ absurd (w.if-r.false k)
    ]

pub returns-in-Ok-Commit : goal.returns-in-Ok-Commit
returns-in-Ok-Commit c =
    let k : c.args.r.kind ≡ 3 = search rules in
    let m = map-set code_of c.args.kept.now.ends c.args.r.transaction.0 Committed in
    rw c.index.ensures (search state-commit)

pub returns-in-Ok-Abort : goal.returns-in-Ok-Abort
returns-in-Ok-Abort c =
    let k : c.args.r.kind ≡ 4 = search rules in
    let m = map-set code_of c.args.kept.now.ends c.args.r.transaction.0 Aborted in
    rw c.index-in-Ok-Abort.ensures (search state-abort)

-- a record that is not malformed has a kind
pub returns-in-Err : goal.returns-in-Err
returns-in-Err c =
    absurd (formed-kinds (items c.args.journal.now) c.args.r c.requires.3 (search rules) (search rules) (search rules) (search rules))
