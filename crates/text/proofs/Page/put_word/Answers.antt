-- The word's part of the buffer, put back.
use Rattle.std.proofs.Common.{◌≡◌, ◌+◌, ◌-◌, arith, length, refl, ap, ◌∙◌}
use borrow.Rule.Slice.PartMut.{put_mid}
use Rattle.lists.specs.Tables.{store}
use Rattle.lists.proofs.TablesLaws.{length-store, part-stored}
use Rattle.text.proofs.Page.put_word.Goals as goal

pub returns : goal.returns
returns c =
    let p = c.args.self.now in
    let w = c.args.word.now in
    let n : length w ≡ p.end + length w - p.end = omega arith in
    let holds : put_mid p.end (p.end + length w - p.end) p.bytes.now c.copy_from_slice.new.self ≡ store p.end w p.bytes.now =
    ap (put_mid _ _ _) c.copy_from_slice.ensures.after ∙ part-stored _ _ _ _ n in
    record {
      text = record { holds = holds; size = refl };
      size = ap length holds ∙ length-store p.end w p.bytes.now c.requires.fits.room;
      buffer = refl;
    }
