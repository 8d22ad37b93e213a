-- A write feeds if it changed the amount, which the code finds by the bits of both.
use Rattle.std.proofs.Common.{rules}
use Rattle.fields.proofs.Fields.{same_bits}
use Rattle.model.proofs.ReadsFromLaws.{is_source-write}
use Rattle.trace.proofs.may_feed.Goals as goal

pub returns : goal.returns
returns c i = rw (is_source-write i c.args.r.transaction.0 c.args.r.item.0 c.args.r.before c.args.r.after) (search (same_bits, rules))
