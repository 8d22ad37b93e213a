use mathlib.Core.Path.{◌≡◌}
use borrow.Author.Rules.{rules}
use Rattle.arrays.proofs.ArraysLaws.{item-read, item-write}
use Rattle.rules.proofs.RuleLaws.{tx-low, access-terminated, access_end, of-read, of-write}
use Rattle.rules.proofs.judge_access.Goals as goal

pub bounds : goal.bounds
bounds c = rw c.index.ensures (search tx-low)

pub returns-in-Committed : goal.returns-in-Committed
returns-in-Committed c = search (access-terminated, rules)

pub judge_read-requires : goal.judge_read-requires
judge_read-requires c =
    (item-read _ _ c.args.r c.args.touches.now.writers.ready c.requires (search rules), search tx-low, search rules)

pub judge_write-requires : goal.judge_write-requires
judge_write-requires c =
    (item-write _ _ c.args.r c.args.touches.now.writers.ready c.requires (search rules), search tx-low, search rules)

pub returns-in-Ok-Read : goal.returns-in-Ok-Read
returns-in-Ok-Read c = search (of-read, rules)

pub returns-in-Ok-Write : goal.returns-in-Ok-Write
returns-in-Ok-Write c = let k : c.args.r.kind ≡ 2 = search rules in search (of-write, rules)

pub returns-in-Ok-Commit : goal.returns-in-Ok-Commit
returns-in-Ok-Commit c = search (access_end, rules)

pub returns-in-Ok-Commit-2 : goal.returns-in-Ok-Commit-2
returns-in-Ok-Commit-2 c = search (access_end, rules)
