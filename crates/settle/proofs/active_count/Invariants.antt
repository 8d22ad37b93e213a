-- The transactions below s that are active are counted.
use Rattle.std.proofs.Common.{◌≡◌, ◌-◌, map}
use Rattle.lists.specs.Tables.{count_if}
use Rattle.settle.specs.Active.{active_in}
use Rattle.settle.proofs.active_count.Given as goal

abbrev pub invariant-loop-s : goal.invariant-loop-s
invariant-loop-s g l = l.count ≡ count_if (active_in (map g.E.Code.code l.ends) l.firsts) 1 (l.s - 1)
