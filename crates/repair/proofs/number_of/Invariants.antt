use Rattle.std.proofs.Common.{◌≡◌, ℕ, ◌-◌, get_or}
use Rattle.lists.specs.Tables.{count_if}
use Rattle.repair.proofs.number_of.Given as goal

abbrev pub invariant-loop-s : goal.invariant-loop-s
invariant-loop-s g l = l.count ≡ count_if (λ (s : ℕ). g.T.PartialEq.eq (get_or l.list s l.default) l.v) 1 (l.s - 1)
