use Rattle.std.proofs.Common.{◌≡◌, ◌≤◌, ℕ, length, get_or, map}
use Rattle.lists.specs.Tables.{coded}
use Rattle.repair.specs.Copying.{rank}
use Rattle.repair.proofs.ranks.Given as goal

abbrev pub invariant-loop-i : goal.invariant-loop-i
invariant-loop-i g l =
    record {
      counted : l.surviving ≡ rank (coded 1 (map g.F.Code.code l.fates)) l.records.journal.now l.i;
      size : length l.all ≡ 3201;
      at : (k : ℕ) → k ≤ l.i → get_or l.all k 0 ≡ rank (coded 1 (map g.F.Code.code l.fates)) l.records.journal.now k;
    }
