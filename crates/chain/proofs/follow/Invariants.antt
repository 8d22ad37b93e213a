use Rattle.std.proofs.Common.{◌≡◌, take, drop}
use Rattle.journal.specs.Calls.{written}
use Rattle.chain.specs.Answers.{walk_from}
use Rattle.chain.proofs.follow.Given as goal

abbrev pub invariant-loop-k : goal.invariant-loop-k
invariant-loop-k l =
    let all = walk_from l.fn.walk.journal.now l.fn.walk.next.0 in
    record {
      left : drop l.k-iterator.count all ≡ walk_from l.k-iterator.iter.journal.now l.k-iterator.iter.next.0;
      written : l.lsns ≡ written (take l.k-iterator.count all) l.initial.lsns;
    }
