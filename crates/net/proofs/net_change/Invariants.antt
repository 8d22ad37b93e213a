-- After i records it is the net change of the first i.
use Rattle.std.proofs.Common.{◌≡◌, ◌≤◌, ◌*◌, nat_abs}
use Rattle.model.specs.Net.{net_change}
use Rattle.journal.specs.Journal.{history}
use Rattle.net.proofs.net_change.Given as goal

abbrev pub invariant-loop-i : goal.invariant-loop-i
invariant-loop-i l = (l.net ≡ net_change (history l.journal.bytes.now l.i)) × (nat_abs l.net ≤ 4294967295 * l.i)
