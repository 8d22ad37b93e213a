use Rattle.journal.proofs.OrdersLaws.{tried-done}
use Rattle.examine.proofs.StagesLaws.{known_start, known-passed}
use Rattle.examine.proofs.known.Goals as goal

pub loop-k-init : goal.loop-k-init
loop-k-init g c = search known_start

pub loop-k-preserved : goal.loop-k-preserved
loop-k-preserved g c = search known-passed

pub returns : goal.returns
returns g c = search tried-done
