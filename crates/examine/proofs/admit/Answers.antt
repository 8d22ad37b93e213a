-- 13 decides, or else 12.
use Rattle.examine.proofs.Examining.{admit_status, admit-known}
use Rattle.examine.proofs.admit.Goals as goal

pub returns-then-status-ne-STATUS_BYTES : goal.returns-then-status-ne-STATUS_BYTES
returns-then-status-ne-STATUS_BYTES g c = search admit_status

pub returns : goal.returns
returns g c = search admit-known
