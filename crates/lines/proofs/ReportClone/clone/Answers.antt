-- The same values; a fact of numbers has one proof.
use Rattle.std.proofs.Common.{◌≡◌, length}
use Rattle.std.proofs.Math.Nat.{ℕ_set}
use Rattle.format.specs.Limits.{status_bytes}
use Rattle.lines.specs.declared.Report.{Report}
use Rattle.lines.proofs.ReportClone.clone.Goals as goal

same : {S : Type 0} (r : Report S) (m : length r.status.now ≡ status_bytes) (t : length r.old.now ≡ length r.new.now)
    → record { records = r.records; status = r.status; old = r.old; new = r.new; sum = r.sum; marks = m; tables = t } ≡ r
same r m t i =
    record {
      records = r.records;
      status = r.status;
      old = r.old;
      new = r.new;
      sum = r.sum;
      marks = ℕ_set _ _ m r.marks i;
      tables = ℕ_set _ _ t r.tables i;
    }

pub returns : goal.returns
returns g c = record { cases = same c.args.self.now _ _ }
