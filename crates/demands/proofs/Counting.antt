-- Counting hands out the tally that post asks for: the statement Counting of specs/Counting.antt, proved.
-- Assumes nothing.
use mathlib.Core.Path.{◌≡◌, sym}
use mathlib.Core.List.{List}
use Prim.Native.Nat.{ℕ}
use Rattle.lists.proofs.BoolLaws.{clash}
use Rattle.journal.specs.Inputs.{Inputs}
use Rattle.journal.specs.Journal.{whole}
use Rattle.journal.specs.Refusals.{RecordCounts, counts_by_kind}
use Rattle.journal.specs.Orders.{decide, open_order}
use Rattle.journal.specs.Calls.{accepted, count_records}
use Rattle.journal.proofs.Clear.{clear-decide}
use Rattle.journal.proofs.Checked.{open-clear}
use Rattle.journal.proofs.Answered.{accepted-only}
use Rattle.demands.specs.Days.{Pass}
use Rattle.demands.specs.Counting.{Counting}
use Rattle.demands.proofs.DaysLaws.{pass-checks}
use Rattle.demands.proofs.Appending.{counts-right}
use Rattle.demands.proofs.Refusing.{append_refused-15}

-- a journal that passes is counted, by its own tally
counted : (d : Inputs) → Pass d → count_records d.journal ≡ accepted (counts_by_kind (whole d.journal))
unfolding count_records
counted d h = let k = (pass-checks d h).sound in rw (clear-decide (open-clear d.journal k.long k.head k.full))

pub counts-is : (b : List ℕ) (c : RecordCounts) → count_records b ≡ accepted c → c ≡ counts_by_kind (whole b)
unfolding count_records
counts-is b c e = (accepted-only (decide (open_order b)) c (counts_by_kind (whole b)) (sym e)).1

pub counting : Counting
counting =
    record {
      passing = λ d h. rw (counted d h);
      agrees = λ d c kind s x a place e f.
          clash (append_refused-15 d c kind s x a place f) (counts-right d.journal c (counts-is d.journal c e));
      ready = λ d k. rw k.counts (counted d.inputs k.pass);
    }
