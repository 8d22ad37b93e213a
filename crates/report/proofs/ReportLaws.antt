-- What an accepted take-back says of its input, and the report by what take-back left.
-- Assumes nothing.
use mathlib.Core.Path.{◌≡◌, refl, ap}
use mathlib.Core.List.{List}
use Prim.Native.Nat.{ℕ, ◌≤◌}
use native.Mathlib.Omega.{arith}
use lib.ListN.{length, take, drop}
use lib.Seq.{take_at}
use borrow.Author.Tests.{ltb-false}
use Rattle.lists.proofs.TablesLaws.{store-front}
use Rattle.journal.specs.Inputs.{Inputs}
use Rattle.journal.specs.Journal.{count}
use Rattle.journal.specs.Refusals.{short}
use Rattle.journal.specs.Calls.{Answer, refused, accepted, UndoTotals, UndoResult, undo}
use Rattle.journal.proofs.Checked.{Checks}
use Rattle.journal.proofs.Passing.{head-facts}
use Rattle.journal.proofs.Unrefused.{table-length}
use Rattle.demands.specs.Days.{accepts}
use Rattle.demands.specs.Undoing.{copy_in}
use Rattle.demands.specs.Requests.{sum_left}
use Rattle.demands.proofs.DaysLaws.{pass-checks}
use Rattle.certified.specs.Promises.{UndoPromise}
use Rattle.text.specs.Decimal.{decimal_z}
use Rattle.text.specs.Puts.{Fits, Put}
use Rattle.text.proofs.DecimalLaws.{length-decimal_z}
use Rattle.lines.specs.AnswerLines.{lines}
use Rattle.lines.specs.Counting.{records_in}
use Rattle.lines.proofs.LengthLaws.{length-lines}
use Rattle.report.specs.Output.{lines_of}
use Rattle.report.specs.Certified.{Reports}

-- what is written at the front
put_front : {v l m : List ℕ} {n : ℕ} → Put 0 v l m n → take n m ≡ v
put_front {v} {l} {n = n} p = rw (p.holds, store-front) (take_at v (drop (length v) l) n (omega (arith, p.size)))

-- ---- an accepted take-back: the journal has a head, the table no more than 1,024 items

module _ (d : Inputs) (bad status out : List ℕ) {u : UndoResult} (kept : UndoPromise d bad status out u) {c : UndoTotals} (e : u.answer ≡ accepted c) where
  accepted-checks : Checks d
  accepted-checks = pass-checks d (kept.acceptance.0 (ap accepts e)).0.pass

  accepted-head : 20 ≤ length d.journal
  unfolding short
  accepted-head = ltb-false (length d.journal) 20 accepted-checks.sound.long

  accepted-items : length d.table ≤ 1024
  accepted-items =
      let k = accepted-checks in omega (arith, table-length d.journal d.table k.table, (head-facts d.journal k.sound.head).most)

  -- the copy's record count, by its bytes
  accepted-records : records_in c ≡ count (copy_in u c)
  unfolding records_in
  accepted-records = let n = (kept.repaired c e).left.size in omega arith

-- ---- the length of a report

module _ (d : Inputs) (bad status out : List ℕ) {u : UndoResult} (kept : UndoPromise d bad status out u) where
  length-report : length (lines_of d u) ≤ 100000
  unfolding lines_of
  length-report = length-lines _ _ _ d.table _ _ u.answer (λ c e. (accepted-items d bad status out kept e, length-decimal_z (sum_left u c)))

  -- ---- the report by what the call answered and left, the record counts and the sum as the code has them

  module _ (n : ℕ) (en : 20 ≤ length d.journal → n ≡ count d.journal) (v : List ℕ) (ev : (c : UndoTotals) → u.answer ≡ accepted c → v ≡ decimal_z (sum_left u c)) where
    reported : lines n records_in (λ c. v) d.table u.table u.status u.answer ≡ lines_of d u
    unfolding lines_of lines
    reported = go u.answer refl
      where
        go : (a : Answer UndoTotals) → u.answer ≡ a
            → lines n records_in (λ c. v) d.table u.table u.status a
            ≡ lines (count d.journal) (λ c. count (copy_in u c)) (λ c. decimal_z (sum_left u c)) d.table u.table u.status a
        go (refused k p) e = refl
        go (accepted c) e = rw (en (accepted-head d bad status out kept e), accepted-records d bad status out kept e, ev c e)

    -- these lines fit, and where they are written the text reports the call
    pub reported-fits : {l : List ℕ} → 100000 ≤ length l → Fits 0 (lines n records_in (λ c. v) d.table u.table u.status u.answer) l
    reported-fits h = rw reported (record { room = omega (arith, length-report) })

    pub reported-put : {l m : List ℕ} {r : ℕ} → u ≡ undo d bad status out → Put 0 (lines n records_in (λ c. v) d.table u.table u.status u.answer) l m r
        → (Put 0 (lines_of d (undo d bad status out)) l m r) × Reports d bad status out (take r m)
    reported-put is p = let text = rw reported at p in (rw is at text, record { result = u; promise = kept; lines = put_front text })

-- written, it ends in the room for any report
pub length-put : {v l m : List ℕ} {n : ℕ} {d : Inputs} {bad status out : List ℕ} → Put 0 v l m n → Reports d bad status out (take n m) → n ≤ 100000
length-put {d = d} {bad = bad} {status = status} {out = out} p r =
    omega (arith, p.size, ap length (put_front p), ap length r.lines, length-report d bad status out r.promise)
