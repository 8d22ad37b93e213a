use mathlib.Core.Path.{refl}
use Rattle.std.proofs.lemmas.Result.{err_from_is_err_and}
use Rattle.scan.proofs.Pass.{all_left, record-refused, record-passed, none_left, ready-more, not_blind-more, next-formed}
use native.Mathlib.Omega.{arith}
use Rattle.scan.proofs.records.Goals as goal

pub loop-n-init : goal.loop-n-init
loop-n-init c = record { n = c.requires; journal = refl; left = search all_left }

pub returns-in_err-check_record-clause-answer : goal.returns-in_err-check_record-clause-answer
returns-in_err-check_record-clause-answer c =
    let p = err_from_is_err_and c.from_residual.result c.from_residual.ensures.1 in
    let k = c.loop-n.invariant in
    let e = rw (k.n, k.journal) at c.in_err-check_record.ensures in
    rw (p.1, p.2) (record-refused _ _ _ c.loop-n-test.true k.left _ e)

pub note-requires : goal.note-requires
note-requires c =
    let k = c.loop-n.invariant in
    let o = rw k.journal at c.loop-n.pass.journal.opened in
    let p = c.loop-n.pass in
    let e = rw (k.n, k.journal) at c.in_ok-check_record.ensures in
    let y = rw (k.n, k.journal) at p.ready in
    (y, omega (arith, c.loop-n-test.true, p.journal.opened.few), rw (k.n, k.journal) at p.state, next-formed _ _ _ _ y o c.loop-n-test.true e _ c.record_at-r.ensures, c.record_at-r.ensures)

pub invariant_of-pass : goal.invariant_of-pass
invariant_of-pass c =
    let k = c.loop-n.invariant in
    let p = c.loop-n.pass in
    let e = rw k.n at c.in_ok-check_record.ensures in
    let y = rw k.n at p.ready in
    let f = rw k.n at p.not_blind in
    let h = rw (← k.journal) at c.loop-n-test.true in
    record {
      within = omega arith;
      ready = ready-more _ _ _ _ y p.journal.opened h e;
      not_blind = not_blind-more _ _ _ _ y p.journal.opened h e f;
      state = rw k.journal c.note.ensures;
    }

pub loop-n-preserved : goal.loop-n-preserved
loop-n-preserved c =
    let k = c.loop-n.invariant in
    let e = rw (k.n, k.journal) at c.in_ok-check_record.ensures in
    record { n = refl; journal = k.journal; left = record-passed _ _ _ c.loop-n-test.true k.left e }

pub returns-clause-answer : goal.returns-clause-answer
returns-clause-answer c = search none_left
