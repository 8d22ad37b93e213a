-- The first record, the count of the chain, the room, then the chain written.
use Rattle.std.proofs.lemmas.Result.{err_from_is_err_and}
use Rattle.chain.proofs.Stages.{chain-refused, chain-ready, chain-low, chain-short, chain-walked}
use Rattle.chain.proofs.chain.Goals as goal

pub returns-in_err-next : goal.returns-in_err-next
returns-in_err-next c =
    let p = err_from_is_err_and c.from_residual.result c.from_residual.ensures.1 in
    let r = chain-refused c.args.journal.now c.args.transaction.0 c.args.lsns.now _ _ c.in_err-next.ensures in
    record { answer = rw (p.1, p.2) r.0; lsns = r.1 }

pub invariant_of-walk : goal.invariant_of-walk
invariant_of-walk c =
    let q = c.in_ok-next.ensures in
    record { ready = chain-ready _ _ c.args.lsns.now _ q; low = chain-low _ _ c.args.lsns.now _ q }

pub returns-then-lsns-k : goal.returns-then-lsns-k
returns-then-lsns-k c =
    let r = chain-short _ _ c.args.lsns.now _ c.in_ok-next.ensures _ c.visited-k.ensures.steps c.if-lsns-k.true in
    record { answer = r.0; lsns = r.1 }

pub returns : goal.returns
returns c =
    let r = chain-walked _ _ c.args.lsns.now _ c.in_ok-next.ensures _ _ c.visited-k.ensures.steps c.if-lsns-k.false c.follow.ensures in
    record { answer = r.0; lsns = r.1 }
