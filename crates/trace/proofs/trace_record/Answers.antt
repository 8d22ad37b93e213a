-- One record, by its kind.
use Rattle.std.proofs.Common.{ap, sym, ◌∙◌, rules}
use Rattle.trace.specs.Trace.{trace_step}
use Rattle.trace.proofs.TraceLaws.{step-read, step-write, step-unfeeding, step-other}
use Rattle.trace.proofs.trace_record.Goals as goal

pub returns-in-Ok-Read : goal.returns-in-Ok-Read
unfolding trace_step
returns-in-Ok-Read g c =
    rw (← c.at-r.ensures) (ap (λ l. (c.args.sources.now, l)) c.trace_read.ensures ∙ step-read _ _ _ _ _ _ _ _ (search rules))

pub returns-in-Ok-Write : goal.returns-in-Ok-Write
unfolding trace_step
returns-in-Ok-Write g c =
    rw (← c.at-r.ensures) (ap (λ l. (l, c.args.flags.now)) c.trace_write.ensures ∙ step-write _ _ _ _ _ _ _ _ (search rules) (sym (c.may_feed.ensures c.args.i.0) ∙ c.if-may_feed.true))

pub returns-else-may_feed : goal.returns-else-may_feed
unfolding trace_step
returns-else-may_feed g c =
    rw (← c.at-r.ensures) (step-unfeeding _ _ _ _ _ _ _ _ (search rules) (sym (c.may_feed.ensures c.args.i.0) ∙ c.if-may_feed.false))

pub returns : goal.returns
unfolding trace_step
returns g c = rw (← c.at-r.ensures) (step-other _ _ _ _ _ _ _ _ (search rules) (search rules))

pub returns-2 : goal.returns-2
unfolding trace_step
returns-2 g c = rw (← c.at-r.ensures) (step-other _ _ _ _ _ _ _ _ (search rules) (search rules))
