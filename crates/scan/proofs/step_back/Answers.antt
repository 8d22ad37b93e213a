use mathlib.Core.Path.{◌∙◌}
use borrow.Author.Rules.{rules}
use Rattle.scan.proofs.Chain.{back_above, back-above-slots, back-slots, back-right, back-wrong}
use Rattle.scan.proofs.step_back.Goals as goal

pub returns-then-s-gt-MAX_TRANSACTION-clause-low : goal.returns-then-s-gt-MAX_TRANSACTION-clause-low
returns-then-s-gt-MAX_TRANSACTION-clause-low c = search back_above

pub returns-then-s-gt-MAX_TRANSACTION-clause-slots : goal.returns-then-s-gt-MAX_TRANSACTION-clause-slots
returns-then-s-gt-MAX_TRANSACTION-clause-slots c = search back-above-slots

pub returns-then-next-later-clause-low : goal.returns-then-next-later-clause-low
returns-then-next-later-clause-low c = let e = c.index-at.ensures ∙ c.transaction_at-s.ensures in search (back-right, rules)

pub returns-then-next-later-clause-slots : goal.returns-then-next-later-clause-slots
returns-then-next-later-clause-slots c = let e = c.index-at.ensures ∙ c.transaction_at-s.ensures in search (back-slots, rules)

pub returns-else-next-later-clause-low : goal.returns-else-next-later-clause-low
returns-else-next-later-clause-low c = let e = c.index-at.ensures ∙ c.transaction_at-s.ensures in search (back-wrong, rules)

pub returns-else-next-later-clause-slots : goal.returns-else-next-later-clause-slots
returns-else-next-later-clause-slots c = let e = c.index-at.ensures ∙ c.transaction_at-s.ensures in search (back-slots, rules)
