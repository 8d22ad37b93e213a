-- Each slip is caught: the definition gives the right values, the slip the wrong ones, by computation, and they differ.
-- Document 01, "Slips a good programmer would make", and document 02, request 3. Assumes nothing.
use mathlib.Core.Path.{refl, ap}
use mathlib.Core.Bool.{Bool, false≢true}
use Prim.Native.Nat.{ℕ}
use lib.Dec.{eqb}
use lib.IntN.{pos}
use lib.ListN.{length, get_or}
use Rattle.days.proofs.Computed.{computed}
use Rattle.model.specs.History.{Amount, same_amount, tag_in}
use Rattle.days.specs.Mistakes.{UndoEffect, ForwardFails, DirectFails, AheadFails, AllLaterFails, EveryWriteFails, AgainstOpeningFails, AgainstCommittedFails, WithoutRewritesFails}

-- item x stands at v
at : ℕ → Amount → UndoEffect → Bool
at x v l = same_amount (get_or l.table x (pos 0)) v

-- transaction s has mark v
marked : ℕ → ℕ → UndoEffect → Bool
marked s v l = eqb (get_or l.status s 0) v

pub forward-fails : ForwardFails
unfolding computed at
forward-fails = record { expected = refl; mistaken = refl; differ = λ e. false≢true (ap (at 1 (pos 1)) e) }

pub direct-fails : DirectFails
unfolding computed at
direct-fails = record { expected = refl; mistaken = refl; differ = λ e. false≢true (ap (at 0 (pos 1000)) e) }

pub ahead-fails : AheadFails
unfolding computed at
ahead-fails = record { expected = refl; mistaken = refl; differ = λ e. false≢true (ap (at 2 (pos 900)) e) }

pub all-later-fails : AllLaterFails
unfolding computed at
all-later-fails = record { expected = refl; mistaken = refl; differ = λ e. false≢true (ap (at 2 (pos 1000)) e) }

pub every-write-fails : EveryWriteFails
unfolding computed at
every-write-fails = record { expected = refl; mistaken = refl; differ = λ e. false≢true (ap (at 2 (pos 1000)) e) }

pub against-opening-fails : AgainstOpeningFails
unfolding computed marked
against-opening-fails = record { expected = refl; mistaken = refl; differ = λ e. false≢true (ap (marked 3 1) e) }

pub against-committed-fails : AgainstCommittedFails
unfolding computed
against-committed-fails = record { expected = refl; mistaken = refl; differ = λ e. false≢true (ap (λ o. eqb (tag_in o) 2) e) }

pub without-rewrites-fails : WithoutRewritesFails
unfolding computed
without-rewrites-fails = record { expected = refl; mistaken = refl; differ = λ e. false≢true (ap (λ h. eqb (length h) 2) e) }
