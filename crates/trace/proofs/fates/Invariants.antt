use Rattle.std.proofs.Common.{◌≡◌, ℕ, ◌<◌, false, length, get_or}
use Rattle.arrays.specs.declared.end.End.TheVariants.{Open}
use Rattle.arrays.specs.Ends.{code_of}
use Rattle.trace.specs.declared.Fate.TheVariants.{Neither}
use Rattle.trace.specs.Codes.{fate_of}
use Rattle.trace.proofs.fates.Given as goal

abbrev pub invariant-loop-i : goal.invariant-loop-i
invariant-loop-i l =
    (length l.all ≡ 1025) × ((k : ℕ) → k < l.i → get_or l.all k Neither ≡ fate_of (code_of (get_or l.ends k Open)) (get_or l.flags k false))
