use Rattle.std.proofs.Common.{◌≡◌, take}
use Rattle.trace.specs.Codes.{flags_of}
use Rattle.trace.proofs.listed.Given as goal

abbrev pub invariant-loop-s : goal.invariant-loop-s
invariant-loop-s l = l.flags ≡ flags_of (take l.s-index l.bad)
