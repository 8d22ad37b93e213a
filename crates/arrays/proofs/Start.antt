-- Before the first record.
-- Assumes nothing.
use mathlib.Core.Path.{refl}
use mathlib.Core.List.{List, []}
use Prim.Native.Nat.{ℕ}
use native.Mathlib.Omega.{arith}
use lib.ListN.{replicate, length-replicate}
use Rattle.lists.proofs.TablesLaws.{by-index-all}
use Rattle.journal.specs.Journal.{history}
use Rattle.fields.specs.Answers.{Opened}
use Rattle.arrays.specs.declared.end.End.TheVariants.{Open}
use Rattle.arrays.specs.Ends.{codes}
use Rattle.arrays.specs.Arrays.{Ready, NoBlindTo, Linked, State}
use Rattle.arrays.proofs.ArraysLaws.{ends-array, firsts-array, writes-array, bases-array, reads-array}

module _ (b : List ℕ) where
  linked-start : Linked b 0 (replicate 3201 0)
  linked-start = record { size = length-replicate {A = ℕ} 3201 0; link = λ k a c e. absurd (omega arith) }

  pub state-start : State b 0 (codes (replicate 1025 Open)) (replicate 1025 0) (replicate 1024 0) (replicate 1024 0) (replicate 1024 0) (replicate 3201 0)
  unfolding history
  state-start =
      record {
        ended = by-index-all 0 0 (ends-array []) (λ j. refl);
        begun = by-index-all 0 0 (firsts-array []) (λ j. refl);
        written = by-index-all 0 0 (writes-array []) (λ j. refl);
        based = by-index-all 0 0 (bases-array []) (λ j. refl);
        last_read = by-index-all 0 0 (reads-array []) (λ j. refl);
        linked = linked-start;
      }

  pub ready-start : (n m : ℕ) → Opened b n m → Ready b 0
  ready-start n m o = record { long = omega (arith, o.long); few = omega arith; items = omega (arith, o.keys, o.narrow); passed = λ i h. absurd (omega arith) }

  pub not_blind-start : NoBlindTo b 0
  not_blind-start = record { read = λ i h. absurd (omega arith) }
