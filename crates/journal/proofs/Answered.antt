-- What an answer says of the order that decided it.
-- Assumes nothing.
use mathlib.Core.Path.{◌≡◌, refl}
use mathlib.Core.Option.{Option, none, some}
use Prim.Native.Nat.{ℕ}
use native.Mathlib.Omega.{arith}
use Rattle.journal.specs.Orders.{Refusal}
use Rattle.journal.specs.Calls.{refused, accepted, answered}
use Rattle.journal.proofs.OrdersLaws.{refusal_at}

pub accepted-only : {A : Type 0} (d : Option Refusal) (x y : A) → accepted x ≡ answered d y → (d ≡ none) × (x ≡ y)
accepted-only none x y e = let z : x ≡ y = cc in (refl, z)
accepted-only (some r) x y e = let z : ◌≡◌ {A = ℕ} 0 1 = cc in absurd (omega arith)

pub refused-only : {A : Type 0} (k l : ℕ) (d : Option Refusal) (x : A) → refused k l ≡ answered d x → d ≡ some (refusal_at k l)
refused-only k l none x e = let z : ◌≡◌ {A = ℕ} 0 1 = cc in absurd (omega arith)
refused-only k l (some r) x e = let i : k ≡ r.number = cc in let j : l ≡ r.place = cc in rw (i, j)
