-- A journal that passes 1, 2 and 4 to 9, as a history that passes the rules, and back.
-- Assumes nothing.
use mathlib.Core.Path.{◌≡◌}
use mathlib.Core.Bool.{false}
use mathlib.Core.List.{List, ◌∷◌}
use Prim.Native.Nat.{ℕ, suc, ◌<◌, ◌≤◌}
use native.Mathlib.Omega.{arith}
use lib.Dec.{leb}
use borrow.Author.Tests.{leb-true}
use Rattle.lists.proofs.BoolLaws.{and_left, and_right}
use Rattle.format.specs.declared.Record.{Record}
use Rattle.format.specs.Layout.{record_at}
use Rattle.model.specs.History.{Op, History}
use Rattle.model.specs.Undo.{Upto, all, more}
use Rattle.model.proofs.Legal.{NoBlindWrites}
use Rattle.model.proofs.Repair.{no_blind-ends}
use Rattle.model.proofs.Opening.{Passes, Passing, start, step}
use Rattle.journal.specs.Journal.{count, items, tx_in, whole}
use Rattle.journal.specs.Refusals.{short, truncated, bad_head, malformed, wrong_next, terminated, conflicting, blind, mismatched}
use Rattle.journal.proofs.Checked.{Sound}
use Rattle.journal.proofs.Unrefused.{head-head_fields, formed, formed-cases, record-upto, sound-passing, sound-no_blind}

pub passing-whole : (b : List ℕ) → Sound b → Passing (whole b)
unfolding whole
passing-whole b s = sound-passing s (count b) (omega arith)

pub no_blind-whole : (b : List ℕ) → Sound b → NoBlindWrites (whole b)
unfolding whole
no_blind-whole b s = sound-no_blind s (count b) (omega arith)

passing-upto : {r : Op} {p j : History} → Passing j → Upto (r ∷ p) j → Passes p r
passing-upto start u = elim u [ ]
passing-upto (step k l) all = l
passing-upto (step k l) (more i) = passing-upto k i

-- what each record needs beside the rules
pub sound-from : (b : List ℕ) → short b ≡ false → bad_head b ≡ false → truncated b ≡ false
    → ((i : ℕ) → i < count b → malformed (items b) (record_at b (suc i)) ≡ false) → ((i : ℕ) → i < count b → wrong_next b (suc i) ≡ false)
    → Passing (whole b) → NoBlindWrites (whole b) → Sound b
unfolding terminated conflicting blind mismatched whole
sound-from b l h w m u k g =
    record {
      long = l;
      head = h;
      full = w;
      right = λ i n.
          let p = passing-upto k (record-upto b i (count b) n) in
          record { formed = m i n; chained = u i n; follows = record { not_terminated = p.not_terminated; not_conflicting = p.not_conflicting; not_blind = (no_blind-ends g (record-upto b i (count b) n)).1 }; matched = p.matched };
    }

-- ---- the head

pub record HeadFacts (b : List ℕ) : Type 0 where
  pub few : count b ≤ 3200
  pub some : 1 ≤ items b
  pub most : items b ≤ 1024

pub head-facts : (b : List ℕ) → bad_head b ≡ false → HeadFacts b
unfolding count items
head-facts b h =
    let e = head-head_fields b h in
    record {
      few = e.count;
      some = leb-true _ _ (and_left (leb 1 (record_at b 0).item.0) _ e.items);
      most = leb-true _ _ (and_right (leb 1 (record_at b 0).item.0) _ e.items);
    }

-- a right record's transaction is from 1 to 1,024
pub malformed-tx : (n : ℕ) (r : Record) → malformed n r ≡ false → (1 ≤ tx_in r) × (tx_in r ≤ 1024)
malformed-tx n r h =
    let w = (formed n r h).tx in
    (leb-true _ _ (and_left (leb 1 (tx_in r)) _ w), leb-true _ _ (and_right (leb 1 (tx_in r)) _ w))

-- the item of a read or a write is one of the journal's
pub malformed-item : (n : ℕ) (r : Record) → malformed n r ≡ false → r.kind ≤ 2 → r.item.0 < n
malformed-item n r h k = formed-cases n r h (λ e l b. l) (λ e l. l) (λ e b. absurd (omega arith)) (λ e b. absurd (omega arith))
