-- The standing amount of an item, from the records of its last write and of the first write by the same transaction.
-- Assumes nothing.
use mathlib.Core.Path.{◌≡◌, refl, sym, ◌∙◌, ap}
use mathlib.Core.Bool.{false≢true, true, false, cond}
use mathlib.Core.Logic.{◌⊎◌, inl, inr}
use mathlib.Core.List.{List}
use mathlib.Core.Option.{some, none-ne-some}
use Prim.Native.Nat.{ℕ, ◌+◌, ◌*◌, ◌<◌, ◌≤◌}
use native.Mathlib.Omega.{arith}
use lib.IntN.{pos}
use lib.Dec.{eqb}
use mir.Syntax.{w32}
use mir.Val.{to_z, of_z, SFits}
use mir.ValLaws.{to_z-of_z}
use lib.ListN.{length, get_or}
use Rattle.lists.proofs.SearchLaws.{any-latest, latest-passes, first_some}
use Rattle.format.specs.declared.Record.{Record}
use Rattle.format.specs.Layout.{record_at}
use Rattle.model.specs.History.{Op, History, Amount, Tag, tx_of, tag_in, write_of, write_to, before_of, after_of, before_in, standing}
use Rattle.model.proofs.Ends.{write-to}
use Rattle.model.proofs.Opening.{Passing}
use Rattle.journal.specs.Journal.{tx_in, op_of, history}
use Rattle.journal.proofs.Records.{by_kind, tx_of-op_of}
use Rattle.arrays.specs.declared.end.End.{End}
use Rattle.arrays.specs.declared.end.End.TheVariants.{Open, Committed, Aborted}
use Rattle.arrays.specs.Ends.{code_of, codes}
use Rattle.arrays.specs.Recent.{end_code, last_write, base_write}
use Rattle.arrays.specs.Arrays.{Ready, ends_of, writes_of, bases_of}
use Rattle.arrays.proofs.Found.{base-found, found_none, found-bound, found_some, passing-history}
use Rattle.arrays.proofs.ArraysLaws.{ends-array, bases-array}
use Rattle.arrays.proofs.WriterLaws.{code-at, last_some, last-low}
use Rattle.rules.proofs.Recent.{own-write, base-first, standing-last}

some_same : {a b : Op} → some a ≡ some b → a ≡ b
some_same h = cc

-- a record that is a write has these images
write-before : (i : Tag) (r : Record) (x : ℕ) (d : Amount) → write_to x (op_of i r) ≡ true → before_of (op_of i r) d ≡ r.before
write-before i r x d =
    by_kind (λ o. write_to x o ≡ true → before_of o d ≡ r.before) i r (λ h. absurd (false≢true h)) (λ h. refl) (λ h. absurd (false≢true h)) (λ h. absurd (false≢true h)) (λ h. absurd (false≢true h))

write-after : (i : Tag) (r : Record) (x : ℕ) (d : Amount) → write_to x (op_of i r) ≡ true → after_of (op_of i r) d ≡ r.after
write-after i r x d =
    by_kind (λ o. write_to x o ≡ true → after_of o d ≡ r.after) i r (λ h. absurd (false≢true h)) (λ h. refl) (λ h. absurd (false≢true h)) (λ h. absurd (false≢true h)) (λ h. absurd (false≢true h))

-- the first write by the last writer is there
base-some : (x : ℕ) (p : History) → Passing p → {w : Op} → last_write p x ≡ some w → (u : Op) × (base_write p x ≡ some u) × (write_to x u ≡ true)
base-some x p k {w} e =
    let a = any-latest (write_to x) (write_of (tx_of w) x) p e (own-write w x (latest-passes (write_to x) p e)) in
    let (u, q, t) = first_some (write_of (tx_of w) x) p a in
    (u, base-first x p k e ∙ q, write-to (tx_of w) x u t)

pub base-long : (b : List ℕ) (n x f : ℕ) (l : List ℕ) → Ready b n → l ≡ bases_of (history b n) → x < 1024 → f ≡ get_or l x 0 → 20 * (f + 1) ≤ length b
base-long b n x f l k e h q =
    let z : f ≤ n = rw (q, e, (bases-array (history b n)).at x 0 h) (found-bound (base-found x b n)) in omega (arith, k.long)

module _ (b : List ℕ) (n x w v : ℕ) (l : List ℕ) (k : Ready b n) (e : l ≡ writes_of (history b n)) (h : x < 1024) (q : w ≡ get_or l x 0)
    (z : get_or l x 0 ≡ 0 → ⊥) (t : v ≡ tx_in (record_at b w)) where
  last_one : last_write (history b n) x ≡ some (op_of w (record_at b w))
  last_one = last_some b n x w l k e h q (λ y. z (sym q ∙ y))

  writes-x : write_to x (op_of w (record_at b w)) ≡ true
  writes-x = latest-passes (write_to x) (history b n) last_one

  ends-low : v < 1025
  ends-low = last-low b n x w l k e h q v (λ y. z (sym q ∙ y)) t

  stands-by : (m : List ℕ) → m ≡ ends_of (history b n) → (d : Amount)
      → standing d (history b n) x ≡ cond (eqb (get_or m v 0) 2) (before_in (base_write (history b n) x) (pos 0)) (after_of (op_of w (record_at b w)) (pos 0))
  stands-by m g d =
      let end : get_or m v 0 ≡ end_code (history b n) (tx_of (op_of w (record_at b w))) = rw (g, (ends-array (history b n)).at v 0 ends-low, t, tx_of-op_of w (record_at b w)) in
      standing-last d x (history b n) (passing-history b n k.passed) last_one ∙ rw (last_one, end)

module _ (b : List ℕ) (n x w v : ℕ) (l : List ℕ) (ends : List End) (k : Ready b n) (e : l ≡ writes_of (history b n)) (h : x < 1024) (q : w ≡ get_or l x 0)
    (z : get_or l x 0 ≡ 0 → ⊥) (t : v ≡ tx_in (record_at b w)) (g : codes ends ≡ ends_of (history b n)) where
  pub last-ends : v < 1025
  last-ends = ends-low b n x w v l k e h q z t

  stands : standing (pos 0) (history b n) x ≡ cond (eqb (code_of (get_or ends v Open)) 2) (before_in (base_write (history b n) x) (pos 0)) (after_of (op_of w (record_at b w)) (pos 0))
  stands = rw (← code-at ends v) (stands-by b n x w v l k e h q z t (codes ends) g (pos 0))

  pub standing-after : (r : Record) → (get_or ends v Open ≡ Open) ⊎ (get_or ends v Open ≡ Committed) → r ≡ record_at b w → SFits w32 r.after → to_z w32 (of_z w32 r.after) ≡ standing (pos 0) (history b n) x
  standing-after r y c f =
      to_z-of_z w32 r.after f ∙ ap (λ u. u.after) c ∙ sym (stands ∙ rw (kept y) (write-after w (record_at b w) x (pos 0) (writes-x b n x w v l k e h q z t)))
    where
      kept : (get_or ends v Open ≡ Open) ⊎ (get_or ends v Open ≡ Committed) → eqb (code_of (get_or ends v Open)) 2 ≡ false
      kept (inl o) = rw o
      kept (inr o) = rw o

  pub standing-before : (r : Record) (o : List ℕ) (j : ℕ) → get_or ends v Open ≡ Aborted → o ≡ bases_of (history b n) → j ≡ get_or o x 0 → r ≡ record_at b j
      → SFits w32 r.before → to_z w32 (of_z w32 r.before) ≡ standing (pos 0) (history b n) x
  standing-before r o j y i p c f =
      let (u, s, a) = base-some x (history b n) (passing-history b n k.passed) (last_one b n x w v l k e h q z t) in
      let tag : j ≡ tag_in (base_write (history b n) x) = p ∙ rw i ((bases-array (history b n)).at x 0 h) in
      let found = found_some (base-found x b n) (λ zero. none-ne-some u (sym (found_none (base-found x b n) zero) ∙ s)) in
      let same : u ≡ op_of j (record_at b j) = some_same (sym s ∙ found ∙ ap (λ t. some (op_of t (record_at b t))) (sym tag)) in
      to_z-of_z w32 r.before f ∙ ap (λ u. u.before) c
      ∙ sym (stands ∙ rw (y, s, same) (write-before j (record_at b j) x (pos 0) (rw (← same) a)))

-- whatever the table has
pub standing-any : (b : List ℕ) (n x : ℕ) (l : List ℕ) (d : Amount) → Ready b n → l ≡ writes_of (history b n) → x < 1024 → (get_or l x 0 ≡ 0 → ⊥)
    → standing d (history b n) x ≡ standing (pos 0) (history b n) x
standing-any b n x l d k e h z =
    let a = stands-by b n x (get_or l x 0) _ l k e h refl z refl (ends_of (history b n)) refl in a d ∙ sym (a (pos 0))
