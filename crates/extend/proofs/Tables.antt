-- The table after one record more: an amount stored, and a transaction's writes undone from the last to the first.
-- Assumes nothing.
use mathlib.Core.Path.{◌≡◌, refl, sym, ◌∙◌}
use mathlib.Core.Bool.{true, false}
use mathlib.Core.List.{List, ◌∷◌}
use Prim.Native.Nat.{ℕ, suc, ◌+◌, ◌-◌, ◌*◌, ◌<◌, ◌≤◌}
use native.Mathlib.Omega.{arith}
use native.Mathlib.Numerals.{add-one}
use lib.Dec.{eqb}
use lib.IntN.{pos}
use lib.ListN.{length, set, length-set}
use lib.Seq.{ext_get_or}
use mir.Syntax.{w32}
use mir.Val.{to_z, of_z, SFits}
use mir.ValLaws.{to_z-of_z}
use Rattle.std.proofs.lemmas.Grind.{common_steps}
use Rattle.lists.specs.Search.{any, first}
use Rattle.lists.proofs.SearchLaws.{first-none, first_some, first-old}
use Rattle.format.specs.declared.Record.{Record}
use Rattle.format.specs.Layout.{record_at}
use Rattle.model.specs.History.{Op, History, Amount, Tag, write, abort, write_of, before_in, applied}
use Rattle.journal.specs.Journal.{items, tx_in, op_of, history, amount_at}
use Rattle.journal.specs.Refusals.{malformed}
use Rattle.journal.specs.Calls.{applied_table}
use Rattle.journal.proofs.Records.{history-zero, history-suc}
use Rattle.journal.proofs.Passing.{malformed-item}
use Rattle.journal.proofs.Unrefused.{op_of-write, op_of-abort}
use Rattle.journal.proofs.Appending.{length-applied_table, amount-applied_table}
use Rattle.arrays.specs.Arrays.{Ready}
use Rattle.arrays.proofs.Found.{passed-right}
use Rattle.extend.specs.Entering.{restored_by}

-- a table from its amounts
table_is : (p : History) (o : Op) (t l : List Amount) → length l ≡ length t → ((x : ℕ) → x < length t → amount_at l x ≡ applied o p x (amount_at t x)) → l ≡ applied_table p o t
table_is p o t l e h =
    ext_get_or (pos 0) l (applied_table p o t) (e ∙ sym (length-applied_table p o t))
    (λ x m. let n : x < length t = omega arith in h x n ∙ sym (amount-applied_table p o t x n))

-- ---- one record

pub item_within : (m : ℕ) (r : Record) → malformed m r ≡ false → r.kind ≡ 2 → r.item.0 < m
item_within m r f e = malformed-item m r f (omega arith)

-- what is no write of the transaction is none of the item either
no_write : (s x : ℕ) (i : Tag) (r : Record) → eqb r.kind 2 ≡ false → write_of s x (op_of i r) ≡ false
unfolding op_of
no_write s x i r e = grind (arith, common_steps)

-- the before image of a first write does not depend on the amount that stands
first-before : (s x : ℕ) (p : History) (d e : Amount) → any (write_of s x) p ≡ true → before_in (first (write_of s x) p) d ≡ before_in (first (write_of s x) p) e
first-before s x p d e h = let (w, q, t) = first_some (write_of s x) p h in grind (arith, common_steps)

length-restored : (s : ℕ) (r : Record) (t : List Amount) → length (restored_by s r t) ≡ length t
unfolding restored_by
length-restored s r t = grind (arith, common_steps)

-- at one item: the record undone, then those before it
at_item : (s : ℕ) (i : Tag) (r : Record) (t : List Amount) → (r.kind ≡ 2 → r.item.0 < length t) → (x : ℕ) (p : History)
    → before_in (first (write_of s x) p) (amount_at (restored_by s r t) x) ≡ before_in (first (write_of s x) (op_of i r ∷ p)) (amount_at t x)
unfolding restored_by
at_item s i r t k x p =
    let same = first-before s x p (amount_at t x) (amount_at (restored_by s r t) x) in
    grind (arith, common_steps, same, no_write s x i r, op_of-write i r, first-old (write_of s x) (op_of i r) p, first-none (write_of s x) p)

-- ---- the records, from the last to the first

-- record j, which is i + 1, undone in the table, then the first i records: the first j records
one-undone : (b : List ℕ) (n s i j : ℕ) (t : List Amount) → j ≡ suc i → malformed (length t) (record_at b j) ≡ false
    → applied_table (history b i) (abort (n + 1) s) (restored_by s (record_at b j) t) ≡ applied_table (history b j) (abort (n + 1) s) t
one-undone b n s i j t e f =
    let q : Record = record_at b j in
    let o : Op = abort (n + 1) s in
    let w : q.kind ≡ 2 → q.item.0 < length t = item_within (length t) q f in
    let l : length (restored_by s q t) ≡ length t = length-restored s q t in
    let h : history b j ≡ op_of j q ∷ history b i = rw e (history-suc b i) in
    sym (table_is (history b i) o (restored_by s q t) (applied_table (history b j) o t)
    (length-applied_table (history b j) o t ∙ sym l)
    (λ x m. amount-applied_table (history b j) o t x (omega arith) ∙ rw h (sym (at_item s j q t w x (history b i)))))

-- what the first k records make of the table so far is what all n make of the first table
module _ (b : List ℕ) (n s : ℕ) (t₀ t : List Amount) (k : ℕ) (same : applied_table (history b k) (abort (n + 1) s) t ≡ applied_table (history b n) (abort (n + 1) s) t₀) where
  pub restored-end : k ≤ 0 → t ≡ applied_table (history b n) (abort (n + 1) s) t₀
  restored-end l = let z : k ≡ 0 = omega arith in table_is (history b k) (abort (n + 1) s) t t refl (λ x h. rw (z, history-zero b)) ∙ same

  module _ (r : Ready b n) (long : length t₀ ≡ items b) (size : length t ≡ length t₀) (l : 0 < k) (m : k ≤ n) where
    pub restored-long : 20 * (k - 1 + 1 + 1) ≤ length b
    restored-long = omega (arith, r.long)

    pub restored-formed : malformed (length t) (record_at b (k - 1 + 1)) ≡ false
    restored-formed = rw (size, long, add-one) (passed-right b n r.passed (k - 1) (omega arith)).formed

    pub restored-step : (t' : List Amount) → t' ≡ restored_by s (record_at b (k - 1 + 1)) t → applied_table (history b (k - 1)) (abort (n + 1) s) t' ≡ applied_table (history b n) (abort (n + 1) s) t₀
    restored-step t' e = let j : k - 1 + 1 ≡ k = omega arith in rw (e, one-undone b n s (k - 1) (k - 1 + 1) t (omega arith) restored-formed, j) same

pub ruleset undone = (restored-end, restored-long, restored-formed, restored-step)

-- ---- the new record

-- an amount after a record that is neither write nor abort
kept : (p : History) (i : Tag) (r : Record) (x : ℕ) (v : Amount) → (r.kind ≡ 2 → ⊥) → (r.kind ≡ 4 → ⊥) → v ≡ applied (op_of i r) p x v
unfolding op_of
kept p i r x v w a = grind (arith, common_steps)

module _ (b : List ℕ) (n : ℕ) (r : Record) (t t' : List Amount) where
  pub after_write : r.item.0 < length t → r.kind ≡ 2 → SFits w32 r.after → t' ≡ set t r.item.0 (to_z w32 (of_z w32 r.after)) → t' ≡ applied_table (history b n) (op_of (n + 1) r) t
  after_write l e fits q =
      rw (q, to_z-of_z w32 r.after fits, op_of-write (n + 1) r e)
      (table_is (history b n) (write (n + 1) (tx_in r) r.item.0 r.before r.after) t (set t r.item.0 r.after) (length-set t r.item.0 r.after) (λ x h. grind (arith, common_steps)))

  pub after-abort : r.kind ≡ 4 → t' ≡ applied_table (history b n) (abort (n + 1) r.transaction.0) t → t' ≡ applied_table (history b n) (op_of (n + 1) r) t
  after-abort e q = rw (op_of-abort (n + 1) r e) q

  pub after-other : (r.kind ≡ 2 → ⊥) → (r.kind ≡ 4 → ⊥) → t ≡ applied_table (history b n) (op_of (n + 1) r) t
  after-other w a = table_is (history b n) (op_of (n + 1) r) t t refl (λ x h. kept (history b n) (n + 1) r x (amount_at t x) w a)

-- what each kind of record needs
pub ruleset by_kind = (item_within, after_write, after-abort, after-other)
