-- The working arrays after one record more, by its kind.
-- Assumes nothing.
use mathlib.Core.Path.{◌≡◌, refl, sym, ◌∙◌, ap}
use mathlib.Core.Bool.{Bool, false, cond}
use mathlib.Core.List.{List, ◌∷◌}
use Prim.Native.Nat.{ℕ, suc, ◌+◌, ◌<◌, ◌≤◌}
use native.Mathlib.Omega.{arith}
use native.Mathlib.Numerals.{add-one}
use lib.Dec.{eqb}
use lib.ListN.{length, get_or, set, length-set}
use lib.Seq.{get_or-set_same, get_or-set_other}
use borrow.Author.Tests.{eqb-true, eqb-false, eq-eqb, ne_eqb}
use Rattle.lists.specs.Search.{first}
use Rattle.lists.proofs.BoolLaws.{by_cases}
use Rattle.format.specs.declared.Record.{Record}
use Rattle.format.specs.Layout.{record_at}
use Rattle.model.specs.History.{Op, History, read, write, tx_of, tag_of, tag_in, of_tx}
use Rattle.journal.specs.Journal.{items, tx_in, op_of, history}
use Rattle.journal.specs.Refusals.{malformed}
use Rattle.journal.proofs.Records.{tx_of-op_of, tag_of-op_of, history-suc}
use Rattle.journal.proofs.Unrefused.{op_of-read, op_of-write, op_of-commit, op_of-abort}
use Rattle.journal.proofs.Passing.{malformed-tx}
use Rattle.arrays.specs.declared.Touched.{Touched}
use Rattle.arrays.specs.Recent.{last_write, by_tx}
use Rattle.arrays.specs.Arrays.{Ready, Linked, State, ends_of, firsts_of, writes_of, bases_of, reads_of, read_before}
use Rattle.arrays.specs.Writers.{writer_of}
use Rattle.arrays.proofs.Found.{first_found, found_none, found_some}
use Rattle.arrays.proofs.ArraysLaws.{firsts-array, writes-array, bases-array, reads-array, item-read, item-write}
use Rattle.note.specs.Firsts.{first_put}
use Rattle.note.proofs.Steps.{firsts-set, firsts_same, ends-commit, ends-abort, writes-write, bases-again, bases-write, reads-read, reads-write}

-- ---- leaves

pub put_first : (l : List ℕ) (s i : ℕ) → get_or l s 0 ≡ 0 → set l s i ≡ first_put l s i
unfolding first_put
put_first l s i e = rw (eq-eqb (get_or l s 0) 0 e)

pub put-later : (l : List ℕ) (s i : ℕ) → (get_or l s 0 ≡ 0 → ⊥) → l ≡ first_put l s i
unfolding first_put
put-later l s i e = rw (ne_eqb (get_or l s 0) 0 e)

-- ---- links

linked-other : (b : List ℕ) (n : ℕ) (l : List ℕ) → Linked b n l → ((record_at b (suc n)).kind ≡ 1 → ⊥) → Linked b (suc n) l
linked-other b n l i h = record { size = i.size; link = at }
  where
    at : (k : ℕ) → 1 ≤ k → k ≤ suc n → (record_at b k).kind ≡ 1 → get_or l k 0 ≡ read_before b k
    at k a c e =
        by_cases (eqb k (suc n))
        (λ q. absurd (h (rw (eqb-true k (suc n) q) at e)))
        (λ q. let d = eqb-false k (suc n) q in i.link k a (omega arith) e)

linked-read : (b : List ℕ) (n : ℕ) (l m : List ℕ) → n < 3200 → Linked b n l → (record_at b (suc n)).item.0 < 1024 → m ≡ reads_of (history b n)
    → Linked b (suc n) (set l (suc n) (get_or m (record_at b (suc n)).item.0 0))
unfolding read_before
linked-read b n l m u i h e =
    record {
      size = length-set l _ _ ∙ i.size;
      link = λ k a c g.
          by_cases (eqb k (suc n))
          (λ q. let z = eqb-true k (suc n) q in
          rw z (get_or-set_same l (suc n) _ 0 (omega (arith, i.size)) ∙ rw e ((reads-array (history b n)).at (record_at b (suc n)).item.0 0 h)))
          (λ q. let d = eqb-false k (suc n) q in get_or-set_other l (suc n) k _ 0 d ∙ i.link k a (omega arith) g);
    }

-- ---- first records

firsts-step : (b : List ℕ) (n : ℕ) (l : List ℕ) → tx_in (record_at b (suc n)) < 1025 → l ≡ firsts_of (history b n)
    → first_put l (tx_in (record_at b (suc n))) (suc n) ≡ firsts_of (op_of (suc n) (record_at b (suc n)) ∷ history b n)
unfolding first_put
firsts-step b n l h e =
    let s = tx_in (record_at b (suc n)) in
    let o = op_of (suc n) (record_at b (suc n)) in
    let t : tx_of o ≡ s = tx_of-op_of (suc n) (record_at b (suc n)) in
    let g : tag_of o ≡ suc n = tag_of-op_of (suc n) (record_at b (suc n)) in
    let a : get_or l s 0 ≡ tag_in (first (of_tx s) (history b n)) = rw e ((firsts-array (history b n)).at s 0 h) in
    by_cases (eqb (get_or l s 0) 0)
    (λ q. let none' = found_none (first_found (of_tx s) b n) (sym a ∙ eqb-true (get_or l s 0) 0 q) in
    rw (q, e) (rw (t, g) at (firsts-set (history b n) o (rw t none'))))
    (λ q. let some' = found_some (first_found (of_tx s) b n) (λ z. eqb-false (get_or l s 0) 0 q (a ∙ z)) in
    rw (q, e) (firsts_same (history b n) o (ap (λ v. first (of_tx v) (history b n)) t ∙ some')))

-- the transaction that wrote an item last writes it again
pub own-again : (p : History) (s x : ℕ) (t : Touched) → t ≡ writer_of p s x → t.own ≡ by_tx (last_write p x) s
unfolding writer_of
own-again p s x t e = ap (λ u. u.own) e

-- ---- all arrays

module _ (b : List ℕ) (n : ℕ) (r : Record) (ends firsts writes bases reads links firsts' : List ℕ) (k : Ready b n) (u : n < 3200) (s : State b n ends firsts writes bases reads links)
    (f : malformed (items b) r ≡ false) (e : r ≡ record_at b (n + 1)) (i : firsts' ≡ first_put firsts (tx_in r) (n + 1)) where
  here : r ≡ record_at b (suc n)
  here = rw add-one at e

  now-first : firsts' ≡ firsts_of (op_of (suc n) r ∷ history b n)
  now-first =
      let g = malformed-tx (items b) r f in
      let h : tx_in (record_at b (suc n)) < 1025 = rw (← here) (omega arith) in
      i ∙ rw (add-one, here) (firsts-step b n firsts h s.begun)

  state : (o : Op) → op_of (suc n) r ≡ o → {ends' writes' bases' reads' links' : List ℕ} → ends' ≡ ends_of (o ∷ history b n) → writes' ≡ writes_of (o ∷ history b n)
      → bases' ≡ bases_of (o ∷ history b n) → reads' ≡ reads_of (o ∷ history b n) → Linked b (suc n) links' → State b (n + 1) ends' firsts' writes' bases' reads' links'
  state o q a c d g l =
      let h : history b (suc n) ≡ o ∷ history b n = history-suc b n ∙ ap (λ t. op_of (suc n) t ∷ history b n) (sym here) ∙ ap (λ t. t ∷ history b n) q in
      rw add-one
      (record {
        ended = rw h a;
        begun = rw (h, ← q) now-first;
        written = rw h c;
        based = rw h d;
        last_read = rw h g;
        linked = l;
      })

  pub state-read : (reads' links' : List ℕ) → r.kind ≡ 1 → links' ≡ set links (n + 1) (get_or reads r.item.0 0) → reads' ≡ set reads r.item.0 (n + 1)
      → State b (n + 1) ends firsts' writes bases reads' links'
  unfolding ends_of writes_of bases_of
  state-read reads' links' q c d =
      let x = item-read b n r k f q in
      state (read (suc n) (tx_in r) r.item.0) (op_of-read (suc n) r q)
      s.ended
      s.written
      s.based
      (d ∙ rw (add-one, s.last_read) (reads-read (history b n) (suc n) (tx_in r) r.item.0))
      (rw (c, add-one, here) (linked-read b n links reads u s.linked (rw here at x) s.last_read))

  not-read : (m : ℕ) → r.kind ≡ m → (m ≡ 1 → ⊥) → (record_at b (suc n)).kind ≡ 1 → ⊥
  not-read m q h z = h (sym q ∙ ap (λ t. t.kind) here ∙ z)

  pub state-write : (writes' bases' reads' : List ℕ) (again : Bool) → r.kind ≡ 2 → again ≡ by_tx (last_write (history b n) r.item.0) (tx_in r) → writes' ≡ set writes r.item.0 (n + 1)
      → bases' ≡ cond again bases (set bases r.item.0 (n + 1)) → reads' ≡ set reads r.item.0 0
      → State b (n + 1) ends firsts' writes' bases' reads' links
  unfolding ends_of
  state-write writes' bases' reads' again q v c d g =
      let y = r.item.0 in
      state (write (suc n) (tx_in r) y r.before r.after) (op_of-write (suc n) r q)
      s.ended
      (c ∙ rw (add-one, s.written) (writes-write (history b n) (suc n) (tx_in r) y r.before r.after))
      (d ∙ rw (add-one, v, s.based)
      (by_cases (by_tx (last_write (history b n) y) (tx_in r))
      (λ z. rw z (bases-again (history b n) (suc n) (tx_in r) y r.before r.after z))
      (λ z. rw z (bases-write (history b n) (suc n) (tx_in r) y r.before r.after z))))
      (g ∙ rw s.last_read (reads-write (history b n) (suc n) (tx_in r) y r.before r.after))
      (linked-other b n links s.linked (not-read 2 q (λ z. eqb-false 2 1 refl z)))

  ended : (o : Op) (m c : ℕ) → r.kind ≡ m → (m ≡ 1 → ⊥) → op_of (suc n) r ≡ o → set (ends_of (history b n)) (tx_in r) c ≡ ends_of (o ∷ history b n)
      → writes_of (history b n) ≡ writes_of (o ∷ history b n) → bases_of (history b n) ≡ bases_of (o ∷ history b n) → reads_of (history b n) ≡ reads_of (o ∷ history b n)
      → {ends' : List ℕ} → ends' ≡ set ends (tx_in r) c → State b (n + 1) ends' firsts' writes bases reads links
  ended o m c q h z v w d g y =
      state o z (y ∙ rw s.ended v) (s.written ∙ w) (s.based ∙ d) (s.last_read ∙ g) (linked-other b n links s.linked (not-read m q h))

  pub state-commit : (ends' : List ℕ) → r.kind ≡ 3 → ends' ≡ set ends (tx_in r) 1 → State b (n + 1) ends' firsts' writes bases reads links
  unfolding writes_of bases_of reads_of
  state-commit ends' q = ended _ 3 1 q (eqb-false 3 1 refl) (op_of-commit (suc n) r q) (ends-commit (history b n) (suc n) (tx_in r)) refl refl refl

  pub state-abort : (ends' : List ℕ) → r.kind ≡ 4 → ends' ≡ set ends (tx_in r) 2 → State b (n + 1) ends' firsts' writes bases reads links
  unfolding writes_of bases_of reads_of
  state-abort ends' q = ended _ 4 2 q (eqb-false 4 1 refl) (op_of-abort (suc n) r q) (ends-abort (history b n) (suc n) (tx_in r)) refl refl refl

-- ---- a record that is not malformed

module _ (b : List ℕ) (n : ℕ) (r : Record) (k : Ready b n) (f : malformed (items b) r ≡ false) where
  pub next-low : tx_in r < 1025
  next-low = let g = malformed-tx (items b) r f in omega arith

  pub read-low : r.kind ≡ 1 → r.item.0 < 1024
  read-low = item-read b n r k f

  pub write-low : r.kind ≡ 2 → r.item.0 < 1024
  write-low = item-write b n r k f

-- ---- indices

module _ (b : List ℕ) (n : ℕ) (ends firsts writes bases reads links : List ℕ) (s : State b n ends firsts writes bases reads links) where
  pub in-firsts : (t : ℕ) → t < 1025 → t < length firsts
  in-firsts t l = rw (s.begun, (firsts-array (history b n)).size) l

  module _ (x : ℕ) (l : x < 1024) where
    pub in-reads : x < length reads
    in-reads = rw (s.last_read, (reads-array (history b n)).size) l

    pub in-writes : x < length writes
    in-writes = rw (s.written, (writes-array (history b n)).size) l

    pub in-bases : x < length bases
    in-bases = rw (s.based, (bases-array (history b n)).size) l

  pub in-links : n < 3200 → n + 1 < length links
  in-links u = omega (arith, s.linked.size)
