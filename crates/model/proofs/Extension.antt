-- A history with one operation more: the chain, rule 9 and the standing amounts; and the operations of a legal history one by one.
-- Assumes nothing.
use mathlib.Core.Path.{◌≡◌, refl, sym, ◌∙◌, ap}
use mathlib.Core.Bool.{Bool, true, false, cond, not, and-false}
use mathlib.Core.List.{[], ◌∷◌}
use mathlib.Core.Option.{Option, none, some}
use Prim.Native.Nat.{ℕ, suc, ◌<◌, ◌≤◌}
use native.Mathlib.Omega.{arith}
use lib.ListN.{length}
use lib.IntN.{pos}
use lib.Dec.{eqb, ltb}
use borrow.Author.Tests.{eqb-true, eqb-false, eq-eqb, ne_eqb, lt-ltb, le-ltb}
use Rattle.std.proofs.lemmas.Bool.{not-false}
use Rattle.lists.specs.Search.{any, latest, or_else, first}
use Rattle.lists.proofs.BoolLaws.{by_cases, clash}
use Rattle.lists.proofs.SearchLaws.{first-none, first_some, first-old}
use Rattle.model.specs.History.{Op, History, Amount, Tag, same_amount, read, write, commit, abort, other, tx_of, tag_of, before_of, after_of, of_tx, write_of, write_to, before_in, applied, current, initial, standing, later_of, tag_in, next_in}
use Rattle.model.specs.Rules.{mismatched}
use Rattle.model.specs.Undo.{Upto, all, more}
use Rattle.model.proofs.Amounts.{same_refl}
use Rattle.model.proofs.Legal.{LegalStep, Legal}
use Rattle.model.proofs.Repair.{legal-ends, stand-unwritten, unwritten-by}
use Rattle.model.proofs.Opening.{current-written, current-step}

-- ---- the chain

-- record numbers count from 1
abbrev pub Numbered : History → Type 0
Numbered [] = Unit {0}
Numbered (r ∷ p) = Numbered p × (tag_of r ≡ suc (length p))

tag-upto : {q : Op} {p j : History} → Numbered j → Upto (q ∷ p) j → tag_of q ≤ length j
tag-upto n all = omega (arith, n.1)
tag-upto n (more i) = omega (arith, tag-upto n.0 i)

pub latest-tag : (f : Op → Bool) (p : History) → Numbered p → tag_in (latest f p) ≤ length p
latest-tag f [] n = omega arith
latest-tag f (r ∷ p) n = by_cases (f r) (λ e. rw e (omega (arith, n.1))) (λ e. rw e (omega (arith, latest-tag f p n.0)))

tag_in-or_else : (a : Option Op) (r : Op) (n : ℕ) → tag_in a ≤ n → tag_of r ≤ n → tag_in (or_else a (some r)) ≤ n
tag_in-or_else none r n h k = k
tag_in-or_else (some q) r n h k = h

pub first-tag : (f : Op → Bool) (p : History) → Numbered p → tag_in (first f p) ≤ length p
first-tag f [] n = omega arith
first-tag f (r ∷ p) n =
    let ih = first-tag f p n.0 in
    by_cases (f r) (λ e. rw e (tag_in-or_else (first f p) r (suc (length p)) (omega arith) (omega (arith, n.1)))) (λ e. rw e (omega arith))

-- nothing is later than the last number
later-none : (i : Tag) (s : ℕ) (p : History) → Numbered p → length p ≤ i → any (later_of i s) p ≡ false
later-none i s [] n h = refl
later-none i s (r ∷ p) n h =
    let e : ltb i (tag_of r) ≡ false = le-ltb i (tag_of r) (omega (arith, n.1)) in
    rw (e, and-false (eqb s (tx_of r))) (later-none i s p n.0 (omega arith))

-- the last record has no next
pub next_last : (i : Tag) (s : ℕ) (p : History) → Numbered p → length p ≤ i → next_in p i s ≡ 0
next_last i s p n h = ap tag_in (first-none (later_of i s) p (later-none i s p n h))

-- the newest record of s is one of s
newest-tx : (s : ℕ) {q : Op} {p j : History} → Numbered j → Upto (q ∷ p) j → tag_of q ≡ tag_in (latest (of_tx s) j) → s ≡ tx_of q
newest-tx s {q} {p} n all e =
    by_cases (eqb s (tx_of q))
    (λ h. eqb-true s (tx_of q) h)
    (λ h. let f : tag_of q ≡ tag_in (latest (of_tx s) p) = rw h at e in absurd (omega (arith, latest-tag (of_tx s) p n.0, n.1)))
newest-tx s {q} {p} n (more {q = r} {j} i) e =
    by_cases (eqb s (tx_of r))
    (λ h. let f : tag_of q ≡ tag_of r = rw h at e in absurd (omega (arith, tag-upto n.0 i, n.1)))
    (λ h. newest-tx s n.0 i (rw h at e))

-- a record has a later one of its transaction if it is not the newest of it
later-newest : {q : Op} {p j : History} → Numbered j → Upto (q ∷ p) j → any (later_of (tag_of q) (tx_of q)) j ≡ not (eqb (tag_of q) (tag_in (latest (of_tx (tx_of q)) j)))
later-newest {q} {p} n all =
    let e : ltb (tag_of q) (tag_of q) ≡ false = le-ltb (tag_of q) (tag_of q) (omega arith) in
    rw (eq-eqb (tx_of q) (tx_of q) refl, e, eq-eqb (tag_of q) (tag_of q) refl) (later-none (tag_of q) (tx_of q) p n.0 (omega (arith, n.1)))
later-newest {q} {p} n (more {q = r} {j} i) =
    let l : tag_of q < tag_of r = omega (arith, tag-upto n.0 i, n.1) in
    by_cases (eqb (tx_of q) (tx_of r))
    (λ h. rw (h, lt-ltb (tag_of q) (tag_of r) l, ne_eqb (tag_of q) (tag_of r) (λ e. omega arith)))
    (λ h. rw h (later-newest n.0 i))

-- the new operation is the next of the newest until now of its transaction; every other record keeps its next
pub next-extended : (o : Op) {q : Op} {p j : History} → Numbered j → Upto (q ∷ p) j → length j < tag_of o
    → next_in (o ∷ j) (tag_of q) (tx_of q) ≡ cond (eqb (tag_of q) (tag_in (latest (of_tx (tx_of o)) j))) (tag_of o) (next_in j (tag_of q) (tx_of q))
next-extended o {q} {p} {j} n i l =
    let t : ltb (tag_of q) (tag_of o) ≡ true = lt-ltb (tag_of q) (tag_of o) (omega (arith, tag-upto n i)) in
    by_cases (any (later_of (tag_of q) (tx_of q)) j)
    (λ h. let d : eqb (tag_of q) (tag_in (latest (of_tx (tx_of o)) j)) ≡ false =
    by_cases (eqb (tag_of q) (tag_in (latest (of_tx (tx_of o)) j)))
    (λ e. clash (sym (later-newest n i) ∙ h) (rw (← newest-tx (tx_of o) n i (eqb-true _ _ e)) (rw e)))
    (λ e. e) in
    rw d (ap tag_in (first-old (later_of (tag_of q) (tx_of q)) o j h)))
    (λ h. let f = first-none (later_of (tag_of q) (tx_of q)) j h in
    by_cases (eqb (tx_of q) (tx_of o))
    (λ e. let d : eqb (tag_of q) (tag_in (latest (of_tx (tx_of o)) j)) ≡ true =
    rw (← eqb-true (tx_of q) (tx_of o) e) (not-false _ (sym (later-newest n i) ∙ h)) in
    rw (f, e, t, d))
    (λ e. let d : eqb (tag_of q) (tag_in (latest (of_tx (tx_of o)) j)) ≡ false =
    ne_eqb _ _ (λ c. eqb-false (tx_of q) (tx_of o) e (sym (newest-tx (tx_of o) n i c))) in
    rw (f, e, d)))

-- ---- amounts

-- A written item stands at v. Of the table's amounts this is what refusal 10 leaves.
abbrev pub Settled : Amount → History → ℕ → Type 0
Settled v p x = any (write_to x) p ≡ true → standing v p x ≡ v

-- one operation more, and its effect on the table
pub settled-extended : (v : Amount) (r : Op) (p : History) (x : ℕ) → Settled v p x → Settled (applied r p x v) (r ∷ p) x
settled-extended v r p x h w = current-step _ v r p x w (λ q. current-written _ _ p x q ∙ h q)

-- a write whose before image is the table's amount
pub matched-extended : (t : Tag) (s x : ℕ) (b a : Amount) (p : History) → Settled b p x → mismatched p (write t s x b a) ≡ false
matched-extended t s x b a p h =
    by_cases (any (write_to x) p)
    (λ w. let e : same_amount b (standing (pos 0) p x) ≡ true = ap (same_amount b) (current-written _ _ p x w ∙ h w) ∙ same_refl b in rw (w, e))
    (λ w. rw w)

-- from the opening amounts every item comes to the table's amount, written or not
pub settled-current : (v : Amount) (p : History) (x : ℕ) → Settled v p x → current (initial v p x) p x ≡ v
settled-current v p x h =
    by_cases (any (write_to x) p)
    h
    (λ n. stand-unwritten (λ y. initial v p x) x p n ∙ ap (λ w. before_in w v) (first-none (write_to x) p n))

-- ---- what holds of all amounts

-- the before image of each write
abbrev pub Befores : (Amount → Type 0) → History → Type 0
Befores P [] = Unit {0}
Befores P (r ∷ p) = Befores P p × ((d : Amount) → P d → P (before_of r d))

before-first : (P : Amount → Type 0) (f : Op → Bool) (p : History) (d : Amount) → Befores P p → P d → P (before_in (first f p) d)
before-first P f [] d n h = h
before-first P f (r ∷ p) d n h =
    by_cases (any f p)
    (λ w. rw (first-old f r p w) (before-first P f p d n.0 h))
    (λ w. by_cases (f r) (λ e. rw (e, first-none f p w) (n.1 d h)) (λ e. rw (e, first-none f p w) h))

pub applied-all : (P : Amount → Type 0) (r : Op) (p : History) (x : ℕ) (v : Amount) → Befores P p → ((d : Amount) → P d → P (after_of r d)) → P v → P (applied r p x v)
applied-all P (read t s y) p x v n h k = k
applied-all P (write t s y b a) p x v n h k = by_cases (eqb x y) (λ e. rw e (h v k)) (λ e. rw e k)
applied-all P (commit t s) p x v n h k = k
applied-all P (abort t s) p x v n h k = before-first P (write_of s x) p v n k
applied-all P (other t s) p x v n h k = k

-- ---- legal histories

pub legal-at : (o : ℕ → Amount) {r : Op} {p j : History} → Legal o j → Upto (r ∷ p) j → LegalStep o p r
legal-at o k i = (legal-ends o k i).1

-- ---- the opening amount

before_of-write : (x : ℕ) (q : Op) → write_to x q ≡ true → (d e : Amount) → before_of q d ≡ before_of q e
before_of-write x (read t s y) h d e = clash h refl
before_of-write x (write t s y b a) h d e = refl
before_of-write x (commit t s) h d e = clash h refl
before_of-write x (abort t s) h d e = clash h refl
before_of-write x (other t s) h d e = clash h refl

-- an operation that does not write the item leaves it, where it was never written
applied-unwritten : (r : Op) (p : History) (x : ℕ) (v : Amount) → any (write_to x) p ≡ false → write_to x r ≡ false → applied r p x v ≡ v
applied-unwritten (read t s y) p x v n h = refl
applied-unwritten (write t s y b a) p x v n h = rw h
applied-unwritten (commit t s) p x v n h = refl
applied-unwritten (abort t s) p x v n h = ap (λ w. before_in w v) (first-none (write_of s x) p (unwritten-by x s p n))
applied-unwritten (other t s) p x v n h = refl

-- one operation more leaves the opening amount, if the first write of the item has it as its before image
pub initial-extended : (v : Amount) (r : Op) (p : History) (x : ℕ) → (write_to x r ≡ true → before_of r v ≡ v) → initial (applied r p x v) (r ∷ p) x ≡ initial v p x
initial-extended v r p x h =
    by_cases (any (write_to x) p)
    (λ w. let (q, e, f) = first_some (write_to x) p w in rw (first-old (write_to x) r p w, e) (before_of-write x q f (applied r p x v) v))
    (λ n. let e = first-none (write_to x) p n in
    by_cases (write_to x r)
    (λ f. rw (f, e) (before_of-write x r f (applied r p x v) v ∙ h f))
    (λ f. rw (f, e) (applied-unwritten r p x v n f)))
