-- In a history that passes rules 6, 7 and 9, open transactions exclude each other, and the standing amount is what the writes seen leave.
-- Assumes nothing.
use mathlib.Core.Path.{◌≡◌, subst, refl, sym, ◌∙◌}
use mathlib.Core.Bool.{Bool, true, false, not, ◌&&◌, and-false}
use mathlib.Core.List.{[], ◌∷◌}
use Prim.Native.Nat.{ℕ}
use lib.Dec.{eqb}
use borrow.Author.Tests.{eqb-true, eqb-false, eq-eqb, ne_eqb}
use Rattle.std.proofs.lemmas.Bool.{or_right}
use Rattle.lists.specs.Search.{any, first}
use Rattle.lists.proofs.BoolLaws.{by_cases, or_cases, and_left, and_right, or-false-left, or-false-right, clash}
use Rattle.lists.proofs.SearchLaws.{any-mono, first-none, first-old}
use Rattle.model.specs.History.{Op, History, Amount, Tag, read, write, commit, abort, other, tx_of, write_of, access_of, write_to, access_to, committed, ended, before_in}
use Rattle.model.specs.Rules.{by_other}
use Rattle.model.specs.Undo.{visible_to, replayed}
use Rattle.model.proofs.Ends.{OfTx, EndsLast, write-of, write-to, write-access, write-touch, access-of, access-to, not-committed}
use Rattle.model.proofs.Legal.{stand, LegalStep, Legal}

pub legal-ends_last : (o : ℕ → Amount) (p : History) → Legal o p → EndsLast p
legal-ends_last o [] h = tt
legal-ends_last o (r ∷ p) h = (legal-ends_last o p h.0, h.1.not_terminated)

pub neq-sym : (a b : ℕ) → eqb a b ≡ false → eqb b a ≡ false
neq-sym a b e = ne_eqb b a (λ q. eqb-false a b e (sym q))

eqb_comm : (a b : ℕ) → eqb a b ≡ eqb b a
eqb_comm a b = by_cases (eqb a b) (λ e. e ∙ sym (eq-eqb b a (sym (eqb-true a b e)))) (λ e. e ∙ sym (neq-sym a b e))

-- no other open transaction has a record that passes
pub not_conflicting-any : (f h : Op → Bool) (p : History) (s v : ℕ) → OfTx h v → ((r : Op) → h r ≡ true → f r ≡ true)
    → by_other f p s ≡ false → eqb s v ≡ false → ended p v ≡ false → any h p ≡ false
not_conflicting-any f h p s v o i n e d =
    by_cases (any h p) (λ q. clash (any-mono h (λ r. f r && (not (eqb s (tx_of r)) && not (ended p (tx_of r)))) (λ r g. rw (i r g, ← o r g, e, d)) p q) n) (λ q. q)

-- which transactions count matters only at the item's writers
pub replayed-by : (g g' : ℕ → Bool) (d : Amount) (x : ℕ) (p : History) → ((v : ℕ) → any (write_of v x) p ≡ true → g v ≡ g' v) → replayed g d p x ≡ replayed g' d p x
replayed-by g g' d x [] h = refl
replayed-by g g' d x (read t v y ∷ p) h = replayed-by g g' d x p h
replayed-by g g' d x (write t v y b a ∷ p) h =
    let ih = replayed-by g g' d x p (λ u q. h u (or_right (eqb u v && eqb x y) _ q)) in
    by_cases (eqb x y) (λ e. simp (h v (rw (eq-eqb v v refl, e)), ih)) (λ e. simp (e, ih))
replayed-by g g' d x (commit t v ∷ p) h = replayed-by g g' d x p h
replayed-by g g' d x (abort t v ∷ p) h = replayed-by g g' d x p h
replayed-by g g' d x (other t v ∷ p) h = replayed-by g g' d x p h

module _ (o : ℕ → Amount) (x : ℕ) where
  -- while both are open, what one has touched another has not written
  pub excl : (s v : ℕ) → eqb s v ≡ false → (p : History) → Legal o p → ended p s ≡ false → ended p v ≡ false
      → any (access_of s x) p ≡ true → any (write_of v x) p ≡ true → ⊥
  excl s v n [] k a b r w = clash w refl
  excl s v n (read t u y ∷ p) k a b r w =
      or_cases (eqb s u && eqb x y) (any (access_of s x) p) r
      (λ q. let e = eqb-true s u (and_left (eqb s u) _ q) in let f = eqb-true x y (and_right (eqb s u) _ q) in
      clash (subst (λ z. any (write_of v z) p ≡ true) f w) (not_conflicting-any (write_to y) (write_of v y) p u v (write-of v y) (write-to v y) k.1.not_conflicting (rw e at n) b))
      (λ q. excl s v n p k.0 a b q w)
  excl s v n (write t u y c d ∷ p) k a b r w =
      or_cases (eqb v u && eqb x y) (any (write_of v x) p) w
      (λ q. let e = eqb-true v u (and_left (eqb v u) _ q) in let f = eqb-true x y (and_right (eqb v u) _ q) in
      let m : eqb s u ≡ false = rw e at n in
      clash (subst (λ z. any (access_of s z) p ≡ true) f (rw m at r)) (not_conflicting-any (access_to y) (access_of s y) p u s (access-of s y) (access-to s y) k.1.not_conflicting (neq-sym s u m) a))
      (λ q. or_cases (eqb s u && eqb x y) (any (access_of s x) p) r
      (λ z. let e = eqb-true s u (and_left (eqb s u) _ z) in let f = eqb-true x y (and_right (eqb s u) _ z) in
      clash (subst (λ z. any (write_of v z) p ≡ true) f q) (not_conflicting-any (access_to y) (write_of v y) p u v (write-of v y) (write-touch v y) k.1.not_conflicting (rw e at n) b))
      (λ z. excl s v n p k.0 a b z q))
  excl s v n (commit t u ∷ p) k a b r w = excl s v n p k.0 (or-false-right (eqb s u) _ a) (or-false-right (eqb v u) _ b) r w
  excl s v n (abort t u ∷ p) k a b r w = excl s v n p k.0 (or-false-right (eqb s u) _ a) (or-false-right (eqb v u) _ b) r w
  excl s v n (other t u ∷ p) k a b r w = excl s v n p k.0 a b r w

  -- no open transaction but s has written the item
  abbrev pub Alone : History → ℕ → Type 0
  Alone p s = (v : ℕ) → eqb s v ≡ false → ended p v ≡ false → any (write_of v x) p ≡ false

  alone : (s : ℕ) (p : History) → Legal o p → ended p s ≡ false → any (write_of s x) p ≡ true → Alone p s
  alone s p k a w v n b =
      by_cases (any (write_of v x) p) (λ q. absurd (excl s v n p k a b (any-mono (write_of s x) (access_of s x) (write-access s x) p w) q)) (λ q. q)

  -- rule 7 leaves a reader alone, and a writer
  pub alone-read : (t : Tag) (s : ℕ) (p : History) → LegalStep o p (read t s x) → Alone p s
  alone-read t s p k v n b = not_conflicting-any (write_to x) (write_of v x) p s v (write-of v x) (write-to v x) k.not_conflicting n b

  pub alone-write : (t : Tag) (s : ℕ) (b a : Amount) (p : History) → LegalStep o p (write t s x b a) → Alone p s
  alone-write t s b a p k v n e = not_conflicting-any (access_to x) (write_of v x) p s v (write-of v x) (write-touch v x) k.not_conflicting n e

  -- The standing amount: alone at the item, a transaction finds its own writes and the committed ones; an open writer's first before
  -- image is what the committed ones left.
  pub record Inv (p : History) : Type 0 where
    pub amount : (s : ℕ) → ended p s ≡ false → Alone p s → stand o p x ≡ replayed (visible_to p s) (o x) p x
    pub before : (s : ℕ) (d : Amount) → ended p s ≡ false → any (write_of s x) p ≡ true → before_in (first (write_of s x) p) d ≡ replayed (committed p) (o x) p x

  -- an open transaction that is no writer is not the writer u
  pub unlike : (s u : ℕ) (p : History) → any (write_of s x) p ≡ false → any (write_of u x) p ≡ true → eqb s u ≡ false
  unlike s u p n w = ne_eqb s u (λ q. clash w (rw q at n))

  inv-write : (t : Tag) (v y : ℕ) (b a : Amount) (p : History) → Legal o (write t v y b a ∷ p) → Inv p → Inv (write t v y b a ∷ p)
  inv-write t v y b a p k i = record {
    amount = λ s e h. by_cases (eqb x y)
        (λ q. by_cases (eqb s v) (λ r. rw (q, r)) (λ r. clash (rw (eq-eqb v v refl, q)) (h v r k.1.not_terminated)))
        (λ q. rw q (i.amount s e (λ u n m. or-false-right (eqb u v && eqb x y) _ (h u n m))));
    before = λ s d e w. rw (not-committed v p k.1.not_terminated, and-false (eqb x y))
        (by_cases (any (write_of s x) p)
        (λ q. rw (first-old (write_of s x) (write t v y b a) p q) (i.before s d e q))
        (λ q. or_cases (eqb s v && eqb x y) (any (write_of s x) p) w
        (λ g. let sv = eqb-true s v (and_left (eqb s v) _ g) in let xy = eqb-true x y (and_right (eqb s v) _ g) in
        rw (g, first-none (write_of s x) p q)
        (let k' : Legal o (write t v x b a ∷ p) = rw (← xy) at k in
        k'.1.right ∙ i.amount v k.1.not_terminated (alone-write t v b a p k'.1) ∙ replayed-by _ _ _ x p (λ u z. rw (unlike v u p (rw sv at q) z))))
        (λ g. clash g q)));
  }

  inv-commit : (t : Tag) (v : ℕ) (p : History) → Legal o (commit t v ∷ p) → Inv p → Inv (commit t v ∷ p)
  inv-commit t v p k i = record {
    amount = λ s e h.
        let n : eqb s v ≡ false = or-false-left (eqb s v) _ e in
        let e' : ended p s ≡ false = or-false-right (eqb s v) _ e in
        by_cases (any (write_of v x) p)
        (λ w. let al = alone v p k.0 k.1.not_terminated w in
        i.amount v k.1.not_terminated al ∙ (replayed-by _ _ _ x p λ u q. rw (unlike s u p (al s (neq-sym s v n) e') q, eqb_comm v u)))
        (λ w. i.amount s e' (λ u m c. by_cases (eqb u v) (λ r. rw (eqb-true u v r) w) (λ r. h u m (rw r c)))
        ∙ (replayed-by _ _ _ x p λ u q. rw (neq-sym v u (unlike v u p w q))));
    before = λ s d e w.
        let e' : ended p s ≡ false = or-false-right (eqb s v) _ e in
        let al = alone s p k.0 e' w v (or-false-left (eqb s v) _ e) k.1.not_terminated in
        i.before s d e' w ∙ (replayed-by _ _ _ x p λ u q. rw (neq-sym v u (unlike v u p al q)));
  }

  inv-abort : (t : Tag) (v : ℕ) (p : History) → Legal o (abort t v ∷ p) → Inv p → Inv (abort t v ∷ p)
  inv-abort t v p k i = record {
    amount = λ s e h.
        let n : eqb s v ≡ false = or-false-left (eqb s v) _ e in
        let e' : ended p s ≡ false = or-false-right (eqb s v) _ e in
        by_cases (any (write_of v x) p)
        (λ w. i.before v (stand o p x) k.1.not_terminated w
        ∙ (replayed-by _ _ _ x p λ u q. rw (unlike s u p (alone v p k.0 k.1.not_terminated w s (neq-sym s v n) e') q)))
        (λ w. rw (first-none (write_of v x) p w) (i.amount s e' (λ u m c. by_cases (eqb u v) (λ r. rw (eqb-true u v r) w) (λ r. h u m (rw r c)))));
    before = λ s d e w. i.before s d (or-false-right (eqb s v) _ e) w;
  }

  pub inv : (p : History) → Legal o p → Inv p
  inv [] k = record { amount = λ s e h. refl; before = λ s d e w. clash w refl }
  inv (read t v y ∷ p) k = let i = inv p k.0 in record { amount = i.amount; before = i.before }
  inv (write t v y b a ∷ p) k = inv-write t v y b a p k (inv p k.0)
  inv (commit t v ∷ p) k = inv-commit t v p k (inv p k.0)
  inv (abort t v ∷ p) k = inv-abort t v p k (inv p k.0)
  inv (other t v ∷ p) k = let i = inv p k.0 in record { amount = i.amount; before = i.before }
