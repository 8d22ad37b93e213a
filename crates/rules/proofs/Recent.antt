-- In a history that passes rules 6, 7 and 9, rules 6 to 9 and the standing amounts follow from what one pass keeps: only an item's last
-- writer and the reads since its last write matter.
-- Assumes nothing.
use mathlib.Core.Path.{◌≡◌, refl, sym, ◌∙◌, ap, subst}
use mathlib.Core.Bool.{Bool, false≢true, true, false, cond, not, ◌&&◌, ◌||◌, and-false, or-false}
use mathlib.Core.List.{[], ◌∷◌}
use mathlib.Core.Option.{Option, none, some}
use Prim.Native.Nat.{ℕ}
use lib.IntN.{pos}
use lib.Dec.{eqb}
use borrow.Author.Tests.{eqb-true, eq-eqb, not-false}
use Rattle.std.proofs.lemmas.Bool.{and_from, not-true, or_left, or_right}
use Rattle.lists.specs.Search.{any, or_else, first}
use Rattle.lists.proofs.BoolLaws.{by_cases, or_cases, and_left, and_right, or-false-right, same_truth}
use Rattle.lists.proofs.SearchLaws.{any-mono, any_some, any-latest, latest-passes, first-none, first_some}
use Rattle.model.specs.History.{Op, History, Amount, read, write, commit, abort, other, tx_of, before_of, after_of, of_tx, read_of, write_of, access_of, write_to, access_to, by_kind, item_of, never, ended, before_in, current, initial, standing}
use Rattle.model.specs.Rules.{by_other}
use Rattle.model.proofs.Ends.{access-of, access-to, write-access}
use Rattle.model.proofs.Legal.{NoBlindWrites}
use Rattle.model.proofs.Strict.{neq-sym, not_conflicting-any}
use Rattle.model.proofs.Opening.{Passing, step}
use Rattle.arrays.specs.Recent.{end_code, other_active, last_write, by_tx, by_other_active, base_write, reads_since}
use Rattle.arrays.proofs.EndCodes.{ended-code, active-code}
use Rattle.rules.specs.Readers.{read_by_other}
use Rattle.rules.specs.Standing.{standing_of}

-- ---- ends

-- no end: no abort
ended-no-abort : (p : History) (s : ℕ) → ended p s ≡ false → eqb (end_code p s) 2 ≡ false
ended-no-abort p s e = rw (eqb-true (end_code p s) 0 (not-false _ (sym (ended-code p s) ∙ e)))

other-active : (p : History) (s v : ℕ) → other_active p s v ≡ not (eqb s v) && not (ended p v)
other-active p s v = ap (λ e. not (eqb s v) && e) (sym (active-code p v))

-- ---- an open transaction: what it did to item x

module _ (x v : ℕ) where
  -- a write of the item or, with r, a read of it
  abbrev touch_of : Bool → Op → Bool
  touch_of r = by_kind (λ u y. r && item_of v x u y) (λ u y b a. item_of v x u y) never never

  touch-access : (r : Bool) (o : Op) → touch_of r o ≡ true → access_of v x o ≡ true
  touch-access true o h = h
  touch-access false o h = write-access v x o h

  -- there is one, if and only if it wrote the item last or, with r, has read it since
  open-touches : (r : Bool) (p : History) → Passing p → ended p v ≡ false → any (touch_of r) p ≡ by_tx (last_write p x) v || (r && any (of_tx v) (reads_since x p))
  open-touches r [] k e = sym (and-false r)
  open-touches false (read t u y ∷ p) (step k l) e = open-touches false p k e
  open-touches true (read t u y ∷ p) (step k l) e =
      by_cases (eqb x y)
      (λ q. by_cases (eqb v u)
      (λ g. rw (q, g) (sym (or_right (by_tx (last_write p x) v) true refl)))
      (λ g. rw (q, g) (open-touches true p k e)))
      (λ q. rw (q, and-false (eqb v u)) (open-touches true p k e))
  open-touches r (write t u y b a ∷ p) (step k l) e =
      by_cases (eqb x y)
      (λ q. let xy = eqb-true x y q in
      by_cases (eqb v u)
      (λ g. rw (q, g))
      (λ g. rw (q, g, and-false r)
      (not_conflicting-any (access_to x) (touch_of r) p u v (λ o h. access-of v x o (touch-access r o h)) (λ o h. access-to v x o (touch-access r o h)) (rw (← xy) at l.not_conflicting) (neq-sym v u g) e)))
      (λ q. rw (q, and-false (eqb v u)) (open-touches r p k e))
  open-touches r (commit t u ∷ p) (step k l) e = open-touches r p k (or-false-right (eqb v u) _ e)
  open-touches r (abort t u ∷ p) (step k l) e = open-touches r p k (or-false-right (eqb v u) _ e)
  open-touches r (other t u ∷ p) (step k l) e = open-touches r p k e

  open-writes : (p : History) → Passing p → ended p v ≡ false → any (write_of v x) p ≡ by_tx (last_write p x) v
  open-writes p k e = open-touches false p k e ∙ or-false (by_tx (last_write p x) v)

  -- where each write follows a read, it has read what it has read or written
  reads-accesses : (p : History) → NoBlindWrites p → any (read_of v x) p ≡ any (access_of v x) p
  reads-accesses [] g = refl
  reads-accesses (read t u y ∷ p) g = ap (λ a. item_of v x u y || a) (reads-accesses p g.0)
  reads-accesses (write t u y b a ∷ p) g =
      by_cases (item_of v x u y)
      (λ q. rw q
      (subst (λ z. any (read_of z x) p ≡ true) (sym (eqb-true v u (and_left (eqb v u) _ q))) (subst (λ z. any (read_of u z) p ≡ true) (sym (eqb-true x y (and_right (eqb v u) _ q))) (not-false _ g.1))))
      (λ q. rw q (reads-accesses p g.0))
  reads-accesses (commit t u ∷ p) g = reads-accesses p g.0
  reads-accesses (abort t u ∷ p) g = reads-accesses p g.0
  reads-accesses (other t u ∷ p) g = reads-accesses p g.0

  pub open-reads : (p : History) → Passing p → NoBlindWrites p → ended p v ≡ false → any (read_of v x) p ≡ by_tx (last_write p x) v || any (of_tx v) (reads_since x p)
  open-reads p k g e = reads-accesses p g ∙ open-touches true p k e

-- ---- rules 7 and 8

pub own-write : (r : Op) (x : ℕ) → write_to x r ≡ true → write_of (tx_of r) x r ≡ true
own-write (read t v y) x h = h
own-write (write t v y b a) x h = rw (eq-eqb v v refl) h
own-write (commit t v) x h = h
own-write (abort t v) x h = h
own-write (other t v) x h = h

own-access : (r : Op) (x : ℕ) → access_to x r ≡ true → access_of (tx_of r) x r ≡ true
own-access (read t v y) x h = rw (eq-eqb v v refl) h
own-access (write t v y b a) x h = rw (eq-eqb v v refl) h
own-access (commit t v) x h = h
own-access (abort t v) x h = h
own-access (other t v) x h = h

module _ (p : History) (k : Passing p) where
  -- the test of rule 7 at one operation
  abbrev strange : ℕ → Op → Bool
  strange s r = not (eqb s (tx_of r)) && not (ended p (tx_of r))

  open_of : (s v : ℕ) → not (eqb s v) && not (ended p v) ≡ true → ended p v ≡ false
  open_of s v h = not-true (ended p v) (and_right (not (eqb s v)) _ h)

  by-tx-self : (s v : ℕ) (o : Option Op) → by_tx o v ≡ true → not (eqb s v) && not (ended p v) ≡ true → by_other_active p s o ≡ true
  by-tx-self s v none e h = e
  by-tx-self s v (some w) e h = other-active p s (tx_of w) ∙ (rw (eqb-true v (tx_of w) e) at h)

  -- another open transaction that has written the item is its last writer
  pub other-writer : (s x : ℕ) → by_other (write_to x) p s ≡ by_other_active p s (last_write p x)
  other-writer s x = same_truth _ _ there back
    where
      there : by_other (write_to x) p s ≡ true → by_other_active p s (last_write p x) ≡ true
      there e =
          let (r, t, h) = any_some (λ r. write_to x r && strange s r) p e in
          let o = and_right (write_to x r) _ t in
          let w = h (write_of (tx_of r) x) (own-write r x (and_left (write_to x r) _ t)) in
          by-tx-self s (tx_of r) (last_write p x) (sym (open-writes x (tx_of r) p k (open_of s (tx_of r) o)) ∙ w) o

      back : by_other_active p s (last_write p x) ≡ true → by_other (write_to x) p s ≡ true
      back e = found (last_write p x) refl e
        where
          found : (o : Option Op) → last_write p x ≡ o → by_other_active p s o ≡ true → by_other (write_to x) p s ≡ true
          found none q h = absurd (false≢true h)
          found (some w) q h =
              any-latest (write_to x) (λ r. write_to x r && strange s r) p q
              (and_from _ _ (latest-passes (write_to x) p q) (sym (other-active p s (tx_of w)) ∙ h))

  -- and one that has read it has done so since
  pub other-access : (s x : ℕ) → by_other (access_to x) p s ≡ by_other_active p s (last_write p x) || read_by_other p s x
  other-access s x = same_truth _ _ there back
    where
      there : by_other (access_to x) p s ≡ true → by_other_active p s (last_write p x) || read_by_other p s x ≡ true
      there e =
          let (r, t, h) = any_some (λ r. access_to x r && strange s r) p e in
          let v = tx_of r in
          let o = and_right (access_to x r) _ t in
          let a = h (access_of v x) (own-access r x (and_left (access_to x r) _ t)) in
          or_cases (by_tx (last_write p x) v) (any (of_tx v) (reads_since x p)) (sym (open-touches x v true p k (open_of s v o)) ∙ a)
          (λ w. or_left _ (read_by_other p s x) (by-tx-self s v (last_write p x) w o))
          (λ w. or_right (by_other_active p s (last_write p x)) _
          (any-mono (of_tx v) (λ r. other_active p s (tx_of r)) (λ q g. other-active p s (tx_of q) ∙ (rw (eqb-true v (tx_of q) g) at o)) (reads_since x p) w))

      access : (v : ℕ) → not (eqb s v) && not (ended p v) ≡ true → by_tx (last_write p x) v || any (of_tx v) (reads_since x p) ≡ true → by_other (access_to x) p s ≡ true
      access v o h =
          any-mono (access_of v x) (λ r. access_to x r && strange s r)
          (λ r g. and_from _ _ (access-to v x r g) (rw (access-of v x r g) at o)) p
          (open-touches x v true p k (open_of s v o) ∙ h)

      writer : (o : Option Op) → last_write p x ≡ o → by_other_active p s o ≡ true → by_other (access_to x) p s ≡ true
      writer none q h = absurd (false≢true h)
      writer (some w) q h =
          access (tx_of w) (sym (other-active p s (tx_of w)) ∙ h) (or_left _ _ (ap (λ o. by_tx o (tx_of w)) q ∙ eq-eqb (tx_of w) (tx_of w) refl))

      back : by_other_active p s (last_write p x) || read_by_other p s x ≡ true → by_other (access_to x) p s ≡ true
      back e =
          or_cases (by_other_active p s (last_write p x)) (read_by_other p s x) e
          (λ h. writer (last_write p x) refl h)
          (λ h.
          let (r, t, g) = any_some (λ r. other_active p s (tx_of r)) (reads_since x p) h in
          access (tx_of r) (sym (other-active p s (tx_of r)) ∙ t) (or_right (by_tx (last_write p x) (tx_of r)) _ (g (of_tx (tx_of r)) (eq-eqb (tx_of r) (tx_of r) refl))))

-- ---- standing amounts

-- the first write by the last writer
pub base-first : (x : ℕ) (p : History) → Passing p → {w : Op} → last_write p x ≡ some w → base_write p x ≡ first (write_of (tx_of w) x) p
base-first x [] k e = cc
base-first x (read t u y ∷ p) (step k l) e = base-first x p k e
base-first x (write t u y b a ∷ p) (step k l) {w} e =
    by_cases (eqb x y)
    (λ q. let i : some (write t u y b a) ≡ some w = rw q at e in
    let i' : write t u y b a ≡ w = cc in
    let o = open-writes x u p k l.not_terminated in
    subst (λ z. base_write (write t u y b a ∷ p) x ≡ first (write_of (tx_of z) x) (write t u y b a ∷ p)) i'
    (rw (q, eq-eqb u u refl)
    (by_cases (by_tx (last_write p x) u)
    (λ g. rw g (old (λ v. base-first x p k {w = v}) (last_write p x) refl g ∙ sym (kept (o ∙ g))))
    (λ g. rw (g, first-none (write_of u x) p (o ∙ g))))))
    (λ q. rw (q, and-false (eqb (tx_of w) u)) (base-first x p k (rw q at e)))
  where
    old : ((v : Op) → last_write p x ≡ some v → base_write p x ≡ first (write_of (tx_of v) x) p) → (o : Option Op) → last_write p x ≡ o → by_tx o u ≡ true
        → base_write p x ≡ first (write_of u x) p
    old h none q g = absurd (false≢true g)
    old h (some v) q g = h v q ∙ ap (λ z. first (write_of z x) p) (sym (eqb-true u (tx_of v) g))

    kept : any (write_of u x) p ≡ true → or_else (first (write_of u x) p) (some (write t u y b a)) ≡ first (write_of u x) p
    kept h = let (v, q, g) = first_some (write_of u x) p h in rw q
base-first x (commit t u ∷ p) (step k l) e = base-first x p k e
base-first x (abort t u ∷ p) (step k l) e = base-first x p k e
base-first x (other t u ∷ p) (step k l) e = base-first x p k e

-- where there is a write, its before image
abort-self : (u x : ℕ) (p : History) (d : Amount) → any (write_of u x) p ≡ true → before_in (first (write_of u x) p) d ≡ before_in (first (write_of u x) p) (pos 0)
abort-self u x p d h = let (v, q, g) = first_some (write_of u x) p h in rw q (same v g)
  where
    same : (v : Op) → write_of u x v ≡ true → before_of v d ≡ before_of v (pos 0)
    same (read t s y) g = absurd (false≢true g)
    same (write t s y b a) g = refl
    same (commit t s) g = absurd (false≢true g)
    same (abort t s) g = absurd (false≢true g)
    same (other t s) g = absurd (false≢true g)

-- the amount of an item from its last write
current-last : (d : Amount) (x : ℕ) (p : History) → Passing p → {w : Op} → last_write p x ≡ some w
    → current d p x ≡ cond (eqb (end_code p (tx_of w)) 2) (before_in (first (write_of (tx_of w) x) p) (pos 0)) (after_of w (pos 0))
current-last d x [] k e = cc
current-last d x (read t u y ∷ p) (step k l) e = current-last d x p k e
current-last d x (write t u y b a ∷ p) (step k l) {w} e =
    by_cases (eqb x y)
    (λ q. let i : some (write t u y b a) ≡ some w = rw q at e in
    let i' : write t u y b a ≡ w = cc in
    rw (← i', q, ended-no-abort p u l.not_terminated))
    (λ q. rw (q, and-false (eqb (tx_of w) u)) (current-last d x p k (rw q at e)))
current-last d x (commit t u ∷ p) (step k l) {w} e =
    by_cases (eqb (tx_of w) u)
    (λ q. let z = ended-no-abort p (tx_of w) (rw (eqb-true (tx_of w) u q) l.not_terminated) in rw q (current-last d x p k e ∙ rw z))
    (λ q. rw q (current-last d x p k e))
current-last d x (abort t u ∷ p) (step k l) {w} e =
    by_cases (eqb (tx_of w) u)
    (λ q. let wu = eqb-true (tx_of w) u q in
    rw q
    (subst (λ z. before_in (first (write_of u x) p) (current d p x) ≡ before_in (first (write_of z x) p) (pos 0)) (sym wu)
    (abort-self u x p (current d p x)
    (open-writes x u p k l.not_terminated ∙ (ap (λ o. by_tx o u) e ∙ eq-eqb u (tx_of w) (sym wu))))))
    (λ q. rw (q, first-none (write_of u x) p (open-writes x u p k l.not_terminated ∙ (ap (λ o. by_tx o u) e ∙ neq-sym (tx_of w) u q)))
    (current-last d x p k e))
current-last d x (other t u ∷ p) (step k l) e = current-last d x p k e

pub standing-last : (d : Amount) (x : ℕ) (p : History) → Passing p → {w : Op} → last_write p x ≡ some w → standing d p x ≡ standing_of p x (last_write p x) (pos 0)
standing-last d x p k {w} e = current-last (initial d p x) x p k e ∙ rw (e, base-first x p k e)
