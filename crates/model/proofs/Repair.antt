-- The copy passes rules 6 to 9 from the same opening amounts.
-- Assumes nothing.
use mathlib.Core.Path.{◌≡◌, subst, refl, sym, ◌∙◌}
use mathlib.Core.Bool.{Bool, true, false, cond, ◌&&◌, and-false}
use mathlib.Core.List.{List, [], ◌∷◌}
use mathlib.Core.Option.{some}
use Prim.Native.Nat.{ℕ}
use lib.Dec.{eqb}
use borrow.Author.Tests.{eqb-true, eq-eqb, not-false}
use Rattle.std.proofs.lemmas.Bool.{or_left}
use Rattle.lists.specs.Search.{any, latest, first}
use Rattle.lists.proofs.BoolLaws.{by_cases, or_cases, and_left, and_right, or-false-left, or-false-right, clash}
use Rattle.lists.proofs.SearchLaws.{any-keep-false, any-mono, first-none, first-old}
use Rattle.model.specs.History.{Op, History, Amount, Tag, read, write, commit, abort, other, tx_of, read_of, write_of, access_of, write_to, access_to, abort_of, end_of, committed, aborted, ended, before_in, current}
use Rattle.model.specs.Rules.{by_other, blind}
use Rattle.model.specs.Undo.{Upto, all, more, SourceTest, source_by, visible_to, reads_from, surviving, only, survivors, replayed}
use Rattle.model.proofs.Ends.{tail-ends, none-ends, EndsLast, after-end, end-of, read-of, access-to, read-access, write-to}
use Rattle.model.proofs.ReadsFromLaws.{reads_from-by, reads_from-own, reads_from-still}
use Rattle.model.proofs.Removal.{any-only, surviving-unaborted, reads_from-surviving}
use Rattle.model.proofs.Legal.{stand, LegalStep, Legal, NoBlindWrites}
use Rattle.model.proofs.Strict.{legal-ends_last, not_conflicting-any, replayed-by, excl, inv, neq-sym, unlike, Alone, alone-read, alone-write}

pub legal-ends : (o : ℕ → Amount) {p j : History} → Legal o j → Upto p j → Legal o p
legal-ends o k all = k
legal-ends o k (more i) = legal-ends o k.0 i

pub no_blind-ends : {p j : History} → NoBlindWrites j → Upto p j → NoBlindWrites p
no_blind-ends k all = k
no_blind-ends k (more i) = no_blind-ends k.0 i

-- ---- amounts

-- the records of transactions that were not rolled back leave an item where their writes set it
pub replayed-only : (k : ℕ → Bool) (d : Amount) (x : ℕ) (p : History) → ((v : ℕ) → k v ≡ true → aborted p v ≡ false) → replayed k d p x ≡ current d (only k p) x
replayed-only k d x [] h = refl
replayed-only k d x (read t v y ∷ p) h = let ih = replayed-only k d x p h in by_cases (k v) (λ e. rw e ih) (λ e. rw e ih)
replayed-only k d x (write t v y b a ∷ p) h =
    let ih = replayed-only k d x p h in
    by_cases (k v) (λ e. rw e (by_cases (eqb x y) (λ q. rw q) (λ q. rw q ih))) (λ e. rw (e, and-false (eqb x y)) ih)
replayed-only k d x (commit t v ∷ p) h = let ih = replayed-only k d x p h in by_cases (k v) (λ e. rw e ih) (λ e. rw e ih)
replayed-only k d x (abort t v ∷ p) h =
    let ih = replayed-only k d x p (λ u q. or-false-right (eqb u v) _ (h u q)) in
    by_cases (k v) (λ e. clash (or_left (eqb v v) _ (eq-eqb v v refl)) (h v e)) (λ e. rw e ih)
replayed-only k d x (other t v ∷ p) h = let ih = replayed-only k d x p h in by_cases (k v) (λ e. rw e ih) (λ e. rw e ih)

module _ (o : ℕ → Amount) (j : History) (k : Legal o j) (x : ℕ) where
  -- To a transaction that commits, open and alone at the item: it sees those that commit, ..
  visible_to-committed : (s : ℕ) {p : History} → Upto p j → committed j s ≡ true → Alone o x p s → (v : ℕ) → any (write_of v x) p ≡ true → visible_to p s v ≡ committed j v
  visible_to-committed s {p} i h al v w =
      by_cases (eqb s v)
      (λ e. rw (e, ← eqb-true s v e) (sym h))
      (λ e. rw e (by_cases (ended p v) (λ y. sym (after-end v (legal-ends_last o j k) i y)) (λ y. clash w (al v e y))))

  -- .. so the newest of their writes that may feed feeds it, ..
  pub reads_from-committed : (φ : Op → Bool) (s : ℕ) {p : History} → Upto p j → committed j s ≡ true → Alone o x p s → reads_from φ p s x ≡ latest (source_by φ (committed j) x) p
  reads_from-committed φ s {p} i h al = reads_from-by φ (committed j) p s x (visible_to-committed s i h al)

  -- .. and the item stands where their writes set it.
  stand-committed : (s : ℕ) {p : History} → Upto p j → committed j s ≡ true → ended p s ≡ false → Alone o x p s → stand o p x ≡ replayed (committed j) (o x) p x
  stand-committed s {p} i h e al = (inv o x p (legal-ends o k i)).amount s e al ∙ replayed-by _ _ _ x p (visible_to-committed s i h al)

-- ---- the copy

module _ (φ : Op → Bool) (law : SourceTest φ) (o : ℕ → Amount) (l : List ℕ) (j : History) (k : Legal o j) where
  c : EndsLast j
  c = legal-ends_last o j k

  module _ (x : ℕ) where
    -- Where what feeds is a kept write, the kept writes set the item where all committed writes do: of those taken back, the ones since
    -- may not feed, and so left the amount as it was.
    replayed-surviving : (p : History) → Upto p j → ((w : Op) → latest (source_by φ (committed j) x) p ≡ some w → surviving φ l j (tx_of w) ≡ true)
        → replayed (committed j) (o x) p x ≡ replayed (surviving φ l j) (o x) p x
    replayed-surviving [] i n = refl
    replayed-surviving (read t v y ∷ p) i n = replayed-surviving p (tail-ends i) n
    replayed-surviving (write t v y b a ∷ p) i n =
        by_cases (eqb x y)
        (λ q. rw q
        (by_cases (surviving φ l j v)
        (λ e. rw (e, and_left (committed j v) _ e))
        (λ e. rw e
        (by_cases (committed j v)
        (λ h. by_cases (φ (write t v y b a))
        (λ f. clash (n (write t v y b a) (rw (q, h, f))) e)
        (λ f.
        let i' : Upto (write t v x b a ∷ p) j = rw (← eqb-true x y q) at i in
        let m = (legal-ends o k i').1 in
        rw h
        (sym (law.still t v y b a f) ∙ m.right ∙ stand-committed o j k x v (tail-ends i) h m.not_terminated (alone-write o x t v b a p m)
        ∙ replayed-surviving p (tail-ends i) (rw (q, h, f) at n))))
        (λ h. rw h (replayed-surviving p (tail-ends i) (rw (q, h) at n)))))))
        (λ q. rw q (replayed-surviving p (tail-ends i) (rw q at n)))
    replayed-surviving (commit t v ∷ p) i n = replayed-surviving p (tail-ends i) n
    replayed-surviving (abort t v ∷ p) i n = replayed-surviving p (tail-ends i) n
    replayed-surviving (other t v ∷ p) i n = replayed-surviving p (tail-ends i) n

    -- a kept transaction, alone at the item and fed by a kept write, finds the amount that it found
    stand-surviving : (s : ℕ) (p : History) → Upto p j → surviving φ l j s ≡ true → ended p s ≡ false → Alone o x p s
        → ((w : Op) → reads_from φ p s x ≡ some w → surviving φ l j (tx_of w) ≡ true) → stand o (only (surviving φ l j) p) x ≡ stand o p x
    stand-surviving s p i h e al n =
        let g = and_left (committed j s) _ h in
        sym (replayed-only (surviving φ l j) (o x) x p (λ v q. none-ends (abort_of v) i (surviving-unaborted φ l j c v q)))
        ∙ sym (replayed-surviving p i (λ w q. n w (reads_from-committed o j k x φ s i g al ∙ q)))
        ∙ sym (stand-committed o j k x s i g e al)

    pub read-stands : (t : Tag) (s : ℕ) (p : History) → Upto (read t s x ∷ p) j → surviving φ l j s ≡ true → stand o (only (surviving φ l j) p) x ≡ stand o p x
    read-stands t s p i h =
        let m = (legal-ends o k i).1 in
        stand-surviving s p (tail-ends i) h m.not_terminated (alone-read o x t s p m) (λ w e. reads_from-surviving φ l j c i h e)

    -- what fed a read that an open kept transaction made feeds it still
    reader-reads_from : (s : ℕ) → surviving φ l j s ≡ true → (p : History) → Upto p j → ended p s ≡ false → any (read_of s x) p ≡ true
        → (w : Op) → reads_from φ p s x ≡ some w → surviving φ l j (tx_of w) ≡ true
    reader-reads_from s h [] i e r w f = clash r refl
    reader-reads_from s h (read t v y ∷ p) i e r w f =
        let f' = sym (reads_from-still φ (read t v y) p s x refl (λ u q. refl)) ∙ f in
        or_cases (eqb s v && eqb x y) (any (read_of s x) p) r
        (λ q. let a = eqb-true s v (and_left (eqb s v) _ q) in let b = eqb-true x y (and_right (eqb s v) _ q) in
        reads_from-surviving φ l j c i (rw a at h) (rw (a, b) at f'))
        (λ q. reader-reads_from s h p (tail-ends i) e q w f')
    reader-reads_from s h (write t v y b a ∷ p) i e r w f =
        by_cases (eqb x y)
        (λ q. by_cases (eqb s v)
        (λ z.
        let g : cond (φ (write t v y b a)) (some (write t v y b a)) (reads_from φ p s x) ≡ some w = own (eqb-true x y q) (eqb-true s v z) f in
        by_cases (φ (write t v y b a))
        (λ d. let g' : some (write t v y b a) ≡ some w = rw d at g in let g'' : write t v y b a ≡ w = cc in rw (← g'') (rw (eqb-true s v z) at h))
        (λ d. reader-reads_from s h p (tail-ends i) e r w (rw d at g)))
        (λ z. clash (subst (λ m. any (read_of s m) p ≡ true) (eqb-true x y q) r)
        (not_conflicting-any (access_to y) (read_of s y) p v s (read-of s y) (λ r d. access-to s y r (read-access s y r d)) (legal-ends o k i).1.not_conflicting (neq-sym s v z) e)))
        (λ q. reader-reads_from s h p (tail-ends i) e r w (sym (reads_from-still φ (write t v y b a) p s x q (λ u z. refl)) ∙ f))
      where
        own : x ≡ y → s ≡ v → reads_from φ (write t v y b a ∷ p) s x ≡ some w → cond (φ (write t v y b a)) (some (write t v y b a)) (reads_from φ p s x) ≡ some w
        own q z f = rw (q, z) (sym (reads_from-own φ t v y b a p) ∙ (rw (q, z) at f))
    reader-reads_from s h (commit t v ∷ p) i e r w f =
        let m = legal-ends o k i in
        let e' = or-false-right (eqb s v) _ e in
        let n : any (write_of v x) p ≡ false =
        by_cases (any (write_of v x) p)
        (λ q. absurd (excl o x s v (or-false-left (eqb s v) _ e) p m.0 e' m.1.not_terminated (any-mono (read_of s x) (access_of s x) (read-access s x) p r) q)) (λ q. q) in
        reader-reads_from s h p (tail-ends i) e' r w (sym (reads_from-still φ (commit t v) p s x refl (λ u q. neq-sym v u (unlike o x v u p n q))) ∙ f)
    reader-reads_from s h (abort t v ∷ p) i e r w f =
        reader-reads_from s h p (tail-ends i) (or-false-right (eqb s v) _ e) r w (sym (reads_from-still φ (abort t v) p s x refl (λ u q. refl)) ∙ f)
    reader-reads_from s h (other t v ∷ p) i e r w f = reader-reads_from s h p (tail-ends i) e r w (sym (reads_from-still φ (other t v) p s x refl (λ u q. refl)) ∙ f)

    -- A kept write's before image is right in the copy, where what would feed a read of its item there is kept.
    right-write : (t : Tag) (s : ℕ) (b a : Amount) (p : History) → Upto (write t s x b a ∷ p) j → ((w : Op) → reads_from φ p s x ≡ some w → surviving φ l j (tx_of w) ≡ true)
        → surviving φ l j s ≡ true → b ≡ stand o (only (surviving φ l j) p) x
    right-write t s b a p i n h =
        let m = (legal-ends o k i).1 in
        m.right ∙ sym (stand-surviving s p (tail-ends i) h m.not_terminated (alone-write o x t s b a p m) n)

  ended-only : (p : History) (r : Op) → surviving φ l j (tx_of r) ≡ true → ended (only (surviving φ l j) p) (tx_of r) ≡ ended p (tx_of r)
  ended-only p r e = any-only (surviving φ l j) (end_of (tx_of r)) (tx_of r) (end-of (tx_of r)) e p

  by_other-only : (f : Op → Bool) (p : History) (s : ℕ) → by_other f p s ≡ false → by_other f (only (surviving φ l j) p) s ≡ false
  by_other-only f p s h = any-keep-false _ _ (λ r. surviving φ l j (tx_of r)) (λ r e. rw (ended-only p r e)) p h

  -- what would feed a read of the item that r writes is kept
  abbrev pub FedByKept : History → Op → Type 0
  FedByKept p (read t s x) = Unit {0}
  FedByKept p (write t s x b a) = (w : Op) → reads_from φ p s x ≡ some w → surviving φ l j (tx_of w) ≡ true
  FedByKept p (commit t s) = Unit {0}
  FedByKept p (abort t s) = Unit {0}
  FedByKept p (other t s) = Unit {0}

  legal_step-only : (r : Op) (p : History) → Upto (r ∷ p) j → FedByKept p r → surviving φ l j (tx_of r) ≡ true → LegalStep o p r → LegalStep o (only (surviving φ l j) p) r
  legal_step-only (read t s x) p i d e f = record { not_terminated = ended-only p (read t s x) e ∙ f.not_terminated; not_conflicting = by_other-only (write_to x) p s f.not_conflicting; right = tt }
  legal_step-only (write t s x b a) p i d e f =
      record {
        not_terminated = ended-only p (write t s x b a) e ∙ f.not_terminated;
        not_conflicting = by_other-only (access_to x) p s f.not_conflicting;
        right = right-write x t s b a p i d e;
      }
  legal_step-only (commit t s) p i d e f = record { not_terminated = ended-only p (commit t s) e ∙ f.not_terminated; not_conflicting = refl; right = tt }
  legal_step-only (abort t s) p i d e f = record { not_terminated = ended-only p (abort t s) e ∙ f.not_terminated; not_conflicting = refl; right = tt }
  legal_step-only (other t s) p i d e f = record { not_terminated = ended-only p (other t s) e ∙ f.not_terminated; not_conflicting = refl; right = tt }

  legal-only : ((r : Op) (p : History) → Upto (r ∷ p) j → surviving φ l j (tx_of r) ≡ true → FedByKept p r) → (p : History) → Upto p j → Legal o (only (surviving φ l j) p)
  legal-only g [] i = tt
  legal-only g (r ∷ p) i =
      by_cases (surviving φ l j (tx_of r))
      (λ e. rw e (legal-only g p (tail-ends i), legal_step-only r p i (g r p i e) e (legal-ends o k i).1))
      (λ e. rw e (legal-only g p (tail-ends i)))

  pub survivors-legal : ((r : Op) (p : History) → Upto (r ∷ p) j → surviving φ l j (tx_of r) ≡ true → FedByKept p r) → Legal o (survivors φ l j)
  survivors-legal g = legal-only g j all

  -- ---- rule 8

  -- by it, what feeds a kept transaction's write is kept
  pub no_blind-fed : NoBlindWrites j → (r : Op) (p : History) → Upto (r ∷ p) j → surviving φ l j (tx_of r) ≡ true → FedByKept p r
  no_blind-fed g (read t s x) p i h = tt
  no_blind-fed g (write t s x b a) p i h = reader-reads_from x s h p (tail-ends i) (legal-ends o k i).1.not_terminated (not-false _ (no_blind-ends g i).1)
  no_blind-fed g (commit t s) p i h = tt
  no_blind-fed g (abort t s) p i h = tt
  no_blind-fed g (other t s) p i h = tt

blind-only : (k : ℕ → Bool) (p : History) (r : Op) → k (tx_of r) ≡ true → blind p r ≡ false → blind (only k p) r ≡ false
blind-only k p (read t s x) e f = f
blind-only k p (write t s x b a) e f = rw (any-only k (read_of s x) s (read-of s x) e p) f
blind-only k p (commit t s) e f = f
blind-only k p (abort t s) e f = f
blind-only k p (other t s) e f = f

-- a transaction keeps its reads
pub no_blind-only : (k : ℕ → Bool) (p : History) → NoBlindWrites p → NoBlindWrites (only k p)
no_blind-only k [] g = tt
no_blind-only k (r ∷ p) g =
    by_cases (k (tx_of r)) (λ e. rw e (no_blind-only k p g.0, blind-only k p r e g.1)) (λ e. rw e (no_blind-only k p g.0))

-- ---- the opening amounts

pub unwritten-by : (x s : ℕ) (p : History) → any (write_to x) p ≡ false → any (write_of s x) p ≡ false
unwritten-by x s p h = by_cases (any (write_of s x) p) (λ q. clash (any-mono (write_of s x) (write_to x) (write-to s x) p q) h) (λ q. q)

module _ (o : ℕ → Amount) (x : ℕ) where
  pub stand-unwritten : (p : History) → any (write_to x) p ≡ false → stand o p x ≡ o x
  stand-unwritten [] h = refl
  stand-unwritten (read t s y ∷ p) h = stand-unwritten p h
  stand-unwritten (write t s y b a ∷ p) h = rw (or-false-left (eqb x y) _ h) (stand-unwritten p (or-false-right (eqb x y) _ h))
  stand-unwritten (commit t s ∷ p) h = stand-unwritten p h
  stand-unwritten (abort t s ∷ p) h = rw (first-none (write_of s x) p (unwritten-by x s p h)) (stand-unwritten p h)
  stand-unwritten (other t s ∷ p) h = stand-unwritten p h

  first-before : (p : History) → Legal o p → any (write_to x) p ≡ true → (d : Amount) → before_in (first (write_to x) p) d ≡ o x
  first-before [] k h d = clash h refl
  first-before (read t s y ∷ p) k h d = first-before p k.0 h d
  first-before (write t s y b a ∷ p) k h d =
      by_cases (any (write_to x) p)
      (λ q. rw (first-old (write_to x) (write t s y b a) p q) (first-before p k.0 q d))
      (λ q. or_cases (eqb x y) _ h
      (λ e. rw (e, first-none (write_to x) p q) (k.1.right ∙ rw (← eqb-true x y e) (stand-unwritten p q)))
      (λ e. clash e q))
  first-before (commit t s ∷ p) k h d = first-before p k.0 h d
  first-before (abort t s ∷ p) k h d = first-before p k.0 h d
  first-before (other t s ∷ p) k h d = first-before p k.0 h d

  -- the opening amount found from a journal that passes and the table that it leaves
  pub opening-found : (p : History) → Legal o p → before_in (first (write_to x) p) (stand o p x) ≡ o x
  opening-found p k =
      by_cases (any (write_to x) p) (λ h. first-before p k h _) (λ h. rw (first-none (write_to x) p h) (stand-unwritten p h))
