-- The statements of specs/Undoing.antt, proved.
-- Assumes nothing.
use mathlib.Core.Path.{◌≡◌, refl, sym, ◌∙◌, ap, fun_ext}
use mathlib.Core.Bool.{Bool, true, false, not}
use mathlib.Core.List.{List}
use Prim.Native.Nat.{ℕ, ◌+◌, ◌≤◌, ◌*◌}
use native.Mathlib.Omega.{arith}
use lib.Dec.{eqb, ltb}
use lib.ListN.{length, get_or, get_or-eq_default}
use borrow.Author.Tests.{eqb-true, eq-eqb, ltb-true, ltb-false, le-ltb, not-true}
use Rattle.std.proofs.lemmas.Bool.{and_from}
use Rattle.lists.specs.Search.{member}
use Rattle.lists.specs.Tables.{tabulate}
use Rattle.lists.proofs.BoolLaws.{by_cases, and_left, and_right, clash}
use Rattle.lists.proofs.TablesLaws.{length-tabulate, get_or-tabulate, count_if-ext}
use Rattle.model.specs.History.{tx_of, committed}
use Rattle.model.specs.Undo.{is_source, reads_from, reached, undone, surviving, without}
use Rattle.model.proofs.Ends.{EndsLast}
use Rattle.model.proofs.ReadsFromLaws.{reads_from-member}
use Rattle.model.proofs.Closure.{reached-list, reached-closed, reached-least}
use Rattle.model.proofs.Removal.{reads_from-without}
use Rattle.model.proofs.Strict.{legal-ends_last}
use Rattle.journal.specs.Inputs.{Inputs}
use Rattle.journal.specs.Journal.{count, whole}
use Rattle.journal.specs.Refusals.{too_short}
use Rattle.journal.specs.Orders.{undo_order}
use Rattle.journal.specs.Copy.{copy}
use Rattle.journal.specs.Results.{totals, status_vector}
use Rattle.journal.specs.Calls.{undo, undo_totals, status_of, statuses, opening_at}
use Rattle.journal.proofs.Clear.{Clear}
use Rattle.journal.proofs.Checked.{Checks}
use Rattle.demands.specs.Days.{accepts, Day}
use Rattle.demands.specs.Undoing.{Accepting, Acceptance, AcceptedPasses, AcceptedExactly, CopyFits, NeverShort, copy_in, LeftPasses, status_at, StatusMeaning, UndoSet, LeastSet, FewestTransactions, Fewest}
use Rattle.demands.proofs.Refusing.{undo_refused-14}
use Rattle.demands.proofs.CopyLaws.{copy-length, copy-most}
use Rattle.demands.proofs.Left.{legal-day, copy-bytes, copy-checks, copy-opening_table, copy_ended, copy-count}
use Rattle.demands.proofs.DaysLaws.{pass-checks, checks-pass}
use Rattle.demands.proofs.Undone.{clear-accepting, clear-passing, accepting-clear, undo-accepts, undo-accepted, undo-table, undo-status, undo-copy, undo-behind, accepted-clear, accepted-day, committed-range}

-- ---- 1. acceptance

pub accepted-passes : AcceptedPasses
accepted-passes d bad status out e = clear-passing d bad status out (undo-accepts d bad status out e)

pub accepted-exactly : AcceptedExactly
accepted-exactly d bad status out = (
  λ e. let c = undo-accepts d bad status out e in (clear-passing d bad status out c, clear-accepting d bad status out c),
  λ (p, a). ap accepts (undo-accepted d bad status out (accepting-clear d bad status out (pass-checks d p.pass) p.finished a)),
)

pub acceptance : Acceptance
acceptance d bad status out day =
    (λ e. ((accepted-exactly d bad status out).0 e).1, λ a. (accepted-exactly d bad status out).1 (record { pass = day.pass; finished = day.finished }, a))

pub copy-fits : CopyFits
copy-fits d bad = copy-most bad d.journal

pub never-short : NeverShort
unfolding too_short
never-short d bad status out place h e =
    clash (undo_refused-14 d bad status out place e) (le-ltb (length out) (length (copy bad d.journal)) (omega (arith, copy-fits d bad)))

-- ---- 2. what is left passes

bytes-copy : (bad b : List ℕ) → (undo_totals bad b).bytes ≡ length (copy bad b)
unfolding undo_totals totals
bytes-copy bad b = refl

pub left-passes : LeftPasses
left-passes d bad status out n a =
    let b = d.journal in
    let day = accepted-day a in
    let k = pass-checks d day.pass in
    let (c, e) = accepted-clear a in
    let q : copy_in (undo d bad status out) n ≡ copy bad b = rw (← e) (undo-copy d bad status out c) in
    record {
      day =
          rw (q, undo-table d bad status out c)
          (record {
            bytes = copy-bytes d a.bytes k bad;
            pass = checks-pass _ (copy-checks d a.bytes k bad);
            finished = copy_ended d a.bytes k bad;
          });
      opening = rw (q, undo-table d bad status out c) (copy-opening_table d a.bytes k bad);
      size = ap (λ m. m.bytes) (sym e) ∙ bytes-copy bad b ∙ copy-length bad b ∙ ap (λ m. 20 * (m + 1)) (sym (ap count q ∙ copy-count d a.bytes k bad));
      behind = rw (← e) (undo-behind d bad status out c);
    }

-- ---- 3. the taken-back set

module _ (d : Inputs) (bad status out : List ℕ) (day : Day d) (clear : Clear (undo_order d bad status out (length (copy bad d.journal)))) where
  abbrev b : List ℕ
  b = d.journal

  checks : Checks d
  checks = pass-checks d day.pass

  ends_last : EndsLast (whole b)
  ends_last = legal-ends_last (opening_at d) (whole b) (legal-day d day.bytes checks)

  accepting : Accepting b bad status out
  accepting = clear-accepting d bad status out clear

  -- the mark of a number, in range or not
  status_at-is : (s : ℕ) → status_at (undo d bad status out) s ≡ status_of (undone is_source bad (whole b)) (surviving is_source bad (whole b)) s
  unfolding statuses status_of status_vector
  status_at-is s =
      ap (λ l. get_or l s 0) (undo-status d bad status out clear)
      ∙ by_cases (ltb s 1025)
      (λ h. get_or-tabulate (status_of (undone is_source bad (whole b)) (surviving is_source bad (whole b))) 0 1025 s 0 (ltb-true s 1025 h) ∙ ap (status_of (undone is_source bad (whole b)) (surviving is_source bad (whole b))) (omega arith))
      (λ h. let l : 1025 ≤ s = ltb-false s 1025 h in
      get_or-eq_default (tabulate (status_of (undone is_source bad (whole b)) (surviving is_source bad (whole b))) 0 1025) 0 (omega (arith, length-tabulate (status_of (undone is_source bad (whole b)) (surviving is_source bad (whole b))) 0 1025))
      ∙ by_cases (committed (whole b) s)
      (λ c. absurd (omega (arith, (committed-range b checks.sound s c).1)))
      (λ c. rw c))

  by-membership : (P : ℕ → Type 0) (s : ℕ) → (committed (whole b) s ≡ true → member s (reached is_source bad (whole b)) ≡ true → P 2) → (committed (whole b) s ≡ true → member s (reached is_source bad (whole b)) ≡ false → P 1)
      → (committed (whole b) s ≡ false → P 0) → P (status_at (undo d bad status out) s)
  unfolding status_of
  by-membership P s f g h =
      rw (status_at-is s)
      (by_cases (committed (whole b) s)
      (λ c. by_cases (member s (reached is_source bad (whole b))) (λ m. rw (c, m) (f c m)) (λ m. rw (c, m) (g c m)))
      (λ c. rw c (h c)))

  pub status_at-undone : (s : ℕ) → eqb (status_at (undo d bad status out) s) 2 ≡ undone is_source bad (whole b) s
  status_at-undone s = by-membership (λ m. eqb m 2 ≡ undone is_source bad (whole b) s) s (λ c m. rw (c, m)) (λ c m. rw (c, m)) (λ c. rw c)

  pub status_at-surviving : (s : ℕ) → eqb (status_at (undo d bad status out) s) 1 ≡ surviving is_source bad (whole b) s
  status_at-surviving s = by-membership (λ m. eqb m 1 ≡ surviving is_source bad (whole b) s) s (λ c m. rw (c, m)) (λ c m. rw (c, m)) (λ c. rw c)

  reached-two : (s : ℕ) → committed (whole b) s ≡ true → member s (reached is_source bad (whole b)) ≡ true → status_at (undo d bad status out) s ≡ 2
  reached-two s c m = eqb-true _ 2 (status_at-undone s ∙ and_from _ _ c m)

  two-undone : (s : ℕ) → status_at (undo d bad status out) s ≡ 2 → undone is_source bad (whole b) s ≡ true
  two-undone s e = sym (status_at-undone s) ∙ eq-eqb _ 2 e

  meaning : StatusMeaning b bad (undo d bad status out) (undo_totals bad b)
  unfolding undo_totals statuses totals status_vector
  meaning =
      record {
        members = λ s e. and_left (committed (whole b) s) _ (two-undone s e);
        closed = record {
          lists = λ s m. reached-two s (accepting.names s m) (reached-list is_source bad s (whole b) m);
          readers = λ {t = i'} {s} {x} {p} {w} i c e m. reached-two s c (reached-closed is_source bad ends_last i e (and_right (committed (whole b) (tx_of w)) _ (two-undone (tx_of w) m)));
        };
        survives = λ s. (
          by-membership (λ m. m ≡ 1 → (committed (whole b) s ≡ true) × (m ≡ 2 → ⊥)) s
              (λ c _ e. absurd (omega arith)) (λ c _ e. (c, λ e. omega arith)) (λ c e. absurd (omega arith)),
          λ (c, e). by-membership (λ m. (m ≡ 2 → ⊥) → m ≡ 1) s (λ _ _ f. absurd (f refl)) (λ _ _ f. refl) (λ n f. clash c n) e,
        );
        others = λ s. (
          by-membership (λ m. m ≡ 0 → committed (whole b) s ≡ false) s (λ _ _ e. absurd (omega arith)) (λ _ _ e. absurd (omega arith)) (λ n e. n),
          λ n. by-membership (λ m. m ≡ 0) s (λ c _. clash c n) (λ c _. clash c n) (λ _. refl),
        );
        size = ap length (undo-status d bad status out clear) ∙ length-tabulate _ 0 1025;
        undone = count_if-ext _ _ 1 1 1024 (λ k h. sym (status_at-undone (1 + k)));
        surviving = count_if-ext _ _ 1 1 1024 (λ k h. sym (status_at-surviving (1 + k)));
        aborted = refl;
      }

  undo-set : UndoSet b bad (undo d bad status out) (undo_totals bad b)
  undo-set =
      record {
        meaning = meaning;
        least = λ S m s e. reached-least is_source bad (whole b) S m s (and_left (committed (whole b) s) _ (two-undone s e)) (and_right (committed (whole b) s) _ (two-undone s e));
      }

  -- ---- 4. the fewest sales

  fewest-transactions : FewestTransactions b bad (undo d bad status out)
  fewest-transactions =
      record {
        removable = record {
          committed = λ s e. and_left (committed (whole b) s) _ (sym (status_at-undone s) ∙ e);
          lists = λ s m. status_at-undone s ∙ and_from _ _ (accepting.names s m) (reached-list is_source bad s (whole b) m);
          keeps = λ i s x p u c n.
              let m : member s (reached is_source bad (whole b)) ≡ false = not-reached s c (sym (status_at-undone s) ∙ n) in
              ap (λ (g : ℕ → Bool). reads_from is_source (without g p) s x) (fun_ext status_at-undone) ∙ reads_from-without is_source bad (whole b) ends_last u (rw (c, m));
        };
        fewest = λ g r s e.
            let q = sym (status_at-undone s) ∙ e in
            reached-least is_source bad (whole b) (λ v. g v ≡ true)
            (record {
              lists = r.lists;
              readers = λ {t = i} {s = v} {x} {p} {w} u c f m.
                  by_cases (g v) (λ y. y)
                  (λ n. clash m (not-true _ (reads_from-member is_source (λ y. not (g y)) v x p (r.keeps i v x p u c n ∙ f))));
            })
            s (and_left (committed (whole b) s) _ q) (and_right (committed (whole b) s) _ q);
      }
    where
      not-reached : (s : ℕ) → committed (whole b) s ≡ true → undone is_source bad (whole b) s ≡ false → member s (reached is_source bad (whole b)) ≡ false
      not-reached s c e = by_cases (member s (reached is_source bad (whole b))) (λ m. clash (and_from _ _ c m) e) (λ m. m)

pub least-set : LeastSet
least-set d bad status out n a = let (c, e) = accepted-clear a in rw (← e) (undo-set d bad status out (accepted-day a) c)

pub fewest : Fewest
fewest d bad status out n a = fewest-transactions d bad status out (accepted-day a) (accepted-clear a).0
