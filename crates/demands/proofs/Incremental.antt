-- The cut list of specs/Incremental.antt, proved: an invariant of the sequence, kept by each call.
-- Assumes nothing.
use mathlib.Core.Path.{◌≡◌, refl, sym, ◌∙◌, ap, fun_ext}
use mathlib.Core.Bool.{Bool, true, false, cond, not, ◌&&◌, ◌||◌, false≢true, or_comm, or-false}
use mathlib.Core.List.{List, [], ◌∷◌, ◌++◌, append-nil, nil≢cons, head-eq_of_cons-eq}
use Prim.Native.Nat.{ℕ, suc, ◌+◌, ◌≤◌}
use native.Mathlib.Omega.{arith}
use native.Mathlib.Nat.{add-zero}
use lib.Dec.{eqb}
use lib.ListN.{length}
use borrow.Author.Tests.{eqb-true}
use Rattle.std.proofs.lemmas.Bool.{and_from, not_from_false}
use Rattle.lists.specs.Search.{any, keep, member}
use Rattle.lists.specs.Tables.{count_if}
use Rattle.lists.proofs.BoolLaws.{by_cases, or_cases, and_left}
use Rattle.lists.proofs.MemberLaws.{member-append, member-keep}
use Rattle.lists.proofs.TablesLaws.{count_if-ext, count_if-add, count_if-none}
use Rattle.model.specs.History.{committed, aborted}
use Rattle.model.specs.Undo.{is_source, undone, surviving}
use Rattle.model.proofs.Ends.{EndsLast}
use Rattle.model.proofs.Strict.{legal-ends_last}
use Rattle.model.proofs.Join.{surviving-less}
use Rattle.model.proofs.Sets.{surviving-cong, undone-surviving, surviving-remaining}
use Rattle.journal.specs.Inputs.{Inputs, handed_on}
use Rattle.journal.specs.Journal.{whole}
use Rattle.journal.specs.Orders.{undo_order}
use Rattle.journal.specs.Copy.{copy}
use Rattle.journal.specs.Results.{totals}
use Rattle.journal.specs.Calls.{Answer, refused, accepted, UndoTotals, UndoResult, undo, undo_totals, opening_at}
use Rattle.journal.proofs.Clear.{Clear}
use Rattle.journal.proofs.Checked.{Checks}
use Rattle.demands.specs.Days.{accepts, Day}
use Rattle.demands.specs.Undoing.{left_by, is_undone}
use Rattle.demands.specs.Incremental.{UndoCall, AcceptedCall, UndoState, initial_state, undone_by, remaining, undo_on, undo_state_after, run_undos, once, joined, times_undone, sum_over, distinct_none, distinct_more, OnceDistinct, OnceJoins, SameAsOne, Incremental, IncrementalUndo}
use Rattle.demands.proofs.Refusing.{untouched}
use Rattle.demands.proofs.Left.{repaired_inputs, legal-day, copy-bytes, copy-checks, copy_ended}
use Rattle.demands.proofs.DaysLaws.{pass-checks, checks-pass}
use Rattle.demands.proofs.Undone.{clear-accepting, undo-table, undo-copy, undo-accepted, accepting-clear, accepted-clear}
use Rattle.demands.proofs.Undoing.{acceptance, status_at-undone}
use Rattle.demands.proofs.Join.{copy-same, left-same, undone-same, surviving-second, copy-second, left-second, committed-second, undone-second, aborted-second}

-- ---- lists

member-once : (s : ℕ) (l : List ℕ) → member s (once l) ≡ member s l
unfolding once
member-once s [] = refl
member-once s (v ∷ l) =
    let ih = member-once s l in
    by_cases (member v (once l))
    (λ e. rw (e, ih) (by_cases (eqb s v) (λ q. rw q (sym ih ∙ ap (λ u. member u (once l)) (eqb-true s v q) ∙ e)) (λ q. rw q)))
    (λ e. rw (e, ih))

pub once-distinct : OnceDistinct
unfolding once
once-distinct [] = distinct_none
once-distinct (s ∷ l) = by_cases (member s (once l)) (λ e. rw e (once-distinct l)) (λ e. rw e (distinct_more e (once-distinct l)))

keep_all : (l : List ℕ) → keep (λ s. true) l ≡ l
keep_all [] = refl
keep_all (s ∷ l) = ap (λ m. s ∷ m) (keep_all l)

remaining-none : (l : List ℕ) → remaining [] l ≡ l
unfolding remaining
remaining-none l = keep_all l

-- ---- the invariant

module _ (v : Inputs) (day : Day v) where
  abbrev b : List ℕ
  b = v.journal

  checks : Checks v
  checks = pass-checks v day.pass

  ends : EndsLast (whole b)
  ends = legal-ends_last (opening_at v) (whole b) (legal-day v day.bytes checks)

  -- the copy of a take-back with its table is a day
  left-day : (l : List ℕ) → Day (repaired_inputs l v)
  left-day l =
      record {
        bytes = copy-bytes v day.bytes checks l;
        pass = checks-pass _ (copy-checks v day.bytes checks l);
        finished = copy_ended v day.bytes checks l;
      }

  -- the accepted calls ds, the newest of them d, with lists that join to l
  record AsOne (l : List ℕ) (ds : List AcceptedCall) (d : AcceptedCall) : Type 0 where
    names : (s : ℕ) → member s l ≡ true → committed (whole b) s ≡ true
    undone_set : (s : ℕ) → any (undone_by s) ds ≡ undone is_source l (whole b) s
    each : (s : ℕ) → times_undone s ds ≡ cond (undone is_source l (whole b) s) 1 0
    surviving : d.counts.surviving ≡ count_if (surviving is_source l (whole b)) 1 1024
    undone : sum_over (λ k. k.undone) ds ≡ count_if (undone is_source l (whole b)) 1 1024
    aborted : sum_over (λ k. k.aborted) ds ≡ count_if (aborted (whole b)) 1 1024

  -- what they leave: the copy and the table of the one call
  abbrev state_after : List AcceptedCall → UndoState
  state_after ds = record { inputs = repaired_inputs (joined ds) v; calls = ds }

  data Inv : UndoState → Type 0 where
    none : Inv (initial_state v)
    some : (d : AcceptedCall) (ds : List AcceptedCall) → AsOne (joined (d ∷ ds)) (d ∷ ds) d → Inv (state_after (d ∷ ds))

  -- the first accepted call
  module _ (l status out : List ℕ) (clear : Clear (undo_order v l status out (length (copy l b)))) where
    abbrev call : AcceptedCall
    call = record { given = l; status = (undo v l status out).status; counts = undo_totals l b }

    first-inputs : left_by v (undo v l status out) (undo_totals l b) ≡ repaired_inputs (l ++ []) v
    first-inputs = rw (append-nil l) (λ i. handed_on (undo-copy v l status out clear i) (undo-table v l status out clear i) v)

    inv-first : Inv (record { inputs = left_by v (undo v l status out) (undo_totals l b); calls = call ∷ [] })
    unfolding joined times_undone sum_over undo_totals totals
    inv-first =
        let e : l ++ [] ≡ l = append-nil l in
        rw first-inputs
        (some call []
        (rw e
        (record {
          names = (clear-accepting v l status out clear).names;
          undone_set = λ s. or-false _ ∙ status_at-undone v l status out day clear s;
          each = λ s. ap (λ k. cond k 1 0) (status_at-undone v l status out day clear s);
          surviving = refl;
          undone = add-zero _;
          aborted = add-zero _;
        })))

  -- a later one: l comes to the lists a of before, with the names struck that they took back
  module _ (a l : List ℕ) (ds : List AcceptedCall) (d : AcceptedCall) (h : AsOne a ds d) where
    abbrev rest : List ℕ
    rest = remaining ds l

    rest-is : remaining ds l ≡ keep (λ s. not (undone is_source a (whole b) s)) l
    unfolding remaining
    rest-is = ap (λ (f : ℕ → Bool). keep (λ s. not (f s)) l) (fun_ext h.undone_set)

    -- what both lists keep
    surviving-both : (s : ℕ) → surviving is_source (a ++ rest) (whole b) s ≡ surviving is_source (l ++ a) (whole b) s
    surviving-both s =
        ap (λ m. surviving is_source (a ++ m) (whole b) s) rest-is ∙ surviving-remaining is_source a l (whole b) ends s
        ∙ surviving-cong is_source (a ++ l) (l ++ a) (λ v. member-append v a l ∙ or_comm (member v a) (member v l) ∙ sym (member-append v l a)) (whole b) s

    less : (s : ℕ) → surviving is_source (l ++ a) (whole b) s ≡ true → surviving is_source a (whole b) s ≡ true
    less s e = surviving-less is_source a rest (whole b) ends s (surviving-both s ∙ e)

    -- taken back by the later call
    new : (s : ℕ) → undone is_source rest (whole (copy a b)) s ≡ surviving is_source a (whole b) s && not (surviving is_source (l ++ a) (whole b) s)
    new s = undone-second v day.bytes checks a rest s ∙ ap (λ k. surviving is_source a (whole b) s && not k) (surviving-both s)

    -- taken back by one call or the other: by the one call; and never by both
    together : (s : ℕ) → undone is_source (l ++ a) (whole b) s ≡ undone is_source rest (whole (copy a b)) s || undone is_source a (whole b) s
    together s =
        rw (new s, undone-surviving is_source (l ++ a) (whole b) s, undone-surviving is_source a (whole b) s)
        (go (committed (whole b) s) (surviving is_source a (whole b) s) (surviving is_source (l ++ a) (whole b) s) (less s) (λ e. and_left (committed (whole b) s) _ e))
      where
        go : (c k m : Bool) → (m ≡ true → k ≡ true) → (k ≡ true → c ≡ true) → c && not m ≡ k && not m || c && not k
        go true true true f g = refl
        go true true false f g = refl
        go true false true f g = absurd (false≢true (f refl))
        go true false false f g = refl
        go false true m f g = absurd (false≢true (g refl))
        go false false m f g = refl

    apart : (s : ℕ) → undone is_source rest (whole (copy a b)) s ≡ true → undone is_source a (whole b) s ≡ false
    apart s e =
        undone-surviving is_source a (whole b) s
        ∙ go (committed (whole b) s) (surviving is_source a (whole b) s) (and_left (surviving is_source a (whole b) s) _ (sym (new s) ∙ e))
      where
        go : (c k : Bool) → k ≡ true → c && not k ≡ false
        go true k f = rw f
        go false k f = refl

    module _ (status out : List ℕ) (clear : Clear (undo_order (repaired_inputs a v) rest status out (length (copy rest (copy a b))))) where
      abbrev r : UndoResult
      r = undo (repaired_inputs a v) rest status out

      statuses-new : (s : ℕ) → is_undone r s ≡ undone is_source rest (whole (copy a b)) s
      statuses-new s = status_at-undone (repaired_inputs a v) rest status out (left-day a) clear s

      known : (s : ℕ) → member s l ≡ true → committed (whole b) s ≡ true
      unfolding remaining
      known s m =
          by_cases (any (undone_by s) ds)
          (λ e. and_left (committed (whole b) s) _ (sym (h.undone_set s) ∙ e))
          (λ e.
          let i : member s rest ≡ true = member-keep (λ v. not (any (undone_by v) ds)) s l ∙ and_from _ _ (not_from_false _ e) m in
          let k = (clear-accepting (repaired_inputs a v) rest status out clear).names s i in
          and_left (committed (whole b) s) _ (sym (committed-second v day.bytes checks a rest s) ∙ k))

      sums : (f g k m : ℕ) → f + k ≡ m → g ≡ k → f + g ≡ m
      sums f g k m e q = omega arith

      abbrev later_call : AcceptedCall
      later_call = record { given = l; status = r.status; counts = undo_totals rest (copy a b) }

      later-inputs : left_by (repaired_inputs a v) r (undo_totals rest (copy a b)) ≡ repaired_inputs (l ++ a) v
      later-inputs =
          let j = undo-copy (repaired_inputs a v) rest status out clear ∙ copy-second v day.bytes checks a rest ∙ copy-same b (a ++ rest) (l ++ a) surviving-both in
          let t = undo-table (repaired_inputs a v) rest status out clear ∙ left-second v day.bytes checks a rest ∙ left-same v (a ++ rest) (l ++ a) surviving-both in
          λ i. handed_on (j i) (t i) v

      as-later : AsOne (l ++ a) (later_call ∷ ds) later_call
      unfolding times_undone sum_over undo_totals totals
      as-later =
          record {
            names = λ s m. or_cases (member s l) (member s a) (sym (member-append s l a) ∙ m) (known s) (h.names s);
            undone_set = λ s. rw (statuses-new s, h.undone_set s) (sym (together s));
            each = λ s. rw (statuses-new s, h.each s, together s) (go (undone is_source rest (whole (copy a b)) s) (undone is_source a (whole b) s) (apart s));
            surviving = count_if-ext _ _ 1 1 1024 (λ k i. surviving-second v day.bytes checks a rest (1 + k) ∙ surviving-both (1 + k));
            undone = sums _ _ _ _ (count_if-add (undone is_source rest (whole (copy a b))) (undone is_source a (whole b)) (undone is_source (l ++ a) (whole b)) 1 1024 together apart) h.undone;
            aborted = ap (λ n. n + sum_over (λ k. k.aborted) ds) (count_if-none (aborted (whole (copy a b))) 1 1024 (aborted-second v day.bytes checks a rest))
                ∙ zero-add (sum_over (λ k. k.aborted) ds) ∙ h.aborted;
          }
        where
          go : (f g : Bool) → (f ≡ true → g ≡ false) → cond f (suc (cond g 1 0)) (cond g 1 0) ≡ cond (f || g) 1 0
          go true true e = absurd (false≢true (sym (e refl)))
          go true false e = refl
          go false g e = refl

          zero-add : (n : ℕ) → 0 + n ≡ n
          zero-add n = omega arith

  -- ---- one call, and a sequence

  -- what a call does, by its answer
  by_answer : (c : UndoState) (k : UndoCall) (P : UndoState → Type 0) → P c
      → ((n : UndoTotals) → (undo_on c k).answer ≡ accepted n → P (undo_state_after c k (undo_on c k) (accepted n)))
      → P (undo_state_after c k (undo_on c k) (undo_on c k).answer)
  by_answer c k P f g = go (undo_on c k).answer refl
    where
      go : (a : Answer UndoTotals) → (undo_on c k).answer ≡ a → P (undo_state_after c k (undo_on c k) a)
      go (refused n p) e = rw (untouched.undo c.inputs (remaining c.calls k.bad) k.status k.out (ap accepts e)).0 f
      go (accepted n) e = g n e

  inv-after : (d : AcceptedCall) (ds : List AcceptedCall) → AsOne (joined (d ∷ ds)) (d ∷ ds) d → (k : UndoCall) (n : UndoTotals)
      → (undo_on (state_after (d ∷ ds)) k).answer ≡ accepted n
      → Inv (undo_state_after (state_after (d ∷ ds)) k (undo_on (state_after (d ∷ ds)) k) (accepted n))
  unfolding joined
  inv-after d ds h k n e =
      let a : List ℕ = joined (d ∷ ds) in
      let (clear, m) = accepted-clear (record { bytes = (left-day a).bytes; answer = e }) in
      rw (← m, later-inputs a k.bad (d ∷ ds) d h k.status k.out clear)
      (some (later_call a k.bad (d ∷ ds) d h k.status k.out clear) (d ∷ ds) (as-later a k.bad (d ∷ ds) d h k.status k.out clear))

  inv-call : (c : UndoState) (k : UndoCall) → Inv c → Inv (undo_state_after c k (undo_on c k) (undo_on c k).answer)
  inv-call c k none =
      by_answer (initial_state v) k Inv none
      (λ n e.
      let q = remaining-none k.bad in
      let e' : (undo v k.bad k.status k.out).answer ≡ accepted n = rw q at e in
      let (clear, m) = accepted-clear (record { bytes = day.bytes; answer = e' }) in
      rw (q, ← m) (inv-first k.bad k.status k.out clear))
  inv-call c k (some d ds h) = by_answer (state_after (d ∷ ds)) k Inv (some d ds h) (λ n e. inv-after d ds h k n e)

  inv-run : (c : UndoState) (ks : List UndoCall) → Inv c → Inv (run_undos c ks)
  unfolding run_undos
  inv-run c [] i = i
  inv-run c (k ∷ ks) i = inv-run (undo_state_after c k (undo_on c k) (undo_on c k).answer) ks (inv-call c k i)

  -- ---- beside the one call

  -- a list m with the members of a, in one call
  one-call : (m : List ℕ) (d : AcceptedCall) (ds : List AcceptedCall) → AsOne (joined (d ∷ ds)) (d ∷ ds) d → ((s : ℕ) → member s m ≡ member s (joined (d ∷ ds)))
      → (status out : List ℕ) → length status ≡ 1025 → length (copy m b) ≤ length out → (n : UndoTotals) × SameAsOne (state_after (d ∷ ds)) d (undo v m status out) n
  unfolding undo_totals totals
  one-call m d ds h members status out size fits =
      let a : List ℕ = joined (d ∷ ds) in
      let same : (s : ℕ) → surviving is_source m (whole b) s ≡ surviving is_source a (whole b) s = surviving-cong is_source m a members (whole b) in
      let clear = accepting-clear v m status out checks day.finished
      (record { names = λ s i. h.names s (sym (members s) ∙ i); status_length = size; capacity = fits }) in (
        undo_totals m b,
        record {
          answer = undo-accepted v m status out clear;
          undone_once = λ s. h.each s ∙ ap (λ k. cond k 1 0) (sym (status_at-undone v m status out day clear s ∙ undone-same b m a same s));
          table = sym (undo-table v m status out clear ∙ left-same v m a same);
          copy = sym (undo-copy v m status out clear ∙ copy-same b m a same);
          surviving = h.surviving ∙ sym (count_if-ext _ _ 1 1 1024 (λ k i. same (1 + k)));
          undone = h.undone ∙ sym (count_if-ext _ _ 1 1 1024 (λ k i. undone-same b m a same (1 + k)));
          aborted = h.aborted;
        },
      )

  incremental : (c : UndoState) → Inv c → Incremental v c
  incremental c none =
      record {
        acceptance = λ k. acceptance v (remaining [] k.bad) k.status k.out day;
        none_accepted = λ e. refl;
        one = λ d ds e. absurd (nil≢cons e);
      }
  incremental c (some d ds h) =
      record {
        acceptance = λ k. acceptance (repaired_inputs (joined (d ∷ ds)) v) (remaining (d ∷ ds) k.bad) k.status k.out (left-day (joined (d ∷ ds)));
        none_accepted = λ e. absurd (nil≢cons (sym e));
        one = λ d' ds' e m status out q size fits. rw (← head-eq_of_cons-eq e) (one-call m d ds h q status out size fits);
      }

pub incremental-undo : IncrementalUndo
incremental-undo d calls day = incremental d day (run_undos (initial_state d) calls) (inv-run d day (initial_state d) calls none)

pub once-joins : OnceJoins
once-joins ds s = member-once s (joined ds)
