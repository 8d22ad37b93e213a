-- The stages of the walk, one after the other: the head, the records, the first record, the room.
-- Assumes nothing.
use mathlib.Core.Path.{◌≡◌, refl, sym, ◌∙◌, ap}
use mathlib.Core.Bool.{Bool, true, false, cond, not, not-not}
use mathlib.Core.List.{List, [], ◌∷◌}
use mathlib.Core.Option.{Option, none, some}
use Prim.Native.Nat.{ℕ, ◌<◌, ◌≤◌}
use native.Mathlib.Omega.{arith}
use lib.Dec.{eqb, ltb}
use lib.ListN.{length, get_or, get_or-eq_default}
use borrow.Author.Tests.{eqb-true, ne_eqb, lt-ltb, le-ltb, ltb-true, ltb-false}
use Rattle.lists.specs.Search.{any, first, or_else}
use Rattle.lists.proofs.BoolLaws.{by_cases}
use Rattle.lists.proofs.SearchLaws.{first-none, first_some}
use Rattle.format.specs.Layout.{record_at}
use Rattle.model.specs.History.{Op, tag_in, of_tx}
use Rattle.journal.specs.declared.Reason.{Reason}
use Rattle.journal.specs.Reasons.{number_of, place_of}
use Rattle.journal.specs.Outcomes.{refusal_of}
use Rattle.journal.specs.Journal.{count, tx_in, history, whole}
use Rattle.journal.specs.Refusals.{absent, too_short}
use Rattle.journal.specs.Orders.{try, decide, open_order, records_order, present_order, capacity_order, chain_order}
use Rattle.journal.specs.Calls.{Answer, refused, accepted, answered, written, chain_of, chain}
use Rattle.journal.proofs.OrdersLaws.{decide-yes, decide-no, decide-turn, decide-one, decide-turns}
use Rattle.journal.proofs.Clear.{decide-clear, turns-clear}
use Rattle.journal.proofs.Answered.{accepted-only, refused-only}
use Rattle.journal.proofs.Checked.{clear-sound}
use Rattle.journal.proofs.Records.{tx_of-op_of}
use Rattle.journal.proofs.Unrefused.{sound-long}
use Rattle.journal.proofs.Passing.{head-facts}
use Rattle.fields.specs.Answers.{Size, size_of}
use Rattle.arrays.specs.Recent.{first_tag}
use Rattle.arrays.specs.Arrays.{Ready, firsts_of}
use Rattle.arrays.proofs.ArraysLaws.{firsts-array}
use Rattle.arrays.proofs.Found.{Found, at, first_found, first_any, found-bound, core-right, passed-range}
use Rattle.chain.specs.Answers.{first_in, first_order, begin_order, walk_from}

-- ---- 12: the first record

module _ (l : List ℕ) (s : ℕ) where
  pub first-at : (i : ℕ) → i ≡ get_or l s 0 → (i ≡ 0 → ⊥) → accepted i ≡ first_in l s
  unfolding first_in
  first-at i e z = rw (← e, ne_eqb i 0 z)

  pub first-zero : (i : ℕ) → i ≡ get_or l s 0 → i ≡ 0 → refused 12 0 ≡ first_in l s
  unfolding first_in
  first-zero i e z = rw (← e, z)

-- a transaction above 1,024 has no record
none_above : (b : List ℕ) (n s : ℕ) → Ready b n → 1025 ≤ s → first_tag (history b n) s ≡ 0
none_above b n s r h =
    by_cases (any (of_tx s) (history b n))
    (λ e. let (w, q, t) = first_some (of_tx s) (history b n) e in go (first (of_tx s) (history b n)) (first_found (of_tx s) b n) (rw q t))
    (λ e. ap tag_in (first-none (of_tx s) (history b n) e))
  where
    passes : Option Op → Type 0
    passes none = Unit {0}
    passes (some w) = of_tx s w ≡ true

    go : (o : Option Op) → Found b n o → passes o → tag_in o ≡ 0
    go none d t = refl
    go (some _) (at k l m) t =
        let e : s ≡ tx_in (record_at b k) = eqb-true s _ t ∙ tx_of-op_of k (record_at b k) in
        let u = passed-range b n r.passed k l m in
        absurd (omega arith)

first-array : (b : List ℕ) (n s : ℕ) (l : List ℕ) → Ready b n → l ≡ firsts_of (history b n) → get_or l s 0 ≡ first_tag (history b n) s
first-array b n s l r e =
    by_cases (ltb s 1025)
    (λ h. rw e ((firsts-array (history b n)).at s 0 (ltb-true s 1025 h)))
    (λ h. let g = ltb-false s 1025 h in
    rw e (get_or-eq_default (firsts_of (history b n)) 0 {n = s} (rw (firsts-array (history b n)).size g) ∙ sym (none_above b n s r g)))

absent-first : (b : List ℕ) (s : ℕ) → absent b s ≡ eqb (first_tag (whole b) s) 0
unfolding absent whole
absent-first b s = ap not (first_any (of_tx s) b (count b)) ∙ not-not _

module _ (b : List ℕ) (s : ℕ) where
  first-parts : decide (first_order b s) ≡ or_else (decide (records_order b)) (decide (try 12 0 (absent b s)))
  unfolding first_order present_order
  first-parts = decide-turn (records_order b) (present_order b s ∷ []) ∙ rw (decide-one (present_order b s))

  first-passed : (n : ℕ) (firsts : List ℕ) (r : Answer ℕ) → Ready b n → n ≡ count b → firsts ≡ firsts_of (history b n) → none ≡ decide (records_order b) → r ≡ first_in firsts s
      → r ≡ answered (decide (first_order b s)) (first_tag (whole b) s)
  unfolding first_in whole
  first-passed n firsts r k c f p g =
      let t : get_or firsts s 0 ≡ first_tag (whole b) s = rw (← c) (first-array b n s firsts k f) in
      g ∙ rw (first-parts, ← p, t, absent-first b s) (go (eqb (first_tag (whole b) s) 0) (first_tag (whole b) s))
    where
      go : (c : Bool) (k : ℕ) → cond c (refused 12 0) (accepted k) ≡ answered (decide (try 12 0 c)) k
      go true k = rw (decide-yes 12 0 refl)
      go false k = rw (decide-no 12 0 refl)

  -- ---- the head, then the records

  begin-parts : decide (begin_order b s) ≡ or_else (decide (open_order b)) (decide (first_order b s))
  unfolding begin_order first_order
  begin-parts = decide-turn (open_order b) (records_order b ∷ present_order b s ∷ [])

  pub begin-refused : (k p : ℕ) → refused k p ≡ answered (decide (open_order b)) (size_of b) → refused k p ≡ answered (decide (begin_order b s)) (first_tag (whole b) s)
  begin-refused k p q = rw (begin-parts, refused-only k p (decide (open_order b)) (size_of b) q)

  module _ (z : Size) (q : accepted z ≡ answered (decide (open_order b)) (size_of b)) where
    begin-right : decide (begin_order b s) ≡ decide (first_order b s)
    begin-right = rw (begin-parts, (accepted-only (decide (open_order b)) z (size_of b) q).0)

    pub begin-records : (why : Reason) → some (refusal_of why) ≡ decide (records_order b) → refused (number_of why) (place_of why) ≡ answered (decide (begin_order b s)) (first_tag (whole b) s)
    begin-records why g = rw (begin-right, first-parts, ← g)

    pub begin-passed : (n : ℕ) (firsts : List ℕ) (r : Answer ℕ) → Ready b n → n ≡ count b → firsts ≡ firsts_of (history b n) → none ≡ decide (records_order b) → r ≡ first_in firsts s
        → r ≡ answered (decide (begin_order b s)) (first_tag (whole b) s)
    begin-passed n firsts r k c f p g = rw begin-right (first-passed n firsts r k c f p g)

-- ---- 14: the room

opened-ready : (b : List ℕ) (s : ℕ) → decide (begin_order b s) ≡ none → Ready b (count b)
unfolding begin_order records_order
opened-ready b s e =
    let (opens, (records, (present, end))) = turns-clear _ (decide-clear (begin_order b s) e) in
    let k = clear-sound b opens records in
    let h = head-facts b k.head in
    let l = sound-long k in
    record { long = omega arith; few = h.few; items = h.most; passed = λ i h. core-right (k.right i h) }

module _ (b : List ℕ) (s : ℕ) (l : List ℕ) where
  chain-parts : (n : ℕ) → decide (chain_order b s l n) ≡ or_else (decide (begin_order b s)) (decide (try 14 0 (too_short l n)))
  unfolding chain_order begin_order capacity_order
  chain-parts n =
      decide-turns (open_order b ∷ records_order b ∷ present_order b s ∷ []) (capacity_order l n ∷ [])
      ∙ ap (or_else (decide (begin_order b s))) (decide-one (capacity_order l n))

  pub chain-refused : (k p : ℕ) → refused k p ≡ answered (decide (begin_order b s)) (first_tag (whole b) s) → (refused k p ≡ (chain b s l).answer) × (l ≡ (chain b s l).lsns)
  unfolding chain
  chain-refused k p q =
      let z = refused-only k p (decide (begin_order b s)) _ q in
      let d : decide (chain_order b s l (length (chain_of b s))) ≡ some (record { number = k; place = p }) = chain-parts (length (chain_of b s)) ∙ rw z in
      (rw d, rw d)

  module _ (i : ℕ) (q : accepted i ≡ answered (decide (begin_order b s)) (first_tag (whole b) s)) where
    passes : (decide (begin_order b s) ≡ none) × (i ≡ first_tag (whole b) s)
    passes = accepted-only (decide (begin_order b s)) i _ q

    pub chain-ready : Ready b (count b)
    chain-ready = opened-ready b s passes.0

    pub chain-low : i ≤ count b
    unfolding whole
    chain-low = rw passes.1 (found-bound (first_found (of_tx s) b (count b)))

    chain-is : chain_of b s ≡ walk_from b i
    unfolding chain_of
    chain-is = ap (walk_from b) (sym passes.1)

    decides : decide (chain_order b s l (length (chain_of b s))) ≡ decide (try 14 0 (too_short l (length (chain_of b s))))
    decides = chain-parts (length (chain_of b s)) ∙ rw passes.0

    pub chain-short : (k : ℕ) → k ≡ length (walk_from b i) → length l < k → (refused 14 0 ≡ (chain b s l).answer) × (l ≡ (chain b s l).lsns)
    unfolding chain too_short
    chain-short k c h =
        let n : length (chain_of b s) ≡ k = ap length chain-is ∙ sym c in
        let d = decides ∙ decide-yes 14 0 (rw n (lt-ltb (length l) k h)) in
        (rw d, rw d)

    pub chain-walked : (k : ℕ) (m : List ℕ) → k ≡ length (walk_from b i) → k ≤ length l → m ≡ written (walk_from b i) l → (accepted k ≡ (chain b s l).answer) × (m ≡ (chain b s l).lsns)
    unfolding chain too_short
    chain-walked k m c h w =
        let n : length (chain_of b s) ≡ k = ap length chain-is ∙ sym c in
        let d = decides ∙ decide-no 14 0 (rw n (le-ltb (length l) k h)) in
        (rw (d, n), rw d (w ∙ ap (λ x. written x l) (sym chain-is)))
