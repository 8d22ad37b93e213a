-- Rules 6 to 9 of an operation and of a record, decided from what the working arrays hold.
-- Assumes nothing.
use mathlib.Core.Path.{◌≡◌, refl, sym, ◌∙◌, ap}
use mathlib.Core.Bool.{Bool, true, false, cond, not, not-not}
use mathlib.Core.List.{List}
use mathlib.Core.Logic.{◌⊎◌, inl, inr}
use mathlib.Core.Option.{Option, none, some}
use Prim.Native.Nat.{ℕ, ◌+◌, ◌<◌}
use native.Mathlib.Omega.{arith}
use lib.IntN.{pos}
use lib.Dec.{eqb}
use lib.ListN.{get_or}
use mir.Syntax.{w32}
use mir.Val.{to_z, of_z, SFits}
use mir.ValLaws.{to_z-of_z}
use Rattle.lists.specs.Search.{any, or_else}
use Rattle.lists.proofs.SearchLaws.{latest-passes, any-latest, latest-none}
use Rattle.format.specs.declared.Record.{Record}
use Rattle.model.specs.History.{Op, History, Amount, Tag, same_amount, read, write, tx_of, write_to, ended, standing}
use Rattle.journal.specs.Journal.{tx_in, op_of, history}
use Rattle.journal.specs.Refusals.{malformed, terminated, conflicting, blind, mismatched}
use Rattle.journal.specs.Orders.{Refusal, access_order, rule_order, decide}
use Rattle.journal.proofs.Records.{tx_of-op_of}
use Rattle.journal.proofs.Unrefused.{op_of-read, op_of-write}
use Rattle.journal.proofs.Passing.{malformed-tx}
use Rattle.journal.proofs.OrdersLaws.{refusal_at, or_else-none, decide-try, decide-turn, decide-over}
use Rattle.fields.proofs.Fields.{same_bits}
use Rattle.arrays.specs.declared.Touched.{Touched}
use Rattle.arrays.specs.declared.end.End.{End}
use Rattle.arrays.specs.declared.end.End.TheVariants.{Open, Committed, Aborted}
use Rattle.arrays.specs.Ends.{code_of, codes}
use Rattle.arrays.specs.Recent.{end_code, last_write, by_other_active}
use Rattle.arrays.specs.Arrays.{Ready, NoBlindTo, ends_of, writes_of}
use Rattle.arrays.specs.Writers.{writer_of}
use Rattle.arrays.proofs.EndCodes.{ended-code}
use Rattle.arrays.proofs.Found.{passing-history, no_blind-history}
use Rattle.arrays.proofs.ArraysLaws.{ends-array, by-access}
use Rattle.arrays.proofs.WriterLaws.{code-at, last_none, last_some}
use Rattle.rules.specs.Standing.{unlike_standing}
use Rattle.rules.specs.Readers.{readers_of}
use Rattle.rules.proofs.Recent.{open-reads, other-writer, other-access}

-- what is returned for number k at record i
abbrev pub at : ℕ → ℕ → Option Refusal
at k i = some (refusal_at k i)

-- 7 and 8 of an operation, by their conditions
abbrev later : Bool → Bool → ℕ → Option Refusal
later c b i = or_else (cond c (at 7 i) none) (cond b (at 8 i) none)

access-parts : (p : History) (i : ℕ) (o : Op)
    → decide (access_order p i o) ≡ or_else (cond (terminated p o) (at 6 i) none) (later (conflicting p o) (blind p o) i)
unfolding access_order
access-parts p i o = simp (decide-turn, decide-over, decide-try, or_else-none)

-- 6 to 8, then 9
rule-parts : (p : History) (i : ℕ) (o : Op) → decide (rule_order p i o) ≡ or_else (decide (access_order p i o)) (cond (mismatched p o) (at 9 i) none)
unfolding rule_order
rule-parts p i o = simp (decide-turn, decide-over, decide-try, or_else-none)

-- ---- rules 6 to 8

-- operations of transaction s
module _ (b : List ℕ) (n s : ℕ) (k : Ready b n) (l : s < 1025) (ends : List End) (g : codes ends ≡ ends_of (history b n)) where
  end_is : code_of (get_or ends s Open) ≡ end_code (history b n) s
  end_is = sym (code-at ends s) ∙ rw (g, (ends-array (history b n)).at s 0 l)

  terminated-is : (o : Op) → tx_of o ≡ s → terminated (history b n) o ≡ not (eqb (code_of (get_or ends s Open)) 0)
  unfolding terminated
  terminated-is o w = rw (w, end_is) (ended-code (history b n) s)

  -- s has not ended
  module _ (z : get_or ends s Open ≡ Open) where
    unended : ended (history b n) s ≡ false
    unended = ended-code (history b n) s ∙ rw (← end_is, z)

    rest : (o : Op) → tx_of o ≡ s
        → decide (access_order (history b n) (n + 1) o) ≡ later (conflicting (history b n) o) (blind (history b n) o) (n + 1)
    rest o w = rw (access-parts (history b n) (n + 1) o, terminated-is o w, z)

    module _ (x : ℕ) (t : Touched) (w : t ≡ writer_of (history b n) s x) where
      -- a read
      read-rest : decide (access_order (history b n) (n + 1) (read (n + 1) s x)) ≡ cond t.other (at 7 (n + 1)) none
      unfolding conflicting blind writer_of
      read-rest =
          rw (rest (read (n + 1) s x) refl, other-writer (history b n) (passing-history b n k.passed) s x, w)
          (or_else-none (cond (by_other_active (history b n) s (last_write (history b n) x)) (at 7 (n + 1)) none))

      pub read-conflict : t.other ≡ true → at 7 (n + 1) ≡ decide (access_order (history b n) (n + 1) (read (n + 1) s x))
      read-conflict h = rw (read-rest, h)

      pub read-passed : t.other ≡ false → none ≡ decide (access_order (history b n) (n + 1) (read (n + 1) s x))
      read-passed h = rw (read-rest, h)

      -- a write
      module _ (u : Touched) (v : u ≡ readers_of (history b n) s x t) (d a : Amount) where
        abbrev o : Op
        o = write (n + 1) s x d a

        conflict-is : conflicting (history b n) o ≡ u.other
        unfolding conflicting writer_of readers_of
        conflict-is = rw (v, w) (other-access (history b n) (passing-history b n k.passed) s x)

        blind-is : NoBlindTo b n → blind (history b n) o ≡ not u.own
        unfolding blind writer_of readers_of
        blind-is f = rw (v, w) (ap not (open-reads x s (history b n) (passing-history b n k.passed) (no_blind-history b n f) unended))

        pub write-conflict : u.other ≡ true → at 7 (n + 1) ≡ decide (access_order (history b n) (n + 1) o)
        write-conflict h = rw (rest o refl, conflict-is, h)

        module _ (h : u.other ≡ false) (f : NoBlindTo b n) where
          pub write-blind : u.own ≡ false → at 8 (n + 1) ≡ decide (access_order (history b n) (n + 1) o)
          write-blind e = rw (rest o refl, conflict-is, h, blind-is f, e)

          pub write-right : u.own ≡ true → none ≡ decide (access_order (history b n) (n + 1) o)
          write-right e = rw (rest o refl, conflict-is, h, blind-is f, e)

-- of a record that is not malformed
module _ (b : List ℕ) (n m : ℕ) (r : Record) (k : Ready b n) (f : malformed m r ≡ false) where
  pub tx-low : tx_in r < 1025
  tx-low = let a = malformed-tx m r f in omega arith

  module _ (ends : List End) (g : codes ends ≡ ends_of (history b n)) where
    -- 6
    pub access-terminated : (get_or ends (tx_in r) Open ≡ Committed) ⊎ (get_or ends (tx_in r) Open ≡ Aborted) → at 6 (n + 1) ≡ decide (access_order (history b n) (n + 1) (op_of (n + 1) r))
    access-terminated z =
        rw (access-parts (history b n) (n + 1) (op_of (n + 1) r), terminated-is b n (tx_in r) k tx-low ends g (op_of (n + 1) r) (tx_of-op_of (n + 1) r), not-open z)
      where
        not-open : (get_or ends (tx_in r) Open ≡ Committed) ⊎ (get_or ends (tx_in r) Open ≡ Aborted) → eqb (code_of (get_or ends (tx_in r) Open)) 0 ≡ false
        not-open (inl e) = rw e
        not-open (inr e) = rw e

    -- an end
    pub access_end : get_or ends (tx_in r) Open ≡ Open → (r.kind ≡ 1 → ⊥) → (r.kind ≡ 2 → ⊥) → none ≡ decide (access_order (history b n) (n + 1) (op_of (n + 1) r))
    unfolding conflicting blind
    access_end z c d =
        rw (rest b n (tx_in r) k tx-low ends g z (op_of (n + 1) r) (tx_of-op_of (n + 1) r))
        (by-access (λ o. none ≡ later (conflicting (history b n) o) (blind (history b n) o) (n + 1)) (n + 1) r (λ e. absurd (c e)) (λ e. absurd (d e)) refl refl refl)

-- what is found of the read or the write that a record is, is found of the record
module _ (p : History) (i : Tag) (r : Record) (v : Option Refusal) where
  pub of-read : r.kind ≡ 1 → v ≡ decide (access_order p i (read i (tx_in r) r.item.0)) → v ≡ decide (access_order p i (op_of i r))
  of-read e h = h ∙ rw (op_of-read i r e)

  pub of-write : r.kind ≡ 2 → ((d a : Amount) → v ≡ decide (access_order p i (write i (tx_in r) r.item.0 d a))) → v ≡ decide (access_order p i (op_of i r))
  of-write e h = h r.before r.after ∙ rw (op_of-write i r e)

-- ---- rule 9

module _ (b : List ℕ) (n x j : ℕ) (l : List ℕ) (k : Ready b n) (d : l ≡ writes_of (history b n)) (e : x < 1024) (q : j ≡ get_or l x 0) (a : Amount) where
  -- no earlier write
  pub unlike-unwritten : j ≡ 0 → eqb j 0 ≡ not (unlike_standing (history b n) x a)
  unfolding unlike_standing
  unlike-unwritten y = rw (y, latest-none (write_to x) (history b n) (last_none b n x j l k d e q y))

  written : (j ≡ 0 → ⊥) → any (write_to x) (history b n) ≡ true
  written y =
      let s = last_some b n x j l k d e q y in any-latest (write_to x) (write_to x) (history b n) s (latest-passes (write_to x) (history b n) s)

  -- a compared with the standing amount s
  pub unlike-written : (s : Amount) → (j ≡ 0 → ⊥) → s ≡ standing (pos 0) (history b n) x → SFits w32 a → SFits w32 s → eqb (of_z w32 a) (of_z w32 s) ≡ not (unlike_standing (history b n) x a)
  unfolding unlike_standing
  unlike-written s y c fa fs = same_bits a s fa fs ∙ rw (written y, c) (sym (not-not (same_amount a (standing (pos 0) (history b n) x))))

-- of a record: what 6 to 8 refuse is refused
module _ (p : History) (i : Tag) (r : Record) where
  pub access_refused : (f : Refusal) → some f ≡ decide (access_order p i (op_of i r)) → some f ≡ decide (rule_order p i (op_of i r))
  access_refused f q = rw (rule-parts p i (op_of i r), ← q)

  -- where they pass it, 9 decides: at a write, its before image m
  module _ (h : none ≡ decide (access_order p i (op_of i r))) where
    matched-is : (m : Bool) → r.kind ≡ 2 → SFits w32 r.before → m ≡ not (unlike_standing p r.item.0 (to_z w32 (of_z w32 r.before))) → mismatched p (op_of i r) ≡ not m
    unfolding unlike_standing mismatched
    matched-is m e f q = rw (op_of-write i r e, q, to_z-of_z w32 r.before f) (sym (not-not _))

    pub stands-write : (m : Bool) → r.kind ≡ 2 → SFits w32 r.before → m ≡ not (unlike_standing p r.item.0 (to_z w32 (of_z w32 r.before))) → m ≡ true → none ≡ decide (rule_order p i (op_of i r))
    stands-write m e f q y = rw (rule-parts p i (op_of i r), ← h, matched-is m e f q, y)

    pub differs-write : (m : Bool) → r.kind ≡ 2 → SFits w32 r.before → m ≡ not (unlike_standing p r.item.0 (to_z w32 (of_z w32 r.before))) → m ≡ false → at 9 i ≡ decide (rule_order p i (op_of i r))
    differs-write m e f q y = rw (rule-parts p i (op_of i r), ← h, matched-is m e f q, y)

    pub stands-other : (r.kind ≡ 2 → ⊥) → none ≡ decide (rule_order p i (op_of i r))
    unfolding mismatched
    stands-other d =
        rw (rule-parts p i (op_of i r), ← h)
        (by-access (λ o. none ≡ cond (mismatched p o) (at 9 i) none) i r (λ e. refl) (λ e. absurd (d e)) refl refl refl)
