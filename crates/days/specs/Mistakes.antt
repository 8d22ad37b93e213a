-- The slips of document 01, "Slips a good programmer would make", and those near request 3 of document 02, each as a rule of its
-- own, and a day on which it goes wrong: the right result, the slip's result and that they differ. Assumes nothing.
use Rattle.std.specs.Prelude.{◌≡◌, Bool, true, false, cond, not, ◌&&◌, ◌||◌, List, [], ◌∷◌, ℕ, pos, eqb, ltb, length, replicate}
use Rattle.std.proofs.Math.Option.{some}
use Rattle.lists.specs.Search.{first, keep, member}
use Rattle.lists.specs.Tables.{tabulate}
use Rattle.model.specs.History.{Op, History, Amount, same_amount, read, write, commit, abort, other, by_kind, unread, never}
use Rattle.model.specs.History.{is_write, of_tx, tag_of, tag_in, committed}
use Rattle.model.specs.Undo.{is_source, reads_from, by_member, reached, committed_in, committed_out, undone, surviving, survivors}
use Rattle.model.specs.Undo.{renumber, repaired, replayed}
use Rattle.journal.specs.Inputs.{inputs_of}
use Rattle.journal.specs.Journal.{history, whole, amount_at}
use Rattle.journal.specs.Calls.{status_of, statuses, opening_at, UndoResult, undo}
use Rattle.example.specs.Records.{p500, p900}
use Rattle.example.specs.Example.{example, example_table}
use Rattle.days.specs.Journals.{late_read, late_read_table, successive, rewrite_read, rewrite_read_table, two_writes, kept_rewrite}
use Rattle.days.specs.Journals.{written_back}
use Rattle.days.specs.Days.{status_buffer, blank}

-- what a take-back leaves: the table and the marks
pub record UndoEffect : Type 0 where
  pub table : List Amount
  pub status : List ℕ

-- a rule of taking back: bad list, journal, table
abbrev pub UndoRule : Type 0
UndoRule = List ℕ → List ℕ → List Amount → UndoEffect

-- the definition, with marks and paper that suffice on these days
abbrev pub correct : UndoRule
correct bad b t = let u : UndoResult =
    undo (inputs_of b t) bad status_buffer (blank 240) in record { table = u.table; status = u.status }

-- a day on which a slip goes wrong
pub record Fails (mistake : UndoRule) (bad journal : List ℕ) (table : List Amount) (good wrong : UndoEffect) : Type 0 where
  pub expected : correct bad journal table ≡ good
  pub mistaken : mistake bad journal table ≡ wrong
  pub differ : good ≡ wrong → ⊥

-- the marks of a set of transactions taken back, and the table with the others' after images
abbrev pub effect_of : (ℕ → Bool) → (ℕ → Bool) → List ℕ → List Amount → UndoEffect
effect_of removed surviving b t =
    record {
      table = tabulate (λ x. replayed surviving (opening_at (inputs_of b t) x) (whole b) x) 0 (length t);
      status = tabulate (status_of removed surviving) 0 1025;
    }

-- ---- every taken-back write undone forward, each to its own before image

abbrev pub undone_forward : (ℕ → Bool) → Amount → History → ℕ → Amount
undone_forward removed v [] x = v
undone_forward removed v (read i s y ∷ p) x = undone_forward removed v p x
undone_forward removed v (write i s y b a ∷ p) x = cond (eqb x y && removed s) b (undone_forward removed v p x)
undone_forward removed v (commit i s ∷ p) x = undone_forward removed v p x
undone_forward removed v (abort i s ∷ p) x = undone_forward removed v p x
undone_forward removed v (other i s ∷ p) x = undone_forward removed v p x

abbrev pub forward : UndoRule
forward bad b t =
    record {
      table = tabulate (λ x. undone_forward (undone is_source bad (whole b)) (amount_at t x) (whole b) x) 0 (length t);
      status = statuses bad (whole b);
    }

-- the example: item 1, clean again at 0 after record 4, turns to record 8's before, 1
abbrev pub ForwardFails : Type 0
ForwardFails =
    Fails forward (1 ∷ []) example example_table
    (record { table = pos 500 ∷ pos 0 ∷ pos 1180 ∷ []; status = 0 ∷ 2 ∷ 2 ∷ 1 ∷ replicate 1021 0 })
    (record { table = pos 500 ∷ pos 1 ∷ pos 1180 ∷ []; status = 0 ∷ 2 ∷ 2 ∷ 1 ∷ replicate 1021 0 })

-- ---- only the direct readers of the listed transactions

abbrev pub direct_readers : List ℕ → History → List ℕ
direct_readers bad [] = bad
direct_readers bad (read i s x ∷ p) = let m : List ℕ =
    direct_readers bad p in cond (by_member bad (reads_from is_source p s x)) (s ∷ m) m
direct_readers bad (write i s x b a ∷ p) = direct_readers bad p
direct_readers bad (commit i s ∷ p) = direct_readers bad p
direct_readers bad (abort i s ∷ p) = direct_readers bad p
direct_readers bad (other i s ∷ p) = direct_readers bad p

abbrev pub direct : UndoRule
direct bad b t =
    let m : List ℕ = direct_readers bad (whole b) in effect_of (committed_in m (whole b)) (committed_out m (whole b)) b t

-- 2 reads what 1 wrote, 3 what 2 wrote: 3 and its write stay
abbrev pub DirectFails : Type 0
DirectFails =
    Fails direct (1 ∷ []) successive (pos 1000 ∷ [])
    (record { table = pos 500 ∷ []; status = 0 ∷ 2 ∷ 2 ∷ 2 ∷ replicate 1021 0 })
    (record { table = pos 1000 ∷ []; status = 0 ∷ 2 ∷ 2 ∷ 1 ∷ replicate 1021 0 })

-- ---- a transaction's writes made ahead of its bad read are kept

-- the after images of committed transactions that were not listed and had no bad read until then
abbrev pub replayed_ahead : List ℕ → (ℕ → Bool) → Amount → History → ℕ → Amount
replayed_ahead bad done d [] x = d
replayed_ahead bad done d (read i s y ∷ p) x = replayed_ahead bad done d p x
replayed_ahead bad done d (write i s y b a ∷ p) x =
    cond (eqb x y && (done s && not (member s (reached is_source bad p)))) a (replayed_ahead bad done d p x)
replayed_ahead bad done d (commit i s ∷ p) x = replayed_ahead bad done d p x
replayed_ahead bad done d (abort i s ∷ p) x = replayed_ahead bad done d p x
replayed_ahead bad done d (other i s ∷ p) x = replayed_ahead bad done d p x

abbrev pub ahead : UndoRule
ahead bad b t =
    record {
      table = tabulate (λ x. replayed_ahead bad (committed (whole b)) (opening_at (inputs_of b t) x) (whole b) x) 0 (length t);
      status = statuses bad (whole b);
    }

-- 2 writes item 2 and only later reads from 1: item 2 stays at 900
abbrev pub AheadFails : Type 0
AheadFails =
    Fails ahead (1 ∷ []) late_read late_read_table
    (record { table = pos 500 ∷ pos 7 ∷ pos 1000 ∷ []; status = 0 ∷ 2 ∷ 2 ∷ replicate 1022 0 })
    (record { table = pos 500 ∷ pos 7 ∷ pos 900 ∷ []; status = 0 ∷ 2 ∷ 2 ∷ replicate 1022 0 })

-- ---- every transaction that began after a listed one is removed

-- the first record of s comes after that of a listed transaction
abbrev pub began_after : List ℕ → History → ℕ → Bool
began_after [] j s = false
began_after (v ∷ bad) j s = ltb (tag_in (first (of_tx v) j)) (tag_in (first (of_tx s) j)) || began_after bad j s

abbrev pub later_or_listed : List ℕ → History → ℕ → Bool
later_or_listed bad j s = member s bad || began_after bad j s

abbrev pub all_later : UndoRule
all_later bad b t =
    let g : ℕ → Bool = later_or_listed bad (whole b) in
    let done : ℕ → Bool = committed (whole b) in
    effect_of (λ s. done s && g s) (λ s. done s && not (g s)) b t

-- the example: 3, which read nothing of 1 or 2, goes too
abbrev pub AllLaterFails : Type 0
AllLaterFails =
    Fails all_later (1 ∷ []) example example_table
    (record { table = pos 500 ∷ pos 0 ∷ pos 1180 ∷ []; status = 0 ∷ 2 ∷ 2 ∷ 1 ∷ replicate 1021 0 })
    (record { table = pos 500 ∷ pos 0 ∷ pos 1000 ∷ []; status = 0 ∷ 2 ∷ 2 ∷ 2 ∷ replicate 1021 0 })

-- ---- request 3: which writes feed, by another test

abbrev pub by_source : (Op → Bool) → UndoRule
by_source φ bad b t = effect_of (undone φ bad (whole b)) (surviving φ bad (whole b)) b t

-- every write feeds: the reader of a rewrite goes
abbrev pub EveryWriteFails : Type 0
EveryWriteFails =
    Fails (by_source (λ w. true)) (1 ∷ []) rewrite_read rewrite_read_table
    (record { table = rewrite_read_table; status = 0 ∷ 2 ∷ 1 ∷ replicate 1022 0 })
    (record { table = pos 500 ∷ pos 0 ∷ pos 1000 ∷ []; status = 0 ∷ 2 ∷ 2 ∷ replicate 1022 0 })

-- one that leaves another amount than the opening one feeds: 3, which read what 2 wrote back, stays
abbrev pub against_opening : UndoRule
against_opening bad b t =
    by_source (by_kind unread (λ s x d a. not (same_amount a (opening_at (inputs_of b t) x))) never never) bad b t

abbrev pub AgainstOpeningFails : Type 0
AgainstOpeningFails =
    Fails against_opening (2 ∷ []) written_back (pos 500 ∷ [])
    (record { table = pos 900 ∷ []; status = 0 ∷ 1 ∷ 2 ∷ 2 ∷ replicate 1021 0 })
    (record { table = pos 900 ∷ []; status = 0 ∷ 1 ∷ 2 ∷ 1 ∷ replicate 1021 0 })

-- one that leaves another amount than the last committed one feeds
abbrev pub against_committed : List ℕ → List Amount → Op → Bool
against_committed b t w =
    let p : History = history b (tag_of w) in
    by_kind unread (λ s x d a. not (same_amount a (replayed (committed p) (opening_at (inputs_of b t) x) p x))) never never w

-- 1 writes 900 and then 500 again, and commits; 2 is fed by the second write, by this rule by the first: the same transactions go
pub record AgainstCommittedFails : Type 0 where
  pub expected : reads_from is_source (history (two_writes p900 p500) 4) 2 0 ≡ some (write 3 1 0 (pos 900) (pos 500))
  pub mistaken : reads_from (against_committed (two_writes p900 p500) (pos 500 ∷ [])) (history (two_writes p900 p500) 4) 2 0
      ≡ some (write 2 1 0 (pos 500) (pos 900))
  pub differ : reads_from is_source (history (two_writes p900 p500) 4) 2 0
      ≡ reads_from (against_committed (two_writes p900 p500) (pos 500 ∷ [])) (history (two_writes p900 p500) 4) 2 0 → ⊥

-- ---- request 3: rewrites are left out of the copy

abbrev pub without_rewrites : History → History
without_rewrites = keep (λ r. not (is_write r) || is_source r)

-- the copy that leaves out 1 has the rewrite of 2 as its record 2, by this rule its commit: histories of three and of two records
pub record WithoutRewritesFails : Type 0 where
  pub expected : repaired is_source (1 ∷ []) (whole kept_rewrite)
      ≡ commit 3 2 ∷ write 2 2 1 (pos 1000) (pos 1000) ∷ read 1 2 1 ∷ []
  pub mistaken : renumber (without_rewrites (survivors is_source (1 ∷ []) (whole kept_rewrite))) ≡ commit 2 2 ∷ read 1 2 1 ∷ []
  pub differ : repaired is_source (1 ∷ []) (whole kept_rewrite)
      ≡ renumber (without_rewrites (survivors is_source (1 ∷ []) (whole kept_rewrite))) → ⊥
