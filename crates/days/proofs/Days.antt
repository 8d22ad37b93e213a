-- The worked days hold: one test, computed over the whole table, and the lemma that turns it into the equation of each row.
-- Document 01, "Days to try". Assumes nothing.
use mathlib.Core.Path.{◌≡◌, refl, sym, ap, ◌∙◌}
use mathlib.Core.Bool.{Bool, true, false, cond, false≢true}
use mathlib.Core.List.{List, [], ◌∷◌}
use Prim.Native.Nat.{ℕ, suc}
use Rattle.lists.proofs.BoolLaws.{by_cases}
use Rattle.example.specs.Example.{example, example_table}
use Rattle.journal.specs.Inputs.{inputs_of}
use Rattle.journal.specs.Calls.{start, append, check, chain, count_records, undo}
use Rattle.days.proofs.Computed.{computed}
use Rattle.days.proofs.Tests.{starts, appends, checks, chains, countings, undos}
use Rattle.days.specs.Days.{Row, starting, appending, checking, chaining, counting, undoing, Holds, AllHold, done, ◌&◌, status_buffer, blank, example_left, days, OwnRewrite, SecondRecord, RepeatedName}

-- the call gives what the row says
abbrev passes : Row → Bool
passes (starting b n e) = starts.same (start b n) e
passes (appending b t c kind s x a e) = appends.same (append (inputs_of b t) c kind s x a) e
passes (checking b t e) = checks.same (check (inputs_of b t)) e
passes (chaining b s l e) = chains.same (chain b s l) e
passes (counting b e) = countings.same (count_records b) e
passes (undoing b t bad m o e) = undos.same (undo (inputs_of b t) bad m o) e

passes-holds : (r : Row) → passes r ≡ true → Holds r
passes-holds (starting b n e) = starts.means (start b n) e
passes-holds (appending b t c kind s x a e) = appends.means (append (inputs_of b t) c kind s x a) e
passes-holds (checking b t e) = checks.means (check (inputs_of b t)) e
passes-holds (chaining b s l e) = chains.means (chain b s l) e
passes-holds (counting b e) = countings.means (count_records b) e
passes-holds (undoing b t bad m o e) = undos.means (undo (inputs_of b t) bad m o) e

-- the positions, from k on, of the rows that do not pass
abbrev failing : ℕ → List Row → List ℕ
failing k [] = []
failing k (r ∷ rs) = let rest : List ℕ = failing (suc k) rs in cond (passes r) rest (k ∷ rest)

empty : List ℕ → Bool
empty [] = true
empty (x ∷ l) = false

-- where none fails, each row holds
none-failing : (k : ℕ) (rs : List Row) → failing k rs ≡ [] → AllHold rs
unfolding empty
none-failing k [] e = done
none-failing k (r ∷ rs) e =
    by_cases (passes r)
    (λ p. passes-holds r p & none-failing (suc k) rs (rw p at e))
    (λ f. absurd (false≢true (ap empty (rw f at e))))

pub days-hold : AllHold days
unfolding computed
days-hold = none-failing 1 days refl

pub own-rewrite : OwnRewrite
unfolding computed
own-rewrite = record { ahead = refl; behind = refl; other = refl; own = refl; back = refl }

pub second-record : SecondRecord
unfolding computed
second-record = record { placed = refl; means = refl; bytes = refl }

-- the example with a list that leaves what list 1 does
abbrev like_one : List ℕ → Row
like_one bad = undoing example example_table bad status_buffer (blank 80) example_left

named-once : Holds (like_one (1 ∷ []))
unfolding computed
named-once = passes-holds (like_one (1 ∷ [])) refl

named-twice : Holds (like_one (1 ∷ 1 ∷ []))
unfolding computed
named-twice = passes-holds (like_one (1 ∷ 1 ∷ [])) refl

pub repeated-name : RepeatedName
repeated-name = named-twice ∙ sym named-once
