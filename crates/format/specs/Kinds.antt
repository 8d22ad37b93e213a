-- The kinds of records, and the byte that stands for each.
-- Document 01, "The journal". Assumes nothing.
use Rattle.std.specs.Prelude.{◌≡◌, ◌⊎◌, ℕ, ◌<◌, Result, MatchResult}
use Rattle.format.specs.declared.Kind.{Kind}
use Rattle.format.specs.declared.Kind.TheVariants.{Read, Write, Commit, Abort}
use Rattle.format.specs.declared.UnknownKind.{UnknownKind}

-- 01: 1 read, 2 write, 3 commit, 4 rollback
abbrev pub code_of : Kind → ℕ
code_of Read = 1
code_of Write = 2
code_of Commit = 3
code_of Abort = 4

-- the kind with this code, or the code as one that no kind has
abbrev pub Decodes : ℕ → Result Kind UnknownKind → Type 0
Decodes code r =
    MatchResult r (λ kind. code ≡ code_of kind) (λ e. (e.0 ≡ code) × ((code ≡ 0) ⊎ (4 < code)))
