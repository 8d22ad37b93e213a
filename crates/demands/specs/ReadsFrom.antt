-- The reads-from rule, said of any history: what `reads_from` finds is the highest earlier write of the item that changed the amount
-- and whose transaction is the reader or has already committed. Document 01, "The rules of taking back", as document 02, request 3,
-- amends it. In a journal that passes it is the published papers' rule among the writes that changed the amount.
-- proofs/ReadsFrom.antt proves both. Assumes nothing.
use Rattle.std.specs.Prelude.{◌≡◌, true, not, ◌&&◌, ◌↔◌, ◌∷◌, ℕ, ◌≤◌, length}
use Rattle.std.proofs.Math.Option.{Option, none, some}
use Rattle.lists.specs.Search.{latest}
use Rattle.model.specs.History.{Tag, Op, History, Amount, read, write, tx_of, write_to, committed, aborted}
use Rattle.model.specs.Undo.{is_source, Upto, reads_from}
use Rattle.journal.specs.Inputs.{Inputs}
use Rattle.journal.specs.Journal.{whole}
use Rattle.demands.specs.Days.{Pass}

-- a write of item x that may feed, by transaction s itself or by one that has already committed in p
pub data Source (p : History) (s x : ℕ) : Op → Type 0 where
  by_itself : {i : Tag} {b a : Amount} → is_source (write i s x b a) ≡ true → Source p s x (write i s x b a)
  by-committed : {i : Tag} {v : ℕ} {b a : Amount} → is_source (write i v x b a) ≡ true → committed p v ≡ true → Source p s x (write i v x b a)

-- w is the highest of them: it stands in p, with what is earlier behind it, and none stands higher
pub record Highest (p : History) (s x : ℕ) (w : Op) : Type 0 where
  pub source : Source p s x w
  pub earlier : History
  pub there : Upto (w ∷ earlier) p
  pub highest : (v : Op) (q : History) → Upto (v ∷ q) p → Source p s x v → length q ≤ length earlier

-- The published papers' rule (source document 002, "reads x from") among the writes that may feed: a read of x after p is fed by the
-- highest earlier one of x whose transaction has not aborted before the read; it may be another, still active one.
abbrev pub last_unaborted : History → ℕ → Option Op
last_unaborted p x = latest (λ w. (write_to x w && not (aborted p (tx_of w))) && is_source w) p

-- A read of x by s after p is fed by w exactly if w is the highest; by the opening amount exactly if there is none.
pub record ReadsFrom : Type 0 where
  -- the writes that may feed: those whose after image is not their before image
  pub feeding : (i : Tag) (s x : ℕ) (b a : Amount) → (is_source (write i s x b a) ≡ true) ↔ (b ≡ a → ⊥)
  pub highest : (p : History) (s x : ℕ) (w : Op) → (reads_from is_source p s x ≡ some w) ↔ Highest p s x w
  pub opening : (p : History) (s x : ℕ) → (reads_from is_source p s x ≡ none)
      ↔ ((w : Op) (q : History) → Upto (w ∷ q) p → Source p s x w → ⊥)
  -- in a journal that passes, each read is fed as by that rule: refusal 7 leaves no other active writer of the item
  pub papers : (d : Inputs) → Pass d → (i : Tag) (s x : ℕ) (p : History) → Upto (read i s x ∷ p) (whole d.journal)
      → reads_from is_source p s x ≡ last_unaborted p x
