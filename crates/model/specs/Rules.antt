-- Refusals 6 to 9 of document 01 as conditions on an operation r after the history p.
-- Assumes nothing.
use Rattle.std.specs.Prelude.{Bool, not, ◌&&◌, ℕ, pos, eqb}
use Rattle.lists.specs.Search.{any}
use Rattle.model.specs.History.{Op, History, same_amount, tx_of, by_kind, unread, never, read_of, write_to, access_to, ended}
use Rattle.model.specs.History.{standing}

-- 6 closed: the transaction already has an end
abbrev pub terminated : History → Op → Bool
terminated p r = ended p (tx_of r)

-- another transaction than s, open after p, has an operation that passes
abbrev pub by_other : (Op → Bool) → History → ℕ → Bool
by_other f p s = any (λ r. f r && (not (eqb s (tx_of r)) && not (ended p (tx_of r)))) p

-- 7 crossed: a read or write of an item that another open transaction has written, or a write of one that it has read
abbrev pub conflicting : History → Op → Bool
conflicting p = by_kind (λ s x. by_other (write_to x) p s) (λ s x b a. by_other (access_to x) p s) never never

-- 8 blind: a write with no earlier read of the item by its transaction
abbrev pub blind : History → Op → Bool
blind p = by_kind unread (λ s x b a. not (any (read_of s x) p)) never never

-- 9 before: a write of an item with an earlier write, whose before image is not the standing amount. With an earlier write the
-- standing amount does not depend on the table, so none is given.
abbrev pub mismatched : History → Op → Bool
mismatched p = by_kind unread (λ s x b a. any (write_to x) p && not (same_amount b (standing (pos 0) p x))) never never
