-- The net change of a history, and the sum of a table.
-- Document 02, request 1. Assumes nothing.
use Rattle.std.specs.Prelude.{List, [], ◌∷◌, pos, ◌+ℤ◌, ◌-ℤ◌}
use Rattle.model.specs.History.{Op, History, Amount, read, write, commit, abort, other}

-- the net change with one operation more: a write adds after less before
abbrev pub net_with : Op → Amount → Amount
net_with (read t s x) v = v
net_with (write t s x b a) v = v +ℤ (a -ℤ b)
net_with (commit t s) v = v
net_with (abort t s) v = v
net_with (other t s) v = v

-- 02: the total of after less before over the writes, signed
unfoldable pub net_change : History → Amount
net_change [] = pos 0
net_change (r ∷ p) = net_with r (net_change p)

-- 02: the sum of a table
unfoldable pub table_sum : List Amount → Amount
table_sum [] = pos 0
table_sum (v ∷ l) = v +ℤ table_sum l
