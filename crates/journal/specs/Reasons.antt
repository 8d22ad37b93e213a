-- Document 01's number and place for each reason that the code returns.
-- Assumes nothing.
use Rattle.std.specs.Prelude.{ℕ}
use Rattle.journal.specs.declared.Reason.{Reason}
use Rattle.journal.specs.declared.Reason.TheVariants.{Truncated, Header, TableLength, Malformed, Chain, Closed, Conflict}
use Rattle.journal.specs.declared.Reason.TheVariants.{Blind, BeforeImage, FinalState, Active, Unknown, StatusLength}
use Rattle.journal.specs.declared.Reason.TheVariants.{Capacity, Counts}

abbrev pub number_of : Reason → ℕ
number_of Truncated = 1
number_of Header = 2
number_of TableLength = 3
number_of (Malformed i) = 4
number_of (Chain i) = 5
number_of (Closed i) = 6
number_of (Conflict i) = 7
number_of (Blind i) = 8
number_of (BeforeImage i) = 9
number_of (FinalState x) = 10
number_of (Active s) = 11
number_of (Unknown k) = 12
number_of StatusLength = 13
number_of Capacity = 14
number_of Counts = 15

abbrev pub place_of : Reason → ℕ
place_of Truncated = 0
place_of Header = 0
place_of TableLength = 0
place_of (Malformed i) = i.0
place_of (Chain i) = i.0
place_of (Closed i) = i.0
place_of (Conflict i) = i.0
place_of (Blind i) = i.0
place_of (BeforeImage i) = i.0
place_of (FinalState x) = x.0
place_of (Active s) = s.0
place_of (Unknown k) = k
place_of StatusLength = 0
place_of Capacity = 0
place_of Counts = 0
