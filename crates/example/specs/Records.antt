-- Records of a journal in bytes, for journals written out by hand.
-- Document 01, "The journal". Assumes nothing.
use Rattle.std.specs.Prelude.{List, [], ◌∷◌, ◌++◌, ℕ}

-- ---- twenty bytes each; transaction, next, item and count are below 256 here, an amount comes as its four bytes

abbrev pub head_bytes : ℕ → ℕ → List ℕ
head_bytes count items = 0 ∷ 0 ∷ 0 ∷ 0 ∷ count ∷ 0 ∷ 0 ∷ 0 ∷ items ∷ 0 ∷ 0 ∷ 0 ∷ 0 ∷ 0 ∷ 0 ∷ 0 ∷ 0 ∷ 0 ∷ 0 ∷ 0 ∷ []

abbrev pub read_bytes : ℕ → ℕ → ℕ → List ℕ
read_bytes tx next item = 1 ∷ 0 ∷ tx ∷ 0 ∷ next ∷ 0 ∷ 0 ∷ 0 ∷ item ∷ 0 ∷ 0 ∷ 0 ∷ 0 ∷ 0 ∷ 0 ∷ 0 ∷ 0 ∷ 0 ∷ 0 ∷ 0 ∷ []

abbrev pub write_bytes : ℕ → ℕ → ℕ → List ℕ → List ℕ → List ℕ
write_bytes tx next item before after = 2 ∷ 0 ∷ tx ∷ 0 ∷ next ∷ 0 ∷ 0 ∷ 0 ∷ item ∷ 0 ∷ 0 ∷ 0 ∷ (before ++ after)

abbrev pub commit_bytes : ℕ → ℕ → List ℕ
commit_bytes tx next = 3 ∷ 0 ∷ tx ∷ 0 ∷ next ∷ 0 ∷ 0 ∷ 0 ∷ 0 ∷ 0 ∷ 0 ∷ 0 ∷ 0 ∷ 0 ∷ 0 ∷ 0 ∷ 0 ∷ 0 ∷ 0 ∷ 0 ∷ []

abbrev pub abort_bytes : ℕ → ℕ → List ℕ
abort_bytes tx next = 4 ∷ 0 ∷ tx ∷ 0 ∷ next ∷ 0 ∷ 0 ∷ 0 ∷ 0 ∷ 0 ∷ 0 ∷ 0 ∷ 0 ∷ 0 ∷ 0 ∷ 0 ∷ 0 ∷ 0 ∷ 0 ∷ 0 ∷ []

-- the four bytes of an amount, lowest first
abbrev pub p0 : List ℕ
p0 = 0x00 ∷ 0x00 ∷ 0x00 ∷ 0x00 ∷ []

abbrev pub p1 : List ℕ
p1 = 0x01 ∷ 0x00 ∷ 0x00 ∷ 0x00 ∷ []

abbrev pub p2 : List ℕ
p2 = 0x02 ∷ 0x00 ∷ 0x00 ∷ 0x00 ∷ []

abbrev pub p320 : List ℕ
p320 = 0x40 ∷ 0x01 ∷ 0x00 ∷ 0x00 ∷ []

abbrev pub p500 : List ℕ
p500 = 0xF4 ∷ 0x01 ∷ 0x00 ∷ 0x00 ∷ []

abbrev pub p900 : List ℕ
p900 = 0x84 ∷ 0x03 ∷ 0x00 ∷ 0x00 ∷ []

abbrev pub p1000 : List ℕ
p1000 = 0xE8 ∷ 0x03 ∷ 0x00 ∷ 0x00 ∷ []

abbrev pub p1180 : List ℕ
p1180 = 0x9C ∷ 0x04 ∷ 0x00 ∷ 0x00 ∷ []

-- -1, -2, the lowest and the highest amount
abbrev pub minus1 : List ℕ
minus1 = 0xFF ∷ 0xFF ∷ 0xFF ∷ 0xFF ∷ []

abbrev pub minus2 : List ℕ
minus2 = 0xFE ∷ 0xFF ∷ 0xFF ∷ 0xFF ∷ []

abbrev pub lowest : List ℕ
lowest = 0x00 ∷ 0x00 ∷ 0x00 ∷ 0x80 ∷ []

abbrev pub highest : List ℕ
highest = 0xFF ∷ 0xFF ∷ 0xFF ∷ 0x7F ∷ []
