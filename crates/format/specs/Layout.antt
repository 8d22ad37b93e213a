-- The layout of a record: seven fields in 20 bytes. Reading, writing and the round trip follow from the one list of widths.
-- Document 01, "The journal", the table. Assumes nothing.
use Rattle.std.specs.Prelude.{List, [], ◌∷◌, ◌++◌, ℕ, ◌*◌, ◌<◌, pos, take, drop, get_or}
use Rattle.std.specs.Int.{w32}
use Rattle.std.proofs.Common.{SFits}
use Rattle.format.specs.declared.Record.{Record}
use Rattle.format.specs.Bytes.{value, bytes, amount, bits}
use Rattle.format.specs.Limits.{record_bytes}

-- bytes of each field: kind, reserved (byte 1), transaction, next, item, before, after
abbrev pub layout : List ℕ
layout = 1 ∷ 1 ∷ 2 ∷ 4 ∷ 4 ∷ 4 ∷ 4 ∷ []

-- the numbers in fields of these widths, one after the other
unfoldable pub parsed : List ℕ → List ℕ → List ℕ
parsed [] b = []
parsed (w ∷ ws) b = value (take w b) ∷ parsed ws (drop w b)

-- the bytes of fields of these widths
unfoldable pub printed : List ℕ → List ℕ → List ℕ
printed [] vs = []
printed (w ∷ ws) [] = []
printed (w ∷ ws) (v ∷ vs) = bytes w v ++ printed ws vs

-- a record's fields as numbers, and the record with these fields
abbrev pub fields : Record → List ℕ
fields r = r.kind ∷ r.reserved ∷ r.transaction.0 ∷ r.next.0 ∷ r.item.0 ∷ bits r.before ∷ bits r.after ∷ []

abbrev pub record_with : List ℕ → Record
record_with v =
    record {
      kind = get_or v 0 0;
      reserved = get_or v 1 0;
      transaction = record { 0 = get_or v 2 0 };
      next = record { 0 = get_or v 3 0 };
      item = record { 0 = get_or v 4 0 };
      before = amount (get_or v 5 0);
      after = amount (get_or v 6 0);
    }

-- the record in 20 bytes
unfoldable pub record_of : List ℕ → Record
record_of b = record_with (parsed layout b)

-- the 20 bytes of a record
unfoldable pub bytes_of : Record → List ℕ
bytes_of r = printed layout (fields r)

-- record i of a journal; record 0 is the head
unfoldable pub record_at : List ℕ → ℕ → Record
record_at b i = record_of (take record_bytes (drop (record_bytes * i) b))

-- the head of a journal of n records and m items
abbrev pub head_with : ℕ → ℕ → Record
head_with n m =
    record {
      kind = 0;
      reserved = 0;
      transaction = record { 0 = 0 };
      next = record { 0 = n };
      item = record { 0 = m };
      before = pos 0;
      after = pos 0;
    }

-- each field fits its bytes
pub record Fitting (r : Record) : Type 0 where
  pub kind : r.kind < 256
  pub reserved : r.reserved < 256
  pub transaction : r.transaction.0 < 65536
  pub next : r.next.0 < 4294967296
  pub item : r.item.0 < 4294967296
  pub before : SFits w32 r.before
  pub after : SFits w32 r.after
