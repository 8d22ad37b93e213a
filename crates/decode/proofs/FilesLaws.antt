-- Files decoded entry by entry.
-- Assumes nothing.
use mathlib.Core.Path.{◌≡◌, refl, sym, ap, ◌∙◌}
use mathlib.Core.List.{List, [], ◌∷◌, ◌++◌, map}
use Prim.Native.Nat.{ℕ, ◌/◌, ◌≤◌, ◌<◌, min}
use native.Mathlib.Omega.{arith}
use lib.ListN.{length, take, drop, get_or}
use lib.Seq.{length-take-le, take_all, take-length}
use Rattle.std.proofs.lemmas.List.{length-map, map-id, take_min}
use Rattle.lists.specs.Tables.{store}
use Rattle.lists.proofs.TablesLaws.{tabulate-zero, length-tabulate, filled, map-tabulate, store-front}
use Rattle.format.specs.Bytes.{entry, entries, amount}
use Rattle.decode.specs.Files.{amounts, transactions, read_part}

-- ---- the numbers of a file

module _ {A : Type 0} (f : ℕ → A) (w : ℕ) (file : List ℕ) where
  pub length-numbers : length (map f (entries w file)) ≡ length file / w
  unfolding entries
  length-numbers = length-map _ f ∙ length-tabulate (entry w file) 0 (length file / w)

  -- the list with each number in its place
  placed : (m : List A) → length m ≡ length file / w → ((d : A) (k : ℕ) → k < length file / w → get_or m k d ≡ f (entry w file k)) → m ≡ map f (entries w file)
  unfolding entries
  placed [] e h = rw (← e, tabulate-zero) refl
  placed (x ∷ m) e h =
      filled (λ k. f (entry w file k)) (length file / w) (x ∷ m) x e (h x) ∙ sym (map-tabulate f (entry w file) 0 (length file / w))

  -- .. in front of what the list had
  pub numbers-stored : (n i : ℕ) (m l : List A) → n ≡ length file / w → n ≤ length l → length m ≡ length (take n l) → length (take n l) ≤ i
      → ((d : A) (k : ℕ) → k < i → get_or m k d ≡ f (entry w file k)) → m ++ drop n l ≡ store 0 (map f (entries w file)) l
  numbers-stored n i m l e h p q o =
      let long : length (take n l) ≡ n = length-take-le n l h in
      let same : n ≡ length m = omega arith in
      rw (← placed m (omega arith) (λ d k r. o d k (omega arith)), same) (sym (store-front m l))

pub numbers-amounts : (file : List ℕ) → map amount (entries 4 file) ≡ amounts file
unfolding amounts
numbers-amounts file = refl

pub numbers-transactions : (file : List ℕ) → map (λ n. n) (entries 2 file) ≡ transactions file
unfolding transactions
numbers-transactions file = map-id (entries 2 file)

-- ---- what is read of a file: its first 64,020 bytes

pub read_of_min : (file : List ℕ) (n : ℕ) → n ≡ min (length file) 64020 → (n ≤ length file) × (n ≤ 64020) × (take n file ≡ read_part file)
unfolding read_part
read_of_min file n e = (omega arith, omega arith, ap (λ k. take k file) (e ∙ omega arith) ∙ take_min 64020 file)

-- all of a short file, and 64,020 bytes of any other
pub read_of_short : (file : List ℕ) → length file ≤ 64020 → take (length file) file ≡ read_part file
unfolding read_part
read_of_short file h = take-length file ∙ sym (take_all 64020 file h)

pub read_part_long : (file : List ℕ) → take 64020 file ≡ read_part file
unfolding read_part
read_part_long file = refl
