-- Texts written one behind the other are written as one.
-- Assumes nothing.
use Rattle.std.proofs.Common.{◌≡◌, ℕ, ◌+◌, ◌<◌, List, [], ◌∷◌, ◌++◌, length, take, drop, get_or, flat_map, refl, sym, ap, ◌∙◌, arith, length-append, add-zero, subst, take-append-drop}
use Rattle.std.proofs.lemmas.Grind.{common_steps, flat_map-append}
use lib.Seq.{paste-zero}
use mathlib.Core.List.{flatten, append-nil}
use Rattle.lists.specs.Tables.{store}
use Rattle.lists.proofs.TablesLaws.{store-store}
use Rattle.text.specs.declared.Page.{Page}
use Rattle.text.specs.Pages.{HasRoom, Writes}

pub store-none : {A : Type 0} (at : ℕ) (l : List A) → store at [] l ≡ l
unfolding store
store-none at l = sym (paste-zero l at [])

-- no text
pub writes-none : (p : Page) → Writes p [] p
writes-none p = record { text = record { holds = sym (store-none p.end p.bytes.now); size = sym (add-zero p.end) }; size = refl; buffer = refl }

-- a text behind another
module _ (v w : List ℕ) {p : Page} (room : HasRoom p (v ++ w)) where
  pub room-front : HasRoom p v
  room-front = record { fits = record { room = omega (arith, length-append v w) } }

  module _ {q : Page} (first : Writes p v q) where
    pub room-behind : HasRoom q w
    room-behind = record { fits = record { room = omega (arith, length-append v w) } }

    pub writes-behind : {r : Page} → Writes q w r → Writes p (v ++ w) r
    writes-behind second =
        record {
          text = record {
            holds = second.text.holds ∙ rw (first.text.size, first.text.holds) (store-store p.end v p.bytes.now room-front.fits.room w);
            size = omega (arith, length-append v w);
          };
          size = second.size ∙ first.size;
          buffer = second.buffer ∙ first.buffer;
        }

-- the text of element i of a list, behind those in front of it
module _ {A : Type 0} (f : A → List ℕ) (l : List A) (i : ℕ) (d : A) (h : i < length l) {p q : Page} (room : HasRoom p (flat_map f l))
    (done : Writes p (flat_map f (take i l)) q) where
  next : flat_map f (take (i + 1) l) ≡ flat_map f (take i l) ++ f (get_or l i d)
  next = grind (arith, common_steps)

  cut : flat_map f l ≡ (flat_map f (take i l) ++ f (get_or l i d)) ++ flat_map f (drop (i + 1) l)
  cut = ap (flat_map f) (sym (take-append-drop (i + 1) l)) ∙ flat_map-append f (take (i + 1) l) (drop (i + 1) l) ∙ ap (λ v. v ++ flat_map f (drop (i + 1) l)) next

  room-through : HasRoom p (flat_map f (take i l) ++ f (get_or l i d))
  room-through = room-front _ (flat_map f (drop (i + 1) l)) (subst (HasRoom p) cut room)

  pub room-next : HasRoom q (f (get_or l i d))
  room-next = room-behind _ _ room-through done

  pub writes-next : {r : Page} → Writes q (f (get_or l i d)) r → Writes p (flat_map f (take (i + 1) l)) r
  writes-next {r} more = rw next (writes-behind _ _ room-through done more)

-- ---- a piece of a text, and those behind it

pub length_none : length {A = ℕ} (flatten []) ≡ 0
unfolding flatten
length_none = refl

pub length-flatten : (v : List ℕ) (vs : List (List ℕ)) → length (flatten (v ∷ vs)) ≡ length v + length (flatten vs)
unfolding flatten
length-flatten v vs = length-append v (flatten vs)

pub room-first : (v : List ℕ) (vs : List (List ℕ)) (p : Page) → HasRoom p (flatten (v ∷ vs)) → HasRoom p v
unfolding flatten
room-first v vs p room = room-front v (flatten vs) room

pub room-rest : (v : List ℕ) (vs : List (List ℕ)) (p q : Page) → Writes p v q → HasRoom p (flatten (v ∷ vs)) → HasRoom q (flatten vs)
unfolding flatten
room-rest v vs p q first room = room-behind v (flatten vs) room first

pub writes-rest : (v : List ℕ) (vs : List (List ℕ)) (p q r : Page) → HasRoom p (flatten (v ∷ vs)) → Writes p v q → Writes q (flatten vs) r → Writes p (flatten (v ∷ vs)) r
unfolding flatten
writes-rest v vs p q r room first rest = writes-behind v (flatten vs) room first rest

pub writes-last : (v : List ℕ) (p q : Page) → Writes p v q → Writes p (flatten (v ∷ [])) q
unfolding flatten
writes-last v p q last = rw append-nil last
