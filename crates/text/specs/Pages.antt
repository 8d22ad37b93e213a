-- A page with room for a text, and a page that a text was written on.
-- Assumes nothing.
use Rattle.std.specs.Prelude.{◌≡◌, List, ℕ, length}
use Rattle.text.specs.declared.Page.{Page}
use Rattle.text.specs.Puts.{Fits, Put}

-- there is room for v behind the text
pub record HasRoom (p : Page) (v : List ℕ) : Type 0 where
  pub fits : Fits p.end v p.bytes.now

-- v is written behind the text, in the same buffer
pub record Writes (p : Page) (v : List ℕ) (q : Page) : Type 0 where
  pub text : Put p.end v p.bytes.now q.bytes.now q.end
  pub size : length q.bytes.now ≡ length p.bytes.now
  pub buffer : q.bytes.ghost_name ≡ p.bytes.ghost_name
