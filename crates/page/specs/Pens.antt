-- What a pen has put on its page. Assumes nothing.
use Rattle.std.specs.Prelude.{◌≡◌, ℕ, ◌+◌, min, List, length}
use Rattle.page.specs.declared.pen.Pen.{Pen}
use Rattle.page.specs.Pages.{overlay, last}

-- A text was put on the page from the pen's place on, and the pen is behind it, on the same page.
pub record Wrote (old new : Pen) (text : List ℕ) : Type 0 where
  pub laid : new.page.now ≡ overlay old.page.now old.at text
  pub place : new.at ≡ min (old.at + length text) last
  pub same_page : new.page.ghost_name ≡ old.page.ghost_name
