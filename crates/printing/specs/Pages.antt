-- What a page that a program keeps holds once a text was put on it. Assumes nothing.
use Rattle.std.specs.Prelude.{ℕ, Bool, cond, List, length, nat_le}
use Rattle.page.specs.Pages.{overlay, written}

-- A text that fits stands at the front, with the rest as it was. A longer one is all that the new page has; where there was no memory for
-- one, the old page has as much of it as it has room for.
abbrev pub put_page : List ℕ → List ℕ → Bool → List ℕ
put_page text page answered = cond (nat_le (length text) (length page)) (written text page) (cond answered text (overlay page 0 text))
