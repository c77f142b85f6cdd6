-- Text on a page. Assumes nothing.
use Rattle.std.specs.Prelude.{ℕ, zero, suc, ◌-◌, ◌^◌, cond, List, [], ◌∷◌, ◌++◌, length, drop, Some, None, decimal, Option, nat_le}
use Rattle.page.specs.declared.Piece.{Piece}
use Rattle.page.specs.declared.Piece.TheVariants.{Words, Number}

-- What a page holds once a text is laid on it from a place on; what would go past its end is dropped.
unfoldable pub overlay : List ℕ → ℕ → List ℕ → List ℕ
overlay [] at text = []
overlay (x ∷ page) (suc at) text = x ∷ overlay page at text
overlay (x ∷ page) zero [] = x ∷ page
overlay (x ∷ page) zero (b ∷ text) = b ∷ overlay page zero text

-- the last place there is, which stands for every place after it too
abbrev pub last : ℕ
last = 2 ^ 64 - 1

-- the length of a text that fits on a page
abbrev pub fitting : List ℕ → List ℕ → Option ℕ
fitting text page = cond (nat_le (length text) (length page)) (Some (length text)) None

-- the text at the front of a page, or nothing where it does not fit
abbrev pub written : List ℕ → List ℕ → List ℕ
written text page = cond (nat_le (length text) (length page)) (text ++ drop (length text) page) page

abbrev pub piece_text : Piece → List ℕ
piece_text (Words words) = words.now
piece_text (Number n) = decimal n

-- the texts of items, one after another, each with its place; the first item's place is given
abbrev pub joined : {A : Type 0} → (ℕ → A → List ℕ) → ℕ → List A → List ℕ
joined text place [] = []
joined text place (x ∷ xs) = text place x ++ joined text (suc place) xs

abbrev pub line : List Piece → List ℕ
line = joined (λ place piece. piece_text piece) 0
