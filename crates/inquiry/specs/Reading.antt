-- What stands in words. Assumes nothing.
use Rattle.std.specs.Bool.{then_some}
use Rattle.std.specs.Prelude.{ℕ, cond, ◌&&◌, List, [], ◌∷◌, Some, None, codes, Option, nat_le}
use Rattle.std.specs.Str.{bytes_eq}
use Rattle.words.specs.Numbers.{number_in}
use Rattle.inquiry.specs.declared.reading.Name.{Name}
use Rattle.inquiry.specs.declared.reading.Name.TheVariants.{Free, Linear, Circular, Differentiated}
use Rattle.numbering.specs.Meaning.{Meaning}

-- the lawful number that a word writes, in a kind whose number of a value is `of`
abbrev pub lawful_in : {Num : Type 0} → Meaning Num → (ℕ → Option Num) → List ℕ → Option Num
lawful_in m of word = elim (number_in word) [ None ↦ None | Some v ↦ elim (of v) [ None ↦ None | Some x ↦ then_some (m.lawful x) x ] ]

-- an smax of 2 to 255
abbrev pub smax_in : List ℕ → Option ℕ
smax_in word = elim (number_in word) [ None ↦ None | Some v ↦ then_some (nat_le 2 v && nat_le v 255) v ]

-- the numbering that a word names
abbrev pub named : List ℕ → Option Name
named word =
    cond (bytes_eq word (codes "free")) (Some Free)
    (cond (bytes_eq word (codes "linear")) (Some Linear)
    (cond (bytes_eq word (codes "circular")) (Some Circular)
    (cond (bytes_eq word (codes "differentiated")) (Some Differentiated) None)))

-- the first word, and the words after it
abbrev pub first_of : List (List ℕ) → Option (List ℕ × List (List ℕ))
first_of [] = None
first_of (word ∷ words) = Some (word, words)

-- the words, where they are two
abbrev pub pair_of : List (List ℕ) → Option (List ℕ × List ℕ)
pair_of [] = None
pair_of (v ∷ []) = None
pair_of (v ∷ w ∷ []) = Some (v, w)
pair_of (v ∷ w ∷ x ∷ more) = None
