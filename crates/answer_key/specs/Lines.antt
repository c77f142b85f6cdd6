-- The lines of a key. Assumes nothing.
use Rattle.std.specs.Prelude.{ℕ, List, [], ◌∷◌, ◌++◌, Some, None, codes, decimal, Option}
use Rattle.flood.specs.declared.hearing.Verdict.{Verdict}
use Rattle.flood.specs.declared.hearing.Verdict.TheVariants.{Lost, Refused, Accepted, Forwards}
use Rattle.history.specs.declared.taking.TakenCopy.{TakenCopy}
use Rattle.answer_key.specs.declared.lines.KeyRefusal.{KeyRefusal}

-- the byte between two words of a line, and the one that ends it
abbrev pub space : ℕ
space = 32

abbrev pub line_feed : ℕ
line_feed = 10

abbrev pub verdict_word : Verdict → List ℕ
verdict_word Lost = codes "lost"
verdict_word Refused = codes "refused"
verdict_word Accepted = codes "accepted"
verdict_word Forwards = codes "forwards"

-- a word, and the rest of its line
abbrev pub word_then : List ℕ → List ℕ → List ℕ
word_then word rest = word ++ (space ∷ rest)

-- the line of a refusal: its number, and the index of its record
unfoldable pub refusal_line : KeyRefusal → List ℕ
refusal_line refusal = word_then (codes "refusal") (word_then (decimal refusal.number) (decimal refusal.index ++ (line_feed ∷ [])))

-- behind the lines of copies there is one of a refusal, or there is none
abbrev pub last_line : Option KeyRefusal → List ℕ
last_line None = []
last_line (Some refusal) = refusal_line refusal

-- Numbers of a kind are written by their values.
module _ {Num : Type 0} (worth : Num → ℕ) where
  -- instant, sender, receiver, hop, number and verdict
  unfoldable pub copy_line : TakenCopy Num → List ℕ
  copy_line copy =
      word_then (decimal copy.instant) (word_then (decimal copy.from) (word_then (decimal copy.to) (word_then (decimal copy.hop) (word_then (decimal (worth copy.number)) (verdict_word copy.verdict ++ (line_feed ∷ []))))))

  unfoldable pub copy_lines : List (TakenCopy Num) → List ℕ
  copy_lines [] = []
  copy_lines (copy ∷ copies) = copy_line copy ++ copy_lines copies

  -- the text of copies and of a refusal behind them
  abbrev pub key_text : List (TakenCopy Num) → Option KeyRefusal → List ℕ
  key_text copies refusal = copy_lines copies ++ last_line refusal
