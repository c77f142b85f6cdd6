-- Reading back the text of a key. Assumes nothing.
use Rattle.std.specs.Prelude.{◌≡◌, ◌≢◌, ℕ, ◌^◌, ◌<◌, ◌==◌, Bool, true, cond, List, [], ◌∷◌, Some, None, codes, Option, IfSome, All}
use Rattle.std.specs.List.{slice_split}
use Rattle.std.specs.Option.{option_map}
use Rattle.std.specs.Str.{bytes_eq}
use Rattle.std.specs.Str.Parse.{digits_value}
use Rattle.flood.specs.declared.hearing.Verdict.{Verdict}
use Rattle.flood.specs.declared.hearing.Verdict.TheVariants.{Lost, Refused, Accepted, Forwards}
use Rattle.history.specs.declared.taking.TakenCopy.{TakenCopy}
use Rattle.answer_key.specs.declared.lines.KeyRefusal.{KeyRefusal}
use Rattle.answer_key.specs.Lines.{space, line_feed, copy_line, refusal_line, key_text}

-- what a text says: copies, and perhaps a refusal
pub record KeyParts (Num : Type 0) : Type 0 where
  pub copies : List (TakenCopy Num)
  pub refusal : Option KeyRefusal

-- A text is cut at line feeds, so that nothing stands behind the last one, and a line is cut at spaces.
abbrev pub lines_of : List ℕ → List (List ℕ)
lines_of text = slice_split (λ b. b == line_feed) text

abbrev pub words_of : List ℕ → List (List ℕ)
words_of line = slice_split (λ b. b == space) line

abbrev pub verdict_in : List ℕ → Option Verdict
verdict_in word =
    cond (bytes_eq word (codes "lost")) (Some Lost)
    (cond (bytes_eq word (codes "refused")) (Some Refused)
    (cond (bytes_eq word (codes "accepted")) (Some Accepted)
    (cond (bytes_eq word (codes "forwards")) (Some Forwards) None)))

-- the refusal of a line of three words
abbrev pub refusal_in : List (List ℕ) → Option KeyRefusal
refusal_in (first ∷ number ∷ index ∷ []) = cond (bytes_eq first (codes "refusal")) (Some (record { number = digits_value 10 number; index = digits_value 10 index })) None
refusal_in _ = None

-- the lines behind those of copies: a refusal's or none, and then nothing
abbrev pub end_in : List (List ℕ) → Option (Option KeyRefusal)
end_in ([] ∷ []) = Some None
end_in (line ∷ [] ∷ []) = option_map Some (refusal_in (words_of line))
end_in _ = None

-- `of` answers the number of a kind that has a value.
module _ {Num : Type 0} (of : ℕ → Option Num) where
  -- the copy of a line of six words
  abbrev pub copy_in : List (List ℕ) → Option (TakenCopy Num)
  copy_in (instant ∷ from ∷ to ∷ hop ∷ number ∷ verdict ∷ []) =
      elim (of (digits_value 10 number)) [
        | None ↦ None
        | Some held ↦ option_map (λ told. record { instant = digits_value 10 instant; from = digits_value 10 from; to = digits_value 10 to; hop = digits_value 10 hop; number = held; verdict = told }) (verdict_in verdict)
      ]
  copy_in _ = None

  unfoldable pub parts_in : List (List ℕ) → Option (KeyParts Num)
  parts_in [] = None
  parts_in (line ∷ lines) =
      elim (copy_in (words_of line)) [
        | Some copy ↦ option_map (λ parts. record { copies = copy ∷ parts.copies; refusal = parts.refusal }) (parts_in lines)
        | None ↦ option_map (λ refusal. record { copies = []; refusal = refusal }) (end_in (line ∷ lines))
      ]

  -- the copies and the refusal of a text
  abbrev pub key_read : List ℕ → Option (KeyParts Num)
  key_read text = parts_in (lines_of text)

-- a refusal whose parts its types hold
pub record RefusalInRange (refusal : KeyRefusal) : Type 0 where
  pub number : refusal.number < 2 ^ 8
  pub index : refusal.index < 2 ^ 64

module _ {Num : Type 0} (among : Num → Bool) (worth : Num → ℕ) where
  -- a copy whose parts its types hold, and its number the kind
  pub record CopyInRange (copy : TakenCopy Num) : Type 0 where
    pub instant : copy.instant < 2 ^ 32
    pub from : copy.from < 2 ^ 8
    pub to : copy.to < 2 ^ 8
    pub hop : copy.hop < 2 ^ 8
    pub number : among copy.number ≡ true
    pub value : worth copy.number < 2 ^ 32

  pub record KeyInRange (parts : KeyParts Num) : Type 0 where
    pub copies : All CopyInRange parts.copies
    pub refusal : IfSome parts.refusal RefusalInRange

abbrev pub parts_text : {Num : Type 0} → (Num → ℕ) → KeyParts Num → List ℕ
parts_text worth parts = key_text worth parts.copies parts.refusal

-- What is true of every text that print writes, in any kind of number.
pub record PrintLaws {Num : Type 0} (among : Num → Bool) (of : ℕ → Option Num) (worth : Num → ℕ) : Type 0 where
  -- a text is read back as the copies and the refusal that it was written from
  pub reads_back : (parts : KeyParts Num) → KeyInRange among worth parts → key_read of (parts_text worth parts) ≡ Some parts
  -- so what has the same text is the same
  pub same_text :
      (parts other : KeyParts Num) → KeyInRange among worth parts → KeyInRange among worth other → parts_text worth parts ≡ parts_text worth other
      → parts ≡ other
  -- no copy's line is a refusal's
  pub no_refusal : (copy : TakenCopy Num) (refusal : KeyRefusal) → CopyInRange among worth copy → copy_line worth copy ≢ refusal_line refusal
