-- The text of a key, read back. Assumes nothing.
use Rattle.std.proofs.Common.{◌≡◌, ◌≢◌, ℕ, ◌^◌, ◌<◌, Bool, true, List, [], ◌∷◌, ◌++◌, length, Some, None, Option, All, IfSome, refl, sym, ap, ◌∙◌, append_assoc, arith, lit<, decimal, codes}
use Rattle.std.specs.Option.{option_map}
use Rattle.std.specs.Str.Parse.{AllDigits, digits_value}
use Rattle.std.proofs.lemmas.Fmt.{decimal_is_IsNumeral}
use Rattle.std.proofs.lemmas.List.Elements.{All-head, All-tail}
use Rattle.std.proofs.lemmas.Str.Parse.{digit_from_value}
use Rattle.flood.specs.declared.hearing.Verdict.{Verdict}
use Rattle.flood.specs.declared.hearing.Verdict.TheVariants.{Lost, Refused, Accepted, Forwards}
use Rattle.history.specs.declared.taking.TakenCopy.{TakenCopy}
use Rattle.answer_key.specs.declared.lines.KeyRefusal.{KeyRefusal}
use Rattle.answer_key.specs.Lines.{word_then, verdict_word, copy_line, copy_lines, last_line, refusal_line, key_text}
use Rattle.answer_key.specs.Reading.{KeyParts, lines_of, words_of, verdict_in, refusal_in, end_in, copy_in, parts_in, key_read, CopyInRange, RefusalInRange, KeyInRange, parts_text, PrintLaws}
use Rattle.answer_key.proofs.Cuts.{Above, above_less, above_append, above_decimal, cut_none, cut_first}

read_number : (n : ℕ) → n < 2 ^ 64 → digits_value 10 (decimal n) ≡ n
read_number n h = (decimal_is_IsNumeral n h).1

above_verdict : (verdict : Verdict) → Above 32 (verdict_word verdict)
above_verdict Lost = (lit< tt, (lit< tt, (lit< tt, (lit< tt, tt))))
above_verdict Refused = (lit< tt, (lit< tt, (lit< tt, (lit< tt, (lit< tt, (lit< tt, (lit< tt, tt)))))))
above_verdict Accepted = (lit< tt, (lit< tt, (lit< tt, (lit< tt, (lit< tt, (lit< tt, (lit< tt, (lit< tt, tt))))))))
above_verdict Forwards = (lit< tt, (lit< tt, (lit< tt, (lit< tt, (lit< tt, (lit< tt, (lit< tt, (lit< tt, tt))))))))

read_verdict : (verdict : Verdict) → verdict_in (verdict_word verdict) ≡ Some verdict
read_verdict Lost = refl
read_verdict Refused = refl
read_verdict Accepted = refl
read_verdict Forwards = refl

-- a word and the rest of a line without its line feed
above_then : (word rest : List ℕ) → Above 32 word → Above 10 rest → Above 10 (word_then word rest)
above_then word rest first second = above_append 10 word (32 ∷ rest) (above_less 10 32 word (omega arith) first) (lit< tt, second)

-- the words of a line, the first of them cut off
words_then : (word rest : List ℕ) → Above 32 word → words_of (word_then word rest) ≡ word ∷ words_of rest
words_then word rest above = cut_first 32 word rest above

-- the lines of a text, the first of them cut off
lines_then : (line rest : List ℕ) → Above 10 line → lines_of (line ++ (10 ∷ rest)) ≡ line ∷ lines_of rest
lines_then line rest above = cut_first 10 line rest above

-- the line of a refusal, without its line feed
refusal_body : KeyRefusal → List ℕ
refusal_body refusal = word_then (codes "refusal") (word_then (decimal refusal.number) (decimal refusal.index))

above_refusal : Above 32 (codes "refusal")
above_refusal = (lit< tt, (lit< tt, (lit< tt, (lit< tt, (lit< tt, (lit< tt, (lit< tt, tt)))))))

module _ (refusal : KeyRefusal) (h : RefusalInRange refusal) where
  refusal_ends : refusal_line refusal ≡ refusal_body refusal ++ (10 ∷ [])
  unfolding refusal_line refusal_body
  refusal_ends = simp append_assoc

  number_above : Above 32 (decimal refusal.number)
  number_above = above_decimal refusal.number (omega (arith, h.number))

  index_above : Above 32 (decimal refusal.index)
  index_above = above_decimal refusal.index h.index

  refusal_above : Above 10 (refusal_body refusal)
  unfolding refusal_body
  refusal_above = above_then (codes "refusal") _ above_refusal (above_then (decimal refusal.number) (decimal refusal.index) number_above (above_less 10 32 (decimal refusal.index) (omega arith) index_above))

  refusal_words : words_of (refusal_body refusal) ≡ codes "refusal" ∷ decimal refusal.number ∷ decimal refusal.index ∷ []
  unfolding refusal_body
  refusal_words =
      words_then (codes "refusal") (word_then (decimal refusal.number) (decimal refusal.index)) above_refusal
      ∙ ap (λ (ws : List (List ℕ)). codes "refusal" ∷ ws) (words_then (decimal refusal.number) (decimal refusal.index) number_above
      ∙ ap (λ (ws : List (List ℕ)). decimal refusal.number ∷ ws) (cut_none 32 (decimal refusal.index) index_above))

  refusal_read : refusal_in (words_of (refusal_body refusal)) ≡ Some refusal
  refusal_read = rw (refusal_words, read_number refusal.number (omega (arith, h.number)), read_number refusal.index h.index) refl

  refusal_end : (line : List ℕ) → refusal_in (words_of line) ≡ Some refusal → end_in (line ∷ [] ∷ []) ≡ Some (Some refusal)
  refusal_end [] e = ap (option_map Some) e
  refusal_end (b ∷ line) e = ap (option_map Some) e

  refusal_lines : lines_of (refusal_line refusal) ≡ refusal_body refusal ∷ [] ∷ []
  refusal_lines = rw refusal_ends (lines_then (refusal_body refusal) [] refusal_above)

module _ {Num : Type 0} (among : Num → Bool) (worth : Num → ℕ) where
  -- the line of a copy, without its line feed
  copy_body : TakenCopy Num → List ℕ
  copy_body copy =
      word_then (decimal copy.instant) (word_then (decimal copy.from) (word_then (decimal copy.to) (word_then (decimal copy.hop) (word_then (decimal (worth copy.number)) (verdict_word copy.verdict)))))

  copy_ends : (copy : TakenCopy Num) (rest : List ℕ) → copy_line worth copy ++ rest ≡ copy_body copy ++ (10 ∷ rest)
  unfolding copy_line copy_body
  copy_ends copy rest = simp append_assoc

  module _ (copy : TakenCopy Num) (h : CopyInRange among worth copy) where
    instant_above : Above 32 (decimal copy.instant)
    instant_above = above_decimal copy.instant (omega (arith, h.instant))

    from_above : Above 32 (decimal copy.from)
    from_above = above_decimal copy.from (omega (arith, h.from))

    to_above : Above 32 (decimal copy.to)
    to_above = above_decimal copy.to (omega (arith, h.to))

    hop_above : Above 32 (decimal copy.hop)
    hop_above = above_decimal copy.hop (omega (arith, h.hop))

    value_above : Above 32 (decimal (worth copy.number))
    value_above = above_decimal (worth copy.number) (omega (arith, h.value))

    copy_above : Above 10 (copy_body copy)
    unfolding copy_body
    copy_above =
        above_then _ _ instant_above (above_then _ _ from_above (above_then _ _ to_above (above_then _ _ hop_above (above_then _ _ value_above (above_less 10 32 _ (omega arith) (above_verdict copy.verdict))))))

    copy_words : words_of (copy_body copy) ≡ decimal copy.instant ∷ decimal copy.from ∷ decimal copy.to ∷ decimal copy.hop ∷ decimal (worth copy.number) ∷ verdict_word copy.verdict ∷ []
    unfolding copy_body
    copy_words =
        words_then (decimal copy.instant) _ instant_above
        ∙ ap (λ (ws : List (List ℕ)). decimal copy.instant ∷ ws) (words_then (decimal copy.from) _ from_above
        ∙ ap (λ (ws : List (List ℕ)). decimal copy.from ∷ ws) (words_then (decimal copy.to) _ to_above
        ∙ ap (λ (ws : List (List ℕ)). decimal copy.to ∷ ws) (words_then (decimal copy.hop) _ hop_above
        ∙ ap (λ (ws : List (List ℕ)). decimal copy.hop ∷ ws) (words_then (decimal (worth copy.number)) _ value_above
        ∙ ap (λ (ws : List (List ℕ)). decimal (worth copy.number) ∷ ws) (cut_none 32 (verdict_word copy.verdict) (above_verdict copy.verdict))))))

    copy_read : (of : ℕ → Option Num) → of (worth copy.number) ≡ Some copy.number → copy_in of (words_of (copy_body copy)) ≡ Some copy
    copy_read of there =
        rw (copy_words, read_number (worth copy.number) (omega (arith, h.value)), there, read_verdict copy.verdict, read_number copy.instant (omega (arith, h.instant)), read_number copy.from (omega (arith, h.from)), read_number copy.to (omega (arith, h.to)), read_number copy.hop (omega (arith, h.hop)), copy_in) refl

    copy_lines_then : (rest : List ℕ) → lines_of (copy_line worth copy ++ rest) ≡ copy_body copy ∷ lines_of rest
    copy_lines_then rest = rw (copy_ends copy rest) (lines_then (copy_body copy) rest copy_above)

  module _ (of : ℕ → Option Num) (there : (x : Num) → among x ≡ true → of (worth x) ≡ Some x) where
    last_read : (refusal : Option KeyRefusal) → IfSome refusal RefusalInRange → key_read of (last_line refusal) ≡ Some (record { copies = []; refusal = refusal })
    unfolding parts_in
    last_read None h = refl
    last_read (Some refusal) h = rw (refusal_lines refusal h, refusal_words refusal h, refusal_end refusal h (refusal_body refusal) (refusal_read refusal h), parts_in) refl

    read_back : (copies : List (TakenCopy Num)) (refusal : Option KeyRefusal) → All (CopyInRange among worth) copies → IfSome refusal RefusalInRange → key_read of (key_text worth copies refusal) ≡ Some (record { copies = copies; refusal = refusal })
    unfolding parts_in copy_lines
    read_back [] refusal held last = last_read refusal last
    read_back (copy ∷ copies) refusal held last =
        let first = All-head (CopyInRange among worth) copy copies held in
        let rest = key_text worth copies refusal in
        let behind = read_back copies refusal (All-tail (CopyInRange among worth) copy copies held) last in
        ap (key_read of) (append_assoc (copy_line worth copy) (copy_lines worth copies) (last_line refusal))
        ∙ rw (copy_lines_then copy first rest, copy_read copy first of (there copy.number first.number), behind, parts_in) refl

    same_text : (parts other : KeyParts Num) → KeyInRange among worth parts → KeyInRange among worth other → parts_text worth parts ≡ parts_text worth other → parts ≡ other
    same_text parts other h g e =
        let one = read_back parts.copies parts.refusal h.copies h.refusal in
        let two = read_back other.copies other.refusal g.copies g.refusal in
        let same : Some parts ≡ Some other = sym one ∙ ap (key_read of) e ∙ two in
        cc

  -- a digit is not the letter that a refusal's line begins with
  not_a_digit : (ds rest more : List ℕ) → 0 < length ds → AllDigits 10 ds → ds ++ rest ≢ 114 ∷ more
  not_a_digit [] rest more some digits e = omega arith
  not_a_digit (d ∷ ds) rest more some digits e = let same : d ≡ 114 = cc in omega (arith, digit_from_value d digits.0)

  no_refusal : (copy : TakenCopy Num) (refusal : KeyRefusal) → CopyInRange among worth copy → copy_line worth copy ≢ refusal_line refusal
  unfolding copy_line refusal_line
  no_refusal copy refusal h e =
      let numeral = (decimal_is_IsNumeral copy.instant (omega (arith, h.instant))).0 in
      not_a_digit (decimal copy.instant) _ _ numeral.0 numeral.1 e

  pub print_laws : (of : ℕ → Option Num) → ((x : Num) → among x ≡ true → of (worth x) ≡ Some x) → PrintLaws among of worth
  print_laws of there = record {
    reads_back = λ parts h. read_back of there parts.copies parts.refusal h.copies h.refusal;
    same_text = same_text of there;
    no_refusal = no_refusal;
  }
