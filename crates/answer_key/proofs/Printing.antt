-- That what is printed of a key is a portion of it. Assumes nothing.
use Rattle.std.proofs.Common.{◌≡◌, ℕ, zero, suc, ◌+◌, ◌<◌, ◌≤◌, inl, inr, List, [], ◌∷◌, ◌++◌, true, false, eqb, length, take, drop, sym, refl, ap, ◌∙◌, arith, append_assoc}
use Rattle.std.proofs.Math.Seq.{drop-append_seam, drop-drop, take-append_seam}
use Rattle.std.proofs.lemmas.Bool.{eqb-false, eqb-true}
use Rattle.std.proofs.lemmas.List.{append-nil, drop-take, length-append, length-take, take-append-drop}
use Rattle.std.specs.Prelude.{◌-◌, decimal}
use Rattle.field.specs.declared.Act.{Act}
use Rattle.history.specs.Worlds.{Lent, World}
use Rattle.history.specs.declared.taking.TakenCopy.{TakenCopy}
use Rattle.refusal.specs.declared.RunFault.{RunFault}
use Rattle.answer_key.specs.Keys.{refusal_at}
use Rattle.answer_key.specs.Lines.{copy_line, copy_lines, refusal_line}
use Rattle.answer_key.specs.Portions.{Printed, Short, Standing, Whole, end_ahead, line_short, standing, text_ahead, waiting}
use Rattle.answer_key.specs.Steps.{LinesPrinted, LinesUnprinted, RefusalPrinted, RefusalUnprinted, Written, lines_on}
use Rattle.answer_key.specs.declared.lines.KeyRefusal.{KeyRefusal}
use Rattle.answer_key.specs.declared.states.Ahead.{Ahead}
use Rattle.answer_key.specs.declared.states.Ahead.TheVariants.{Acts, Refusal, Refused}
use Rattle.answer_key.specs.declared.states.Bookmark.{Bookmark}
use Rattle.answer_key.proofs.Acting.{lines_joined, no_lines}

-- rows that the code finds empty, or not
module _ {A : Type 0} {xs ys : List A} (is : xs ≡ ys) where
  pub no_row : true ≡ eqb (length xs) 0 → ys ≡ []
  no_row none = by ys (sym (ap length is) ∙ eqb-true (length xs) 0 (sym none))
    where
      by : (ys : List A) → length ys ≡ 0 → ys ≡ []
      by [] e = refl
      by (y ∷ ys) e = absurd (omega arith)

  pub some_row : false ≡ eqb (length xs) 0 → 0 < length ys
  some_row some = let none = eqb-false (length xs) 0 (sym some) in omega (arith, none, ap length is)

-- a word has a byte behind it
some_behind : (word rest : List ℕ) (b : ℕ) → 0 < length (word ++ (b ∷ rest))
some_behind word rest b = omega (arith, length-append word (b ∷ rest))

some_refusal : (refusal : KeyRefusal) → 0 < length (refusal_line refusal)
unfolding refusal_line
some_refusal refusal = omega arith

-- a text that stands on a page, and what is behind it
module _ (text page pages : List ℕ) (size : ℕ) (written : Written text page pages size) where
  text_there : take size pages ≡ text
  text_there = rw (written.size_is, written.page_is) (take-append_seam text (drop (length text) page))

  rest_there : drop size pages ≡ drop size page
  rest_there = rw (written.size_is, written.page_is) (drop-append_seam text (drop (length text) page))

module _ {Num : Type 0} (worth : Num → ℕ) where
  some_line : (copy : TakenCopy Num) → 0 < length (copy_line worth copy)
  unfolding copy_line
  some_line copy = some_behind (decimal copy.instant) _ _

  some_lines : (count : ℕ) (copies : List (TakenCopy Num)) → 0 < count → count ≤ length copies → 0 < length (copy_lines worth (take count copies))
  unfolding copy_lines
  some_lines zero copies some few = absurd (omega arith)
  some_lines (suc count) [] some few = absurd (omega arith)
  some_lines (suc count) (copy ∷ copies) some few = let one = some_line copy in omega (arith, one, length-append (copy_line worth copy) (copy_lines worth (take count copies)))

  -- a page that has no room for the first of some lines
  first_line : (copies : List (TakenCopy Num)) (short : ℕ) → 0 < length copies → short < length (copy_lines worth (take 1 copies)) → (at : Standing Num) → length at.page ≡ short → (acts : List (Act Num)) → line_short worth acts copies at
  unfolding copy_lines
  first_line [] short some less at page acts = absurd (omega arith)
  first_line (copy ∷ copies) short some less at page acts = let e = append-nil (copy_line worth copy) in omega (arith, page, less, ap length e)

module _
    {Num : Type 0} (lent : Lent Num) (worth : Num → ℕ) (acts : List (Act Num)) (mark : Bookmark) (world : World Num) (log : List (TakenCopy Num)) (page : List ℕ) where
  abbrev at : Standing Num
  at = standing lent mark world log page

  -- what is ahead is the same behind the lines that are printed
  same_ahead : (ahead : Ahead) (count : ℕ) (pages : List ℕ) → text_ahead worth acts ahead (standing lent (lines_on count mark) world log pages) ≡ text_ahead worth acts ahead at
  same_ahead Acts count pages = refl
  same_ahead (Refusal fault) count pages = refl
  same_ahead (Refused fault) count pages = refl

  same_end : (ahead : Ahead) (count : ℕ) (pages : List ℕ) → end_ahead worth acts ahead (standing lent (lines_on count mark) world log pages) ≡ end_ahead worth acts ahead at
  same_end Acts count pages = refl
  same_end (Refusal fault) count pages = refl
  same_end (Refused fault) count pages = refl

  -- the lines that wait behind those
  still_waiting : (count : ℕ) → count ≤ length (waiting mark log) → waiting (lines_on count mark) log ≡ drop count (waiting mark log)
  still_waiting count few =
      let most : count ≤ mark.lines = omega (arith, few, length-take mark.lines (drop mark.first log)) in
      let parts : mark.lines ≡ count + (mark.lines - count) = omega arith in
      ap (λ (l : List (TakenCopy Num)). take (mark.lines - count) l) (sym (drop-drop count mark.first log))
      ∙ sym (ap (λ (k : ℕ). drop count (take k (drop mark.first log))) parts ∙ drop-take count (mark.lines - count) (drop mark.first log))

  pub lines_portion :
      (given : Lent Num) (new : Bookmark) (pages : List ℕ) (size : ℕ) → given ≡ lent
      → LinesPrinted worth mark new log page pages size → Printed worth acts at (standing given new world log pages) size
  lines_portion given new pages size same done =
      let waits = waiting mark log in
      let lines = copy_lines worth (take done.count waits) in
      let later = copy_lines worth (drop done.count waits) in
      let all : copy_lines worth waits ≡ lines ++ later =
      ap (copy_lines worth) (sym (take-append-drop done.count waits)) ∙ lines_joined worth (take done.count waits) (drop done.count waits) in
      let some = some_lines worth done.count waits done.some done.waited in
      rw (same, done.mark_is) (record {
        same_lent = refl;
        size_fits = omega (arith, done.written.size_is, done.written.fits);
        text = rw (text_there lines page pages size done.written, still_waiting done.count done.waited, same_ahead mark.ahead done.count pages) (sym (append_assoc lines later _) ∙ ap (λ (t : List ℕ). t ++ text_ahead worth acts mark.ahead at) (sym all));
        page_stays = rest_there lines page pages size done.written;
        same_end = same_end mark.ahead done.count pages;
        goes_on = inl (omega (arith, some, done.written.size_is));
        few_instants = omega arith;
      })

  pub lines_short :
      (fault : RunFault) (given : Lent Num) (new : Bookmark) (pages : List ℕ) → given ≡ lent → 0 < length (waiting mark log)
      → LinesUnprinted worth mark new log page pages fault → Short worth acts at (standing given new world log pages) fault
  lines_short fault given new pages same some done = record {
    same = rw (same, done.mark_is, done.unwritten.page_is) refl;
    fault_is = done.unwritten.fault_is;
    short = first_line worth (waiting mark log) (length page) some done.unwritten.too_long at refl acts;
    small = inr done.narrow;
  }

  module _ (ending : RunFault) (given : Lent Num) (new : Bookmark) (pages : List ℕ) (same : given ≡ lent) (none : waiting mark log ≡ []) (ahead : mark.ahead ≡ Refusal ending) where
    pub refusal_portion : (size : ℕ) → RefusalPrinted ending mark new page pages size → Printed worth acts at (standing given new world log pages) size
    refusal_portion size done =
        let line = refusal_line (refusal_at ending mark.index) in
        rw (same, done.mark_is) (record {
          same_lent = refl;
          size_fits = omega (arith, done.written.size_is, done.written.fits);
          text = rw (text_there line page pages size done.written, none, ahead, no_lines worth) (append-nil line);
          page_stays = rest_there line page pages size done.written;
          same_end = rw ahead refl;
          goes_on = inl (omega (arith, some_refusal (refusal_at ending mark.index), done.written.size_is));
          few_instants = omega arith;
        })

    pub refusal_short_of : (fault : RunFault) → RefusalUnprinted ending mark new page pages fault → Short worth acts at (standing given new world log pages) fault
    refusal_short_of fault done = record {
      same = rw (same, done.mark_is, done.unwritten.page_is) refl;
      fault_is = done.unwritten.fault_is;
      short = rw (none, ahead) done.unwritten.too_long;
      small = inr done.narrow;
    }

  pub nothing_portion : (fault : RunFault) → waiting mark log ≡ [] → mark.ahead ≡ Refused fault → Whole worth acts at at
  nothing_portion fault none ahead = record { same = refl; text = rw (none, ahead) (ap (λ (t : List ℕ). t ++ []) (no_lines worth)); at_end = rw ahead refl }
