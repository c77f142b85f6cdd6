-- A loop that takes the copies of an open instant, link by link. Assumes nothing.
use Rattle.std.proofs.Common.{◌≡◌, ℕ, suc, ◌+◌, ◌<◌, ◌≤◌, Bool, true, false, List, [], ◌∷◌, ◌++◌, length, set, take, drop, Some, None, Ok, Option, is_some, sym, refl, ap, ◌∙◌, subst, arith, add-zero, append_assoc, length-append, drop-cons}
use Rattle.std.specs.Prelude.{◌-◌, slice_get}
use Rattle.std.proofs.lemmas.List.{append-nil, length-set, length-take-le, set-append_right, take-append-drop}
use Rattle.std.proofs.lemmas.Option.{same_Some}
use Rattle.field.specs.declared.Link.{Link}
use Rattle.field.specs.declared.Message.{Message}
use Rattle.field.specs.declared.Row.{Row}
use Rattle.flood.specs.Copies.{copy_here, message_on}
use Rattle.history.specs.Calls.{AfterCopy, copy_over, copy_taken}
use Rattle.history.specs.Limits.{LinksKeep}
use Rattle.history.specs.Plays.{copies_in}
use Rattle.history.specs.Worlds.{Lent, World, told_links}
use Rattle.history.specs.declared.TakenCopy.{TakenCopy}
use Rattle.history.proofs.Kept.{some_from}
use Rattle.history.proofs.Limits.{taken_there}
use Rattle.history.proofs.NextCopies.{TakenSo, all_so, copy_so, link_passed, moved, none_so}
use Rattle.run.specs.Answers.{Answered, answered, taken_on}
use Rattle.run.specs.Plays.{CarriedAll, all_copies, logged}

module _ {Num : Type 0} where
  -- one copy more in a log, behind those that are logged
  logged_one :
      (log : List (TakenCopy Num)) (used : ℕ) (copies : List (TakenCopy Num)) (copy : TakenCopy Num) → used + length copies < length log
      → set (logged log used copies) (used + length copies) copy ≡ logged log used (copies ++ copy ∷ [])
  logged_one log used copies copy within =
      let front = take used log ++ copies in
      let at = used + length copies in
      let long : length front ≡ at = length-append (take used log) copies ∙ ap (λ (k : ℕ). k + length copies) (length-take-le used log (omega arith)) in
      let none : at - at ≡ 0 = omega arith in
      let next : used + length (copies ++ copy ∷ []) ≡ suc at = ap (λ (k : ℕ). used + k) (length-append copies (copy ∷ [])) ∙ omega arith in
      set-append_right front (drop at log) at at copy long (omega arith)
      ∙ rw (none, drop-cons log at copy within, next) (append_one front copy (drop (suc at) log) ∙ rw (append_assoc (take used log) copies (copy ∷ [])) refl)
    where
      append_one : (front : List (TakenCopy Num)) (copy : TakenCopy Num) (rest : List (TakenCopy Num)) → front ++ (copy ∷ rest) ≡ (front ++ copy ∷ []) ++ rest
      append_one front copy rest = sym (append_assoc front (copy ∷ []) rest)

  pub logged_none : (log : List (TakenCopy Num)) (used : ℕ) → logged log used [] ≡ log
  logged_none log used = rw (append-nil (take used log), add-zero used) (take-append-drop used log)

pub no_copy : {A : Type 0} (o : Option A) → ((x : A) → o ≡ Some x → ⊥) → o ≡ None
no_copy None none = refl
no_copy (Some x) none = absurd (none x refl)

-- what comes of a copy over a link, by what the code answers
module _ {Num : Type 0} (world after : World Num) (o : Option (AfterCopy Num)) where
  pub none_over : answered (Ok None) after ≡ taken_on world (Ok o) → (o ≡ None) × (after ≡ world)
  none_over = by o
    where
      by : (o : Option (AfterCopy Num)) → answered (Ok None) after ≡ taken_on world (Ok o) → (o ≡ None) × (after ≡ world)
      by None e = (refl, ap (λ (a : Answered Num (Option (TakenCopy Num))). a.world) e)
      by (Some next) e = let f = ap (λ (a : Answered Num (Option (TakenCopy Num))). a.answer) e in absurd cc

  pub one_over : (copy : TakenCopy Num) → answered (Ok (Some copy)) after ≡ taken_on world (Ok o) → o ≡ Some (record { copy = copy; world = after })
  one_over copy = by o
    where
      by : (o : Option (AfterCopy Num)) → answered (Ok (Some copy)) after ≡ taken_on world (Ok o) → o ≡ Some (record { copy = copy; world = after })
      by None e = let f = ap (λ (a : Answered Num (Option (TakenCopy Num))). a.answer) e in absurd cc
      by (Some next) e =
          let f = ap (λ (a : Answered Num (Option (TakenCopy Num))). a.answer) e in
          let g = ap (λ (a : Answered Num (Option (TakenCopy Num))). a.world) e in
          let same : next.copy ≡ copy = cc in
          rw (g, sym same) refl

module _ {Num : Type 0} (lent : Lent Num) where
  over_at : (world : World Num) (place : ℕ) → copy_over lent (moved world place) place ≡ copy_over lent world place
  unfolding copy_taken
  over_at world place = refl

  -- the parts of a copy over a link
  record Over (world : World Num) (place : ℕ) (next : AfterCopy Num) : Type 0 where
    link : Link
    message : Message Num
    row : Row Num
    there : slice_get (told_links lent.field) place ≡ Some link
    goes : message_on world.rows link ≡ Some message
    comes : slice_get world.rows link.to ≡ Some row
    taken : copy_taken lent world place link message row ≡ next

  over_parts : (world : World Num) (place : ℕ) (next : AfterCopy Num) → copy_over lent world place ≡ Some next → Over world place next
  over_parts world place next e =
      some_from (slice_get (told_links lent.field) place) _ next e λ link there e.
      some_from (message_on world.rows link) _ next e λ message goes e.
      some_from (slice_get world.rows link.to) _ next e λ row comes e.
      record { link = link; message = message; row = row; there = there; goes = goes; comes = comes; taken = same_Some _ next e }

  rows_stay :
      (world : World Num) (place : ℕ) (link : Link) (message : Message Num) (row : Row Num) → lent.field.settings.n ≤ length world.rows
      → lent.field.settings.n ≤ length (copy_taken lent world place link message row).world.rows
  unfolding copy_taken
  rows_stay world place link message row there = rw (length-set world.rows link.to) there

  module _ (start : World Num) (log : List (TakenCopy Num)) (used : ℕ) where
    abbrev all : List (TakenCopy Num)
    all = copies_in (all_copies lent start).events

    -- the links before a place have been gone over, and the copies over them are logged
    pub record Carries (place : ℕ) (world : World Num) (logs : List (TakenCopy Num)) (rows : ℕ) : Type 0 where
      pub copies : List (TakenCopy Num)
      pub so : TakenSo lent start place world copies
      pub holds : logs ≡ logged log used copies
      pub count : rows ≡ used + length copies
      pub there : lent.field.settings.n ≤ length world.rows

    -- whatever the run's position says
    pub carries_at : (place q : ℕ) (world : World Num) (logs : List (TakenCopy Num)) (rows : ℕ) → Carries place world logs rows → Carries place (moved world q) logs rows
    carries_at place q world logs rows c = record { copies = c.copies; so = record { logs = c.so.logs; closes = c.so.closes }; holds = c.holds; count = c.count; there = c.there }

    pub carries_first : start.position ≡ Some 0 → lent.field.settings.n ≤ length start.rows → Carries 0 start log used
    carries_first here there = record { copies = []; so = none_so lent start here; holds = sym (logged_none log used); count = sym (add-zero used); there = there }

    module _ (place : ℕ) (world : World Num) (logs : List (TakenCopy Num)) (rows : ℕ) (carries : Carries place world logs rows) where
      pub carries_past : LinksKeep lent.field → place < length (told_links lent.field) → copy_over lent (moved world place) place ≡ None → Carries (place + 1) world logs rows
      carries_past links within none = record { copies = carries.copies; so = link_passed lent start place world carries.copies carries.so within (by (copy_here world.rows (told_links lent.field) place) refl); holds = carries.holds; count = carries.count; there = carries.there }
        where
          by : (b : Bool) → copy_here world.rows (told_links lent.field) place ≡ b → copy_here world.rows (told_links lent.field) place ≡ false
          by true e = let is = taken_there lent links world carries.there place e in let no : is_some (copy_over lent world place) ≡ false = rw (sym (over_at world place) ∙ none) refl in absurd cc
          by false e = e

      pub carries_one :
          used + length all ≤ length log → (next : AfterCopy Num) → copy_over lent (moved world place) place ≡ Some next
          → (more : List (TakenCopy Num)) → more ≡ set logs rows next.copy → Carries (place + 1) next.world more (rows + 1)
      carries_one room next over more wrote =
          let o = over_parts world place next (sym (over_at world place) ∙ over) in
          let one = copy_so lent start place world carries.copies carries.so o.link o.message o.row o.there o.goes o.comes in
          let so = subst (λ (n : AfterCopy Num). TakenSo lent start (place + 1) n.world (carries.copies ++ n.copy ∷ [])) o.taken one in
          let fits = ap length so.logs ∙ length-append (carries.copies ++ next.copy ∷ []) _ in
          let long = length-append carries.copies (next.copy ∷ []) in
          record {
            copies = carries.copies ++ next.copy ∷ [];
            so = so;
            holds = wrote ∙ rw (carries.holds, carries.count) (logged_one log used carries.copies next.copy (omega (arith, fits, long)));
            count = omega (arith, carries.count, long);
            there = subst (λ (n : AfterCopy Num). lent.field.settings.n ≤ length n.world.rows) o.taken (rows_stay world place o.link o.message o.row carries.there);
          }

    -- behind the last link
    pub carries_all :
        (place : ℕ) (world : World Num) (logs : List (TakenCopy Num)) (rows : ℕ) → Carries place world logs rows → length (told_links lent.field) ≤ place
        → CarriedAll lent used start world log logs rows
    carries_all place world logs rows carries past =
        let is = all_so lent start place world carries.copies carries.so past in
        record {
          closes = is.1;
          logs_copies = carries.holds ∙ ap (logged log used) (sym is.0);
          counts = carries.count ∙ ap (λ (copies : List (TakenCopy Num)). used + length copies) (sym is.0);
        }
