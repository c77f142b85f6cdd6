-- That each step of a key is a portion of it. Assumes nothing.
use Rattle.std.proofs.Common.{◌≡◌, ℕ, zero, suc, ◌+◌, ◌<◌, ◌≤◌, min, inl, inr, Bool, true, false, cond, List, [], ◌∷◌, ◌++◌, get_or, length, take, drop, Some, None, Ok, Err, Result, sym, refl, ap, ◌∙◌, subst, arith, leb, leb-true, leb-false}
use Rattle.std.proofs.lemmas.List.{drop_all, length-take}
use Rattle.std.proofs.lemmas.List.Sums.{sum_by-cons}
use Rattle.std.proofs.Math.Nat.{sub-zero}
use Rattle.std.proofs.Math.Seq.{take-append_seam}
use Rattle.std.proofs.lemmas.Option.{slice_get-get_or}
use Rattle.std.specs.List.{slice_get}
use Rattle.std.specs.Option.{option_map}
use Rattle.std.specs.Prelude.{◌-◌, sum_by}
use Rattle.field.specs.declared.Act.{Act}
use Rattle.field.specs.declared.Act.TheVariants.{Play as Plays, Damage as Damages}
use Rattle.field.specs.declared.Damage.{Damage}
use Rattle.history.specs.Calls.{AfterCopy, copy_taken, damaging, world_closed, world_damaged, world_opened}
use Rattle.history.specs.PlayLaws.{EndsAs, PlayEnds}
use Rattle.history.specs.Plays.{Event, Played, Went, copies_in, copies_taken, instant_gone, playing, tried}
use Rattle.history.specs.Plays.Tried.{Ends}
use Rattle.history.specs.Worlds.{Lent, World, told_links}
use Rattle.history.specs.declared.taking.Ending.{Ending}
use Rattle.history.specs.declared.taking.Ending.TheVariants.{BudgetSpent, LogShort, Refused}
use Rattle.history.specs.declared.taking.TakenCopy.{TakenCopy}
use Rattle.history.proofs.Kept.{carried_from, copied, granted_ok, ok_is, onward_from, played, tried_done}
use Rattle.history.proofs.PlayLaws.{play_laws}
use Rattle.refusal.specs.declared.RunFault.{RunFault}
use Rattle.answer_key.specs.Keys.{acts_end, key_of, next_index, refusal_at}
use Rattle.answer_key.specs.Lines.{copy_lines, refusal_line}
use Rattle.answer_key.specs.Portions.{Printed, Short, Standing, Whole, acts_left, behind, end_of, ended_at, fault_ahead, standing, steps, steps_left, text_left, waiting}
use Rattle.answer_key.specs.Steps.{Damaged, NotPlayed, PlayedOn, act_on, instants_on, played_on, refused_by}
use Rattle.answer_key.specs.declared.states.Ahead.TheVariants.{Acts}
use Rattle.answer_key.specs.declared.states.Bookmark.{Bookmark}
use Rattle.answer_key.proofs.Acting.{KeyAfter, damage_declined, damage_done, no_acts, no_lines, play_over, play_part, play_refused}

module _ {Num : Type 0} where
  -- an act as the code finds it
  pub act_there : (acts : List (Act Num)) (at : ℕ) (found act : Act Num) → at < length acts → found ≡ get_or acts at found → found ≡ act → slice_get acts at ≡ Some act
  act_there acts at found act h is same = slice_get-get_or acts at found h ∙ ap Some (sym is ∙ same)

  -- the act at a place is the first of those from there on
  act_next : (acts : List (Act Num)) (at : ℕ) (act : Act Num) → slice_get acts at ≡ Some act → drop at acts ≡ act ∷ drop (suc at) acts
  act_next [] at act e = absurd cc
  act_next (x ∷ acts) zero act e = let same : x ≡ act = cc in ap (λ (a : Act Num). a ∷ acts) same
  act_next (x ∷ acts) (suc at) act e = act_next acts at act e

  none_behind : (acts : List (Act Num)) → behind 0 acts ≡ acts
  none_behind [] = refl
  none_behind (Plays budget ∷ acts) = ap (λ (k : ℕ). Plays k ∷ acts) (sub-zero budget)
  none_behind (Damages damage ∷ acts) = refl

  none_there : (acts : List (Act Num)) (at : ℕ) → slice_get acts at ≡ None → length acts ≤ at
  none_there [] at e = omega arith
  none_there (x ∷ acts) zero e = absurd cc
  none_there (x ∷ acts) (suc at) e = let h = none_there acts at e in omega arith

module _ {Num : Type 0} (lent : Lent Num) where
  same_instant : (most : ℕ) (world : World Num) (position : ℕ) → world.position ≡ Some position → (copies_taken lent most world).world.instant ≡ world.instant
  unfolding copy_taken
  same_instant =
      copied lent (λ most world went. (position : ℕ) → world.position ≡ Some position → went.world.instant ≡ world.instant) (λ world position here. refl) (λ most world e position here. refl)
      (λ most world next rest e before position here.
      let f = carried_from lent world position next here e in
      before (suc f.place) (onward_from lent world position next f) ∙ ap (λ (n : AfterCopy Num). n.world.instant) (sym f.taken))

  next_instant : (world : World Num) → (instant_gone lent world).world.instant ≡ suc world.instant
  unfolding instant_gone world_closed world_opened
  next_instant world = same_instant (length (told_links lent.field)) (world_opened lent world) 0 refl

  -- a play takes the run so many instants on
  instants_pass : (budget room : ℕ) (world : World Num) → let p = playing lent budget room world in p.world.instant ≡ world.instant + p.instants
  instants_pass =
      played lent (λ budget room world p. p.world.instant ≡ world.instant + p.instants) (λ room world. omega arith) (λ budget room world ending e. omega arith)
      (λ budget room world gone rest e before.
      let one : gone.world.instant ≡ suc world.instant = subst (λ (g : Went Num). g.world.instant ≡ suc world.instant) (tried_done lent room world gone e).1 (next_instant world) in
      omega (arith, before, one))

  -- and where that is none, nothing came of it
  none_passed : (budget room : ℕ) (world : World Num) → let p = playing lent budget room world in p.instants ≡ 0 → (p.events ≡ []) × (p.world ≡ world)
  none_passed =
      played lent (λ budget room world p. p.instants ≡ 0 → (p.events ≡ []) × (p.world ≡ world)) (λ room world e. (refl, refl)) (λ budget room world ending e none. (refl, refl))
      (λ budget room world gone rest e before none. absurd (omega arith))

  short_at_once : (budget room : ℕ) (world : World Num) → let p = playing lent budget room world in p.instants ≡ 0 → p.ending ≡ LogShort → tried lent room world ≡ Ends LogShort
  short_at_once =
      played lent (λ budget room world p. p.instants ≡ 0 → p.ending ≡ LogShort → tried lent room world ≡ Ends LogShort) (λ room world none short. absurd cc)
      (λ budget room world ending e none short. e ∙ ap Ends short)
      (λ budget room world gone rest e before none short. absurd (omega arith))

-- A key whose acts are next, by the copies that wait and the acts that are left: what is left of it.
module _
    {Num : Type 0} (lent : Lent Num) (worth : Num → ℕ) (acts : List (Act Num)) (mark : Bookmark) (world : World Num) (log : List (TakenCopy Num)) (page : List ℕ)
    (going : mark.ahead ≡ Acts) (copies : List (TakenCopy Num)) (waits : waiting mark log ≡ copies) (left : List (Act Num)) (lefts : acts_left mark acts ≡ left) where
  text_is : text_left worth acts (standing lent mark world log page) ≡ copy_lines worth copies ++ key_of lent worth mark.index left world
  text_is = rw (going, waits, lefts) refl

  end_is : end_of worth acts (standing lent mark world log page) ≡ (acts_end lent mark.index left world)
  end_is = rw going (ap (λ (l : List (Act Num)). (acts_end lent mark.index l world)) lefts)

  steps_are : steps_left worth acts (standing lent mark world log page) ≡ suc (sum_by steps left)
  steps_are = rw (going, lefts) refl

-- And of which no line waits.
module _
    {Num : Type 0} (lent : Lent Num) (worth : Num → ℕ) (acts : List (Act Num)) (mark : Bookmark) (world : World Num) (log : List (TakenCopy Num)) (page : List ℕ)
    (going : mark.ahead ≡ Acts) (none : waiting mark log ≡ []) (here : world.position ≡ None) where
  abbrev at : Standing Num
  at = standing lent mark world log page

  abbrev rest : List (Act Num)
  rest = drop (suc mark.act) acts

  -- by the acts that are left
  module _ (left : List (Act Num)) (lefts : acts_left mark acts ≡ left) where
    text_at : text_left worth acts at ≡ key_of lent worth mark.index left world
    text_at = text_is lent worth acts mark world log page going [] none left lefts ∙ ap (λ (text : List ℕ). text ++ key_of lent worth mark.index left world) (no_lines worth)

    end_at : end_of worth acts at ≡ (acts_end lent mark.index left world)
    end_at = end_is lent worth acts mark world log page going [] none left lefts

    steps_at : steps_left worth acts at ≡ suc (sum_by steps left)
    steps_at = steps_are lent worth acts mark world log page going [] none left lefts

  -- no act is left
  pub no_act : slice_get acts mark.act ≡ None → Whole worth acts at at
  no_act past =
      let over : acts_left mark acts ≡ [] = ap (behind mark.played) (drop_all mark.act acts (none_there acts mark.act past)) in
      let last = no_acts lent worth mark.index world in
      let unrefused : ended_at world None ≡ ended_at world (option_map (λ fault. refusal_at fault mark.index) (fault_ahead mark.ahead)) = rw going refl in
      record { same = refl; text = text_at [] over ∙ last.0; at_end = end_at [] over ∙ last.1 ∙ unrefused }

  -- a step that prints nothing
  goes :
      (next : Bookmark) (after : World Num) (logs : List (TakenCopy Num)) → let to = standing lent next after logs page in
      text_left worth acts to ≡ text_left worth acts at → end_of worth acts to ≡ end_of worth acts at → steps_left worth acts to < steps_left worth acts at → after.instant ≤ world.instant + 65536
      → (given : Lent Num) (new : Bookmark) → given ≡ lent → new ≡ next → Printed worth acts at (standing given new after logs page) 0
  goes next after logs text ends less few given new same is =
      subst (λ (l : Lent Num). Printed worth acts at (standing l new after logs page) 0) (sym same)
      (subst (λ (m : Bookmark). Printed worth acts at (standing lent m after logs page) 0) (sym is) (record {
        same_lent = refl;
        size_fits = omega arith;
        text = text;
        page_stays = refl;
        same_end = ends;
        goes_on = inr less;
        few_instants = few;
      }))

  -- a damage
  module _ (damage : Damage Num) (there : slice_get acts mark.act ≡ Some (Damages damage)) where
    damage_left : acts_left mark acts ≡ Damages damage ∷ rest
    damage_left = ap (behind mark.played) (act_next acts mark.act (Damages damage) there)

    damage_steps : steps_left worth acts at ≡ suc (suc (sum_by steps rest))
    damage_steps = steps_at (Damages damage ∷ rest) damage_left ∙ omega (arith, sum_by-cons steps (Damages damage) rest)

    pub damage_portion :
        (given : Lent Num) (new : Bookmark) (after : World Num) → given ≡ lent
        → Damaged mark new world after (damaging lent.field damage world) → Printed worth acts at (standing given new after log page) 0
    unfolding world_damaged
    damage_portion given new after same done = by (damaging lent.field damage world) refl done
      where
        all : List (Act Num)
        all = Damages damage ∷ rest

        by : (o : Result (World Num) RunFault) → damaging lent.field damage world ≡ o → Damaged mark new world after o → Printed worth acts at (standing given new after log page) 0
        by (Ok next) e done =
            let on = damage_done lent worth mark.index rest world here damage next e in
            let open_acts = none_behind rest in
            let is = ok_is _ next (granted_ok _ _ next e) in
            goes (act_on mark) after log
            (text_is lent worth acts (act_on mark) after log page going [] none rest open_acts ∙ ap (λ (w : World Num). copy_lines worth [] ++ key_of lent worth (next_index mark.index) rest w) done.stands ∙ sym (text_at all damage_left ∙ on.text_is))
            (end_is lent worth acts (act_on mark) after log page going [] none rest open_acts ∙ ap (λ (w : World Num). (acts_end lent (next_index mark.index) rest w)) done.stands ∙ sym (end_at all damage_left ∙ on.ends_at))
            (let now = steps_are lent worth acts (act_on mark) after log page going [] none rest open_acts in omega (arith, now, damage_steps))
            (let same_instant : after.instant ≡ world.instant = ap (λ (w : World Num). w.instant) (done.stands ∙ sym is) in omega arith)
            given new same done.mark_is
        by (Err fault) e done =
            let off = damage_declined lent worth mark.index rest world here damage fault e in
            goes (refused_by fault mark) after log
            (rw none refl ∙ sym (text_at all damage_left ∙ off.text_is))
            (ap (λ (w : World Num). ended_at w (Some (refusal_at fault mark.index))) done.stands ∙ sym (end_at all damage_left ∙ off.ends_at))
            (omega (arith, damage_steps))
            (let same_instant : after.instant ≡ world.instant = ap (λ (w : World Num). w.instant) done.stands in omega arith)
            given new same done.mark_is

  -- a play, or as much of it as a portion plays
  module _ (budget : ℕ) (there : slice_get acts mark.act ≡ Some (Plays budget)) where
    abbrev p : Played Num
    p = playing lent (min (budget - mark.played) 65536) (length log) world

    abbrev copies : List (TakenCopy Num)
    copies = copies_in p.events

    abbrev left : ℕ
    left = budget - mark.played

    -- the rows of the log are those of the copies
    abbrev logged : Bookmark
    logged = record mark { first = 0; lines = length copies }

    play_left : acts_left mark acts ≡ Plays left ∷ rest
    play_left = ap (behind mark.played) (act_next acts mark.act (Plays budget) there)

    play_steps : steps_left worth acts at ≡ suc (suc left + sum_by steps rest)
    play_steps = steps_at (Plays left ∷ rest) play_left ∙ ap suc (sum_by-cons steps (Plays left) rest)

    within : p.instants ≤ min left 65536
    within = (play_laws lent).within_budget (min left 65536) (length log) world

    ended : PlayEnds lent (min left 65536) (length log) world p
    ended = (play_laws lent).ends (min left 65536) (length log) world

    -- an instant has at most one copy over each link
    short_log : lent.field.count ≤ 1024 → p.instants ≡ 0 → p.ending ≡ LogShort → length log < 1024
    unfolding copies_in
    short_log few none short =
        let why = subst (EndsAs lent (min left 65536 - p.instants) (length log - length copies) p.world) short ended.ends in
        let nothing : length copies ≡ 0 = ap (λ (events : List (Event Num)). length (copies_in events)) (none_passed lent (min left 65536) (length log) world none).0 in
        let links = (play_laws lent).few_copies p.world in
        let told = length-take lent.field.count lent.field.links in
        omega (arith, why.2, nothing, links, told)

    pub play_short :
        (given : Lent Num) (new : Bookmark) (after : World Num) (logs : List (TakenCopy Num)) (fault : RunFault) → given ≡ lent → lent.field.count ≤ 1024
        → NotPlayed p mark new world after log logs fault → Short worth acts at (standing given new after logs page) fault
    unfolding copies_in
    play_short given new after logs fault same few done =
        let nothing = none_passed lent (min left 65536) (length log) world done.none in
        let short = short_at_once lent (min left 65536) (length log) world done.none done.short in
        record {
          same = rw (same, done.mark_is, done.stands, nothing.1, done.logs_copies, nothing.0) refl;
          fault_is = done.fault_is;
          short = rw (none, going) short;
          small = inl (short_log few done.none done.short);
        }

    module _ (after : World Num) (logs : List (TakenCopy Num)) (between : after.position ≡ None) (stands : after ≡ p.world) (logs_copies : logs ≡ copies ++ drop (length copies) log) where
      still : p.world.position ≡ None
      still = ap (λ (w : World Num). w.position) (sym stands) ∙ between

      waits : waiting logged logs ≡ copies
      waits = ap (λ (l : List (TakenCopy Num)). take (length copies) l) logs_copies ∙ take-append_seam copies (drop (length copies) log)

      few_instants : after.instant ≤ world.instant + 65536
      few_instants = let passed = ap (λ (w : World Num). w.instant) stands ∙ instants_pass lent (min left 65536) (length log) world in omega (arith, passed, within)

      on : KeyAfter lent worth copies mark.index (Plays (left - p.instants) ∷ rest) p.world (key_of lent worth mark.index (Plays left ∷ rest) world) (acts_end lent mark.index (Plays left ∷ rest) world)
      on = play_part lent worth (min left 65536) (length log) left mark.index rest world here still (omega arith)

      -- play goes on, or is over
      onward :
          (leb budget (mark.played + p.instants) ≡ false → 0 < p.instants) → (given : Lent Num) (new : Bookmark) → given ≡ lent → new ≡ instants_on p.instants budget logged
          → Printed worth acts at (standing given new after logs page) 0
      onward some given new same is = by (leb budget (mark.played + p.instants)) refl
        where
          by : (b : Bool) → leb budget (mark.played + p.instants) ≡ b → Printed worth acts at (standing given new after logs page) 0
          by true e =
              let over = play_over lent worth mark.index rest p.world still in
              let all_played : left - p.instants ≡ 0 = omega (arith, leb-true budget (mark.played + p.instants) e) in
              let open_acts = none_behind rest in
              let then_text : key_of lent worth mark.index (Plays (left - p.instants) ∷ rest) p.world ≡ key_of lent worth (next_index mark.index) rest p.world =
              ap (λ (k : ℕ). key_of lent worth mark.index (Plays k ∷ rest) p.world) all_played ∙ over.text_is ∙ ap (λ (text : List ℕ). text ++ key_of lent worth (next_index mark.index) rest p.world) (no_lines worth) in
              let then_end : (acts_end lent mark.index (Plays (left - p.instants) ∷ rest) p.world) ≡ (acts_end lent (next_index mark.index) rest p.world) =
              ap (λ (k : ℕ). (acts_end lent mark.index (Plays k ∷ rest) p.world)) all_played ∙ over.ends_at in
              goes (act_on logged) after logs
              (text_is lent worth acts (act_on logged) after logs page going copies waits rest open_acts
              ∙ ap (λ (w : World Num). copy_lines worth copies ++ key_of lent worth (next_index mark.index) rest w) stands
              ∙ sym (text_at (Plays left ∷ rest) play_left ∙ on.text_is ∙ ap (λ (text : List ℕ). copy_lines worth copies ++ text) then_text))
              (end_is lent worth acts (act_on logged) after logs page going copies waits rest open_acts
              ∙ ap (λ (w : World Num). (acts_end lent (next_index mark.index) rest w)) stands
              ∙ sym (end_at (Plays left ∷ rest) play_left ∙ on.ends_at ∙ then_end))
              (let now = steps_are lent worth acts (act_on logged) after logs page going copies waits rest open_acts in omega (arith, now, play_steps))
              few_instants given new same (is ∙ ap (λ (b : Bool). cond b (act_on logged) (record logged { played = mark.played + p.instants })) e)
          by false e =
              let next = record logged { played = mark.played + p.instants } in
              let less : budget - (mark.played + p.instants) ≡ left - p.instants = omega arith in
              let lefts : acts_left next acts ≡ Plays (left - p.instants) ∷ rest =
              ap (behind (mark.played + p.instants)) (act_next acts mark.act (Plays budget) there) ∙ ap (λ (k : ℕ). Plays k ∷ rest) less in
              goes next after logs
              (text_is lent worth acts next after logs page going copies waits (Plays (left - p.instants) ∷ rest) lefts
              ∙ ap (λ (w : World Num). copy_lines worth copies ++ key_of lent worth mark.index (Plays (left - p.instants) ∷ rest) w) stands
              ∙ sym (text_at (Plays left ∷ rest) play_left ∙ on.text_is))
              (end_is lent worth acts next after logs page going copies waits (Plays (left - p.instants) ∷ rest) lefts
              ∙ ap (λ (w : World Num). (acts_end lent mark.index (Plays (left - p.instants) ∷ rest) w)) stands
              ∙ sym (end_at (Plays left ∷ rest) play_left ∙ on.ends_at))
              (let now = steps_are lent worth acts next after logs page going copies waits (Plays (left - p.instants) ∷ rest) lefts in
              let one = sum_by-cons steps (Plays (left - p.instants)) rest in
              let far = leb-false budget (mark.played + p.instants) e in
              omega (arith, now, one, play_steps, some e, far))
              few_instants given new same (is ∙ ap (λ (b : Bool). cond b (act_on logged) (record logged { played = mark.played + p.instants })) e)

      refused : (fault : RunFault) → p.ending ≡ Refused fault → (given : Lent Num) (new : Bookmark) → given ≡ lent → new ≡ refused_by fault logged → Printed worth acts at (standing given new after logs page) 0
      refused fault e given new same is =
          let why = subst (EndsAs lent (min left 65536 - p.instants) (length log - length copies) p.world) e ended.ends in
          let off = play_refused lent worth mark.index rest p.world still (left - p.instants) fault (omega (arith, why.0)) why.1 in
          goes (refused_by fault logged) after logs
          (rw waits (ap (λ (text : List ℕ). copy_lines worth copies ++ text) (ap (λ (text : List ℕ). text ++ refusal_line (refusal_at fault mark.index)) (sym (no_lines worth)) ∙ sym off.text_is)) ∙ sym (text_at (Plays left ∷ rest) play_left ∙ on.text_is))
          (ap (λ (w : World Num). ended_at w (Some (refusal_at fault mark.index))) stands ∙ sym off.ends_at ∙ sym (end_at (Plays left ∷ rest) play_left ∙ on.ends_at))
          (omega (arith, play_steps))
          few_instants given new same is

    pub play_portion :
        (given : Lent Num) (new : Bookmark) (after : World Num) (logs : List (TakenCopy Num)) → given ≡ lent → after.position ≡ None
        → PlayedOn p budget mark new after log logs → Printed worth acts at (standing given new after logs page) 0
    play_portion given new after logs same between done = by p.ending refl
      where
        by : (why : Ending) → p.ending ≡ why → Printed worth acts at (standing given new after logs page) 0
        by BudgetSpent e =
            let all = subst (EndsAs lent (min left 65536 - p.instants) (length log - length copies) p.world) e ended.ends in
            onward after logs between done.stands done.logs_copies (λ f. let far = leb-false budget (mark.played + p.instants) f in omega (arith, all, within, far))
            given new same (done.mark_is ∙ ap (λ (w : Ending). played_on w budget p mark) e)
        by LogShort e =
            onward after logs between done.stands done.logs_copies (λ f. done.some e)
            given new same (done.mark_is ∙ ap (λ (w : Ending). played_on w budget p mark) e)
        by (Refused fault) e = refused after logs between done.stands done.logs_copies fault e given new same (done.mark_is ∙ ap (λ (w : Ending). played_on w budget p mark) e)
