-- What acts come to, one after another, and a play part by part. Assumes nothing.
use Rattle.std.proofs.Common.{◌≡◌, ℕ, zero, suc, ◌+◌, ◌*◌, ◌<◌, ◌≤◌, List, [], ◌∷◌, ◌++◌, length, Some, None, Ok, Err, Option, Result, sym, refl, ap, ◌∙◌, subst, arith, append_assoc, ltb-false, mul-le-mul_right}
use Rattle.std.proofs.lemmas.List.{append-nil}
use Rattle.std.specs.Prelude.{◌-◌}
use Rattle.field.specs.declared.Act.{Act}
use Rattle.field.specs.declared.Act.TheVariants.{Play as Plays, Damage as Damages}
use Rattle.field.specs.declared.Damage.{Damage}
use Rattle.history.specs.Calls.{damaging, opening}
use Rattle.history.specs.Histories.{Call, Outcome, called, called_between, history, moves_on, plays_on}
use Rattle.history.specs.PlayLaws.{EndsAs, together, past}
use Rattle.history.specs.Plays.{Event, Played, Tried, Went, copies_in, playing, tried}
use Rattle.history.specs.Plays.Event.{Damages as Damaged}
use Rattle.history.specs.Plays.Tried.{Ends, Done}
use Rattle.history.specs.Worlds.{Lent, World, told_links}
use Rattle.history.specs.declared.taking.Ending.{Ending}
use Rattle.history.specs.declared.taking.Ending.TheVariants.{BudgetSpent, Refused}
use Rattle.history.specs.declared.taking.TakenCopy.{TakenCopy}
use Rattle.history.proofs.Kept.{called_either, no_instant, played, playing_done, playing_ends, tried_done, went_on}
use Rattle.history.proofs.PlayLaws.{joined, play_laws}
use Rattle.history.proofs.Playing.{tried_refused, tried_whole}
use Rattle.refusal.specs.declared.RunFault.{RunFault}
use Rattle.answer_key.specs.Lines.{copy_line, copy_lines, last_line, refusal_line}
use Rattle.answer_key.specs.Keys.{KeyEnd, acted, acts_end, call_of, declined, fault_in, key_of, next_index, refusal_at}

module _ {Num : Type 0} (worth : Num → ℕ) where
  -- lines behind one another
  pub lines_joined : (xs ys : List (TakenCopy Num)) → copy_lines worth (xs ++ ys) ≡ copy_lines worth xs ++ copy_lines worth ys
  unfolding copy_lines
  lines_joined [] ys = refl
  lines_joined (x ∷ xs) ys = ap (λ (text : List ℕ). copy_line worth x ++ text) (lines_joined xs ys) ∙ sym (append_assoc (copy_line worth x) (copy_lines worth xs) (copy_lines worth ys))

  pub no_lines : copy_lines worth [] ≡ []
  unfolding copy_lines
  no_lines = refl

module _ {Num : Type 0} (lent : Lent Num) where
  abbrev links : ℕ
  links = length (told_links lent.field)

  -- a play with room for every copy that there may be
  abbrev pub whole : ℕ → World Num → Played Num
  whole budget world = playing lent budget (budget * links) world

  -- an instant that is done, is done with more room
  done_so : (room more : ℕ) (world : World Num) (gone : Went Num) → tried lent room world ≡ Done gone → room ≤ more → tried lent more world ≡ Done gone
  done_so room more world gone e h =
      let was = tried_done lent room world gone e in
      let fits = ltb-false room _ was.0.fits in
      tried_whole lent more world was.0.next was.0.opens (omega arith) ∙ ap Done was.1

  none_played : (room : ℕ) (world : World Num) → playing lent 0 room world ≡ no_instant world BudgetSpent
  unfolding playing
  none_played room world = refl

  never : {A : Type 0} (budget : ℕ) → suc budget - 0 ≡ 0 → A
  never budget e = absurd (omega arith)

  -- what an instant comes to, where there is room for a copy over each link
  same_tried : (room more : ℕ) (world : World Num) → links ≤ room → links ≤ more → tried lent room world ≡ tried lent more world
  same_tried room more world h g = by (opening lent world) refl
    where
      by : (o : Result (World Num) RunFault) → opening lent world ≡ o → tried lent room world ≡ tried lent more world
      by (Err fault) o = tried_refused lent room world fault o ∙ sym (tried_refused lent more world fault o)
      by (Ok next) o =
          let few = (play_laws lent).few_copies world in
          tried_whole lent room world next o (omega arith) ∙ sym (tried_whole lent more world next o (omega arith))

  -- A log with more room changes nothing for a play that spends its budget.
  spent_so :
      (budget room : ℕ) (world : World Num) → (playing lent budget room world).ending ≡ BudgetSpent → (more : ℕ) → room ≤ more
      → playing lent budget more world ≡ playing lent budget room world
  spent_so =
      played lent (λ budget room world p. p.ending ≡ BudgetSpent → (more : ℕ) → room ≤ more → playing lent budget more world ≡ p)
      (λ room world spent more h. none_played more world)
      (λ budget room world ending e spent more h.
      let ends = subst (λ (p : Played Num). EndsAs lent (suc budget - p.instants) (room - length (copies_in p.events)) p.world p.ending) (playing_ends lent budget room world ending e) ((play_laws lent).ends (suc budget) room world).ends in
      never budget (subst (λ (why : Ending). EndsAs lent (suc budget - 0) (room - length (copies_in {Num = Num} [])) world why) spent ends))
      (λ budget room world gone rest e before spent more h.
      playing_done lent budget more world gone (done_so room more world gone e h)
      ∙ ap (went_on gone) (before spent (more - length (copies_in gone.events)) (omega arith)))

  -- Nor does it where there is room for every copy.
  enough_room : (budget room : ℕ) (world : World Num) → budget * links ≤ room → playing lent budget room world ≡ whole budget world
  enough_room zero room world h = none_played room world ∙ sym (none_played (0 * links) world)
  enough_room (suc budget) room world h = by (tried lent (suc budget * links) world) refl (enough_room budget)
    where
      one_more : suc budget * links ≡ links + budget * links
      one_more = omega arith

      same : tried lent room world ≡ tried lent (suc budget * links) world
      same = same_tried room (suc budget * links) world (omega (arith, one_more)) (omega (arith, one_more))

      by :
          (t : Tried Num) → tried lent (suc budget * links) world ≡ t
          → ((room : ℕ) (world : World Num) → budget * links ≤ room → playing lent budget room world ≡ whole budget world)
          → playing lent (suc budget) room world ≡ whole (suc budget) world
      by (Ends ending) e rest = playing_ends lent budget room world ending (same ∙ e) ∙ sym (playing_ends lent budget (suc budget * links) world ending e)
      by (Done gone) e rest =
          let few = subst (λ (g : Went Num). length (copies_in g.events) ≤ links) (tried_done lent (suc budget * links) world gone e).1 ((play_laws lent).few_copies world) in
          let one = rest (room - length (copies_in gone.events)) gone.world (omega (arith, one_more, few)) in
          let other = rest (suc budget * links - length (copies_in gone.events)) gone.world (omega (arith, one_more, few)) in
          playing_done lent budget room world gone (same ∙ e) ∙ ap (went_on gone) (one ∙ sym other)
          ∙ sym (playing_done lent budget (suc budget * links) world gone e)

  -- A play is the part of it that a log has room for, and the rest.
  pub part_played :
      (part room budget : ℕ) (world : World Num) → part ≤ budget → let p = playing lent part room world in
      whole budget world ≡ together p (whole (budget - p.instants) p.world)
  part_played part room budget world h =
      let p = playing lent part room world in
      let left = budget - p.instants in
      let most = room + budget * links in
      let stands = ((play_laws lent).ends part room world).stands in
      let few : length (copies_in p.events) ≤ room = (play_laws lent).within_room part room world in
      let within : p.instants ≤ part = (play_laws lent).within_budget part room world in
      let less : left * links ≤ budget * links = mul-le-mul_right links (omega arith) in
      let first = spent_so p.instants room world (ap (λ (q : Played Num). q.ending) stands) most (omega arith) ∙ stands in
      sym (enough_room budget most world (omega arith))
      ∙ ap (λ (k : ℕ). playing lent k most world) (let parts : budget ≡ p.instants + left = omega arith in parts)
      ∙ (play_laws lent).goes_on p.instants left most world
      ∙ goes most left (playing lent p.instants most world) p first
      ∙ ap (together p) (enough_room left (most - length (copies_in p.events)) p.world (omega (arith, less)))
    where
      goes :
          (most left : ℕ) (q p : Played Num) → q ≡ record p { ending = BudgetSpent }
          → past q.ending q (playing lent left (most - length (copies_in q.events)) q.world) ≡ together p (playing lent left (most - length (copies_in p.events)) p.world)
      goes most left q p e = rw e refl

  -- one whose next instant is refused
  pub refused_next : (budget : ℕ) (world : World Num) (fault : RunFault) → 0 < budget → opening lent world ≡ Err fault → whole budget world ≡ no_instant world (Refused fault)
  refused_next zero world fault h e = absurd (omega arith)
  refused_next (suc budget) world fault h e = playing_ends lent budget (suc budget * links) world (Refused fault) (tried_refused lent (suc budget * links) world fault e)

  -- a call where a run stands between instants
  pub between_call : (call : Call Num) (world : World Num) → world.position ≡ None → called lent world call ≡ called_between lent world call
  between_call call world here =
      called_either lent (λ o. o ≡ called_between lent world call) world call (λ h. refl) (λ position there. let both : None ≡ Some position = sym here ∙ there in absurd cc)

-- What a key has behind an act, and where its run ends.
module _ {Num : Type 0} (lent : Lent Num) (worth : Num → ℕ) where
  -- some lines, and then a key from where a run stands
  pub record KeyAfter (copies : List (TakenCopy Num)) (index : ℕ) (acts : List (Act Num)) (world : World Num) (text : List ℕ) (ends : KeyEnd Num) : Type 0 where
    pub text_is : text ≡ copy_lines worth copies ++ key_of lent worth index acts world
    pub ends_at : ends ≡ (acts_end lent index acts world)

  -- some lines, and then that of a refusal
  pub record KeyEnds (copies : List (TakenCopy Num)) (fault : RunFault) (index : ℕ) (world : World Num) (text : List ℕ) (ends : KeyEnd Num) : Type 0 where
    pub text_is : text ≡ copy_lines worth copies ++ refusal_line (refusal_at fault index)
    pub ends_at : ends ≡ record { world = world; refusal = Some (refusal_at fault index) }

  module _ (index : ℕ) (act : Act Num) (acts : List (Act Num)) (world : World Num) where
    abbrev done : Outcome Num
    done = called lent world (call_of lent act)

    acts_on : declined done.answer ≡ None → let rest = acted lent (next_index index) acts done.world in
        acted lent index (act ∷ acts) world ≡ record { calls = call_of lent act ∷ rest.calls; refusal = rest.refusal }
    unfolding acted
    acts_on on = rw (on, acted) refl

    acts_stop : (fault : RunFault) → declined done.answer ≡ Some fault → acted lent index (act ∷ acts) world ≡ record { calls = call_of lent act ∷ []; refusal = Some (refusal_at fault index) }
    unfolding acted
    acts_stop fault off = rw (off, acted) refl

    -- an act that is done
    pub act_done : declined done.answer ≡ None → KeyAfter (copies_in done.events) (next_index index) acts done.world (key_of lent worth index (act ∷ acts) world) (acts_end lent index (act ∷ acts) world)
    unfolding history
    act_done on =
        let rest = acted lent (next_index index) acts done.world in
        let later = (history lent rest.calls done.world).events in
        rw (acts_on on) (record {
          text_is = ap (λ (text : List ℕ). text ++ last_line rest.refusal) (ap (copy_lines worth) (joined done.events later) ∙ lines_joined worth (copies_in done.events) (copies_in later))
              ∙ append_assoc (copy_lines worth (copies_in done.events)) (copy_lines worth (copies_in later)) (last_line rest.refusal);
          ends_at = refl;
        })

    -- one that declines
    pub act_declined : (fault : RunFault) → declined done.answer ≡ Some fault → KeyEnds (copies_in done.events) fault index done.world (key_of lent worth index (act ∷ acts) world) (acts_end lent index (act ∷ acts) world)
    unfolding history
    act_declined fault off = rw (acts_stop fault off) (record {
      text_is = ap (λ (events : List (Event Num)). copy_lines worth (copies_in events) ++ refusal_line (refusal_at fault index)) (append-nil done.events);
      ends_at = refl;
    })

  called_play : (budget : ℕ) (world : World Num) → world.position ≡ None → called lent world (call_of lent (Plays budget)) ≡ plays_on lent world (whole lent budget world)
  called_play budget world here = between_call lent (call_of lent (Plays budget)) world here

  called_damage :
      (damage : Damage Num) (world : World Num) → world.position ≡ None
      → called lent world (call_of lent (Damages damage)) ≡ moves_on lent world (λ next. Damaged ∷ []) (damaging lent.field damage world)
  called_damage damage world here = between_call lent (call_of lent (Damages damage)) world here

  -- what comes behind the part of a play that a log had room for
  pub play_part :
      (part room left index : ℕ) (acts : List (Act Num)) (world : World Num) → world.position ≡ None → (playing lent part room world).world.position ≡ None → part ≤ left
      → let p = playing lent part room world in
      KeyAfter (copies_in p.events) index (Plays (left - p.instants) ∷ acts) p.world (key_of lent worth index (Plays left ∷ acts) world) (acts_end lent index (Plays left ∷ acts) world)
  play_part part room left index acts world here there h = by (fault_in rest.ending) refl
    where
      p : Played Num
      p = playing lent part room world

      rest : Played Num
      rest = whole lent (left - p.instants) p.world

      first : called lent world (call_of lent (Plays left)) ≡ plays_on lent world (together p rest)
      first = called_play left world here ∙ ap (plays_on lent world) (part_played lent part room left world h)

      second : called lent p.world (call_of lent (Plays (left - p.instants))) ≡ plays_on lent p.world rest
      second = called_play (left - p.instants) p.world there

      parts : (text : List ℕ) → copy_lines worth (copies_in (p.events ++ rest.events)) ++ text ≡ copy_lines worth (copies_in p.events) ++ (copy_lines worth (copies_in rest.events) ++ text)
      parts text =
          ap (λ (lines : List ℕ). lines ++ text) (ap (copy_lines worth) (joined p.events rest.events) ∙ lines_joined worth (copies_in p.events) (copies_in rest.events))
          ∙ append_assoc (copy_lines worth (copies_in p.events)) (copy_lines worth (copies_in rest.events)) text

      by :
          (o : Option RunFault) → fault_in rest.ending ≡ o
          → KeyAfter (copies_in p.events) index (Plays (left - p.instants) ∷ acts) p.world (key_of lent worth index (Plays left ∷ acts) world) (acts_end lent index (Plays left ∷ acts) world)
      by None e =
          let one = act_done index (Plays left) acts world (ap (λ (o : Outcome Num). declined o.answer) first ∙ e) in
          let other = act_done index (Plays (left - p.instants)) acts p.world (ap (λ (o : Outcome Num). declined o.answer) second ∙ e) in
          let was = subst (λ (o : Outcome Num). KeyAfter (copies_in o.events) (next_index index) acts o.world (key_of lent worth index (Plays left ∷ acts) world) (acts_end lent index (Plays left ∷ acts) world)) first one in
          let is = subst (λ (o : Outcome Num). KeyAfter (copies_in o.events) (next_index index) acts o.world (key_of lent worth index (Plays (left - p.instants) ∷ acts) p.world) (acts_end lent index (Plays (left - p.instants) ∷ acts) p.world)) second other in
          record { text_is = was.text_is ∙ parts (key_of lent worth (next_index index) acts rest.world) ∙ ap (λ (text : List ℕ). copy_lines worth (copies_in p.events) ++ text) (sym is.text_is); ends_at = was.ends_at ∙ sym is.ends_at }
      by (Some fault) e =
          let one = act_declined index (Plays left) acts world fault (ap (λ (o : Outcome Num). declined o.answer) first ∙ e) in
          let other = act_declined index (Plays (left - p.instants)) acts p.world fault (ap (λ (o : Outcome Num). declined o.answer) second ∙ e) in
          let was = subst (λ (o : Outcome Num). KeyEnds (copies_in o.events) fault index o.world (key_of lent worth index (Plays left ∷ acts) world) (acts_end lent index (Plays left ∷ acts) world)) first one in
          let is = subst (λ (o : Outcome Num). KeyEnds (copies_in o.events) fault index o.world (key_of lent worth index (Plays (left - p.instants) ∷ acts) p.world) (acts_end lent index (Plays (left - p.instants) ∷ acts) p.world)) second other in
          record { text_is = was.text_is ∙ parts (refusal_line (refusal_at fault index)) ∙ ap (λ (text : List ℕ). copy_lines worth (copies_in p.events) ++ text) (sym is.text_is); ends_at = was.ends_at ∙ sym is.ends_at }

  module _ (index : ℕ) (acts : List (Act Num)) (world : World Num) (here : world.position ≡ None) where
    -- a play that is over
    pub play_over : KeyAfter [] (next_index index) acts world (key_of lent worth index (Plays 0 ∷ acts) world) (acts_end lent index (Plays 0 ∷ acts) world)
    unfolding playing copies_in
    play_over =
        let e = called_play 0 world here in
        subst (λ (o : Outcome Num). KeyAfter (copies_in o.events) (next_index index) acts o.world (key_of lent worth index (Plays 0 ∷ acts) world) (acts_end lent index (Plays 0 ∷ acts) world)) e
        (act_done index (Plays 0) acts world (ap (λ (o : Outcome Num). declined o.answer) e))

    -- one whose next instant is refused
    pub play_refused :
        (left : ℕ) (fault : RunFault) → 0 < left → opening lent world ≡ Err fault
        → KeyEnds [] fault index world (key_of lent worth index (Plays left ∷ acts) world) (acts_end lent index (Plays left ∷ acts) world)
    unfolding copies_in
    play_refused left fault h refuses =
        let e = called_play left world here ∙ ap (plays_on lent world) (refused_next lent left world fault h refuses) in
        subst (λ (o : Outcome Num). KeyEnds (copies_in o.events) fault index o.world (key_of lent worth index (Plays left ∷ acts) world) (acts_end lent index (Plays left ∷ acts) world)) e
        (act_declined index (Plays left) acts world fault (ap (λ (o : Outcome Num). declined o.answer) e))

    module _ (damage : Damage Num) where
      -- a damage that is done
      pub damage_done : (next : World Num) → damaging lent.field damage world ≡ Ok next → KeyAfter [] (next_index index) acts next (key_of lent worth index (Damages damage ∷ acts) world) (acts_end lent index (Damages damage ∷ acts) world)
      unfolding copies_in
      damage_done next is =
          let e = called_damage damage world here ∙ ap (moves_on lent world (λ next. Damaged ∷ [])) is in
          subst (λ (o : Outcome Num). KeyAfter (copies_in o.events) (next_index index) acts o.world (key_of lent worth index (Damages damage ∷ acts) world) (acts_end lent index (Damages damage ∷ acts) world)) e
          (act_done index (Damages damage) acts world (ap (λ (o : Outcome Num). declined o.answer) e))

      -- and one that is declined
      pub damage_declined :
          (fault : RunFault) → damaging lent.field damage world ≡ Err fault
          → KeyEnds [] fault index world (key_of lent worth index (Damages damage ∷ acts) world) (acts_end lent index (Damages damage ∷ acts) world)
      unfolding copies_in
      damage_declined fault is =
          let e = called_damage damage world here ∙ ap (moves_on lent world (λ next. Damaged ∷ [])) is in
          subst (λ (o : Outcome Num). KeyEnds (copies_in o.events) fault index o.world (key_of lent worth index (Damages damage ∷ acts) world) (acts_end lent index (Damages damage ∷ acts) world)) e
          (act_declined index (Damages damage) acts world fault (ap (λ (o : Outcome Num). declined o.answer) e))

  -- behind the last act nothing is left
  pub no_acts : (index : ℕ) (world : World Num) → (key_of lent worth index [] world ≡ []) × (acts_end lent index [] world ≡ record { world = world; refusal = None })
  unfolding acted history copies_in copy_lines
  no_acts index world = (refl, refl)
