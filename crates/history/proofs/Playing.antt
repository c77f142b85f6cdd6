-- Play from its first instant on, one instant after another, with one check at the beginning. Assumes nothing.
use Rattle.std.proofs.Common.{◌≡◌, ℕ, suc, ◌+◌, ◌<◌, ◌≤◌, List, [], ◌++◌, length, Some, None, Ok, Err, sym, refl, ap, ◌∙◌, subst, arith, add-zero}
use Rattle.std.proofs.lemmas.Bool.{le-ltb, lt-ltb}
use Rattle.std.proofs.lemmas.List.{append-nil, length-append}
use Rattle.std.proofs.lemmas.Option.{slice_get_within}
use Rattle.std.specs.List.{slice_get}
use Rattle.std.specs.Prelude.{◌-◌}
use Rattle.std.specs.Result.{result_and}
use Rattle.air.specs.Delays.{KeepsPeriods}
use Rattle.field.specs.declared.Link.{Link}
use Rattle.field.specs.declared.Message.{Message}
use Rattle.field.specs.declared.Row.{Row}
use Rattle.field.specs.declared.Stage.TheVariants.{Between, Within}
use Rattle.flood.specs.Copies.{message_on}
use Rattle.numbering.specs.Meaning.{KeepsLawful}
use Rattle.refusal.specs.declared.RunFault.{RunFault}
use Rattle.vetting.specs.declared.Named.TheVariants.{Nothing}
use Rattle.history.specs.Calls.{AfterCopy, can_open, copy_taken, next_taken, opening, world_opened, world_closed}
use Rattle.history.specs.Checks.{checked}
use Rattle.history.specs.Limits.{ChecksStay}
use Rattle.history.specs.PlayLaws.{together, past}
use Rattle.history.specs.Plays.{Event, Played, Went, copies_in, instant_gone, playing, tried}
use Rattle.history.specs.Plays.Tried.{Ends, Done}
use Rattle.history.specs.Worlds.{Lent, World, told_links}
use Rattle.history.specs.declared.taking.Ending.{Ending}
use Rattle.history.specs.declared.taking.Ending.TheVariants.{BudgetSpent, LogShort, Refused}
use Rattle.history.specs.declared.taking.TakenCopy.{TakenCopy}
use Rattle.history.proofs.Kept.{closed_between, no_instant, playing_done, playing_ends, tried_done, went_on}
use Rattle.history.proofs.Checks.{check_gives, check_passes, names_nothing}
use Rattle.history.proofs.Limits.{checks_stay, closed_in_limits}
use Rattle.history.proofs.NextCopies.{moved, takes_link}
use Rattle.history.proofs.PlayLaws.{joined, play_laws}

module _ {Num : Type 0} (lent : Lent Num) where
  -- what an instant tried comes to: it is refused, there is too little room, or it is done
  pub tried_refused : (room : ℕ) (world : World Num) (fault : RunFault) → opening lent world ≡ Err fault → tried lent room world ≡ Ends (Refused fault)
  unfolding tried
  tried_refused room world fault refused = rw (refused, tried)

  pub tried_short :
      (room : ℕ) (world next : World Num) → opening lent world ≡ Ok next → room < length (copies_in (instant_gone lent world).events)
      → tried lent room world ≡ Ends LogShort
  unfolding tried
  tried_short room world next granted short = rw (granted, lt-ltb room _ short, tried)

  pub tried_whole :
      (room : ℕ) (world next : World Num) → opening lent world ≡ Ok next → length (copies_in (instant_gone lent world).events) ≤ room
      → tried lent room world ≡ Done (instant_gone lent world)
  unfolding tried
  tried_whole room world next granted fits = rw (granted, le-ltb room _ fits, tried)

  module _ (room : ℕ) (start : World Num) where
    -- the copies of the first so many instants
    abbrev pub logged_so : ℕ → List (TakenCopy Num)
    logged_so i = copies_in (playing lent i room start).events

    -- So many instants were played from the start, all that play was given; here the run stands then, and so many rows are used.
    pub record PlayedSo (i : ℕ) (world : World Num) (used : ℕ) : Type 0 where
      pub instants : (playing lent i room start).instants ≡ i
      pub spent : (playing lent i room start).ending ≡ BudgetSpent
      pub stands : (playing lent i room start).world ≡ world
      pub logged : length (logged_so i) ≡ used

    pub none_played : PlayedSo 0 start 0
    unfolding playing copies_in
    none_played = record { instants = refl; spent = refl; stands = refl; logged = refl }

    pub none_logged : logged_so 0 ≡ []
    unfolding playing copies_in
    none_logged = refl

    -- play that spends its budget
    pub play_spent :
        (budget : ℕ) (world : World Num) (used : ℕ) → PlayedSo budget world used
        → playing lent budget room start ≡ record { instants = budget; events = (playing lent budget room start).events; world = world; ending = BudgetSpent }
    play_spent budget world used so = is (playing lent budget room start) so.instants so.stands so.spent
      where
        is : (p : Played Num) → p.instants ≡ budget → p.world ≡ world → p.ending ≡ BudgetSpent → p ≡ record { instants = budget; events = p.events; world = world; ending = BudgetSpent }
        is p instants stands spent = rw (← instants, ← stands, ← spent)

    module _ (i : ℕ) (world : World Num) (used : ℕ) (so : PlayedSo i world used) where
      abbrev first : Played Num
      first = playing lent i room start

      pub used_within : used ≤ room
      used_within = omega (arith, so.logged, (play_laws lent).within_room i room start)

      -- play of more instants goes on from here
      onward : (more : ℕ) → playing lent (i + more) room start ≡ together first (playing lent more (room - used) world)
      onward more = (play_laws lent).goes_on i more room start ∙ by first so.spent so.logged so.stands
        where
          by :
              (p : Played Num) → p.ending ≡ BudgetSpent → length (copies_in p.events) ≡ used → p.world ≡ world
              → past p.ending p (playing lent more (room - length (copies_in p.events)) p.world) ≡ together p (playing lent more (room - used) world)
          by p spent logged stands = rw (spent, logged, stands) refl

      -- an instant more
      pub one_played :
          (gone : Went Num) → tried lent (room - used) world ≡ Done gone
          → PlayedSo (i + 1) gone.world (used + length (copies_in gone.events)) × (logged_so (i + 1) ≡ logged_so i ++ copies_in gone.events)
      unfolding playing
      one_played gone done =
          let on : playing lent (i + 1) room start ≡ together first (went_on gone (no_instant gone.world BudgetSpent)) = onward 1 ∙ ap (together first) (playing_done lent 0 (room - used) world gone done) in
          let logs : logged_so (i + 1) ≡ logged_so i ++ copies_in gone.events =
          ap (λ (p : Played Num). copies_in p.events) on ∙ joined first.events (gone.events ++ []) ∙ ap (λ (events : List (Event Num)). logged_so i ++ copies_in events) (append-nil gone.events) in (
            record {
              instants = ap (λ (p : Played Num). p.instants) on ∙ ap (λ (k : ℕ). k + 1) so.instants;
              spent = ap (λ (p : Played Num). p.ending) on;
              stands = ap (λ (p : Played Num). p.world) on;
              logged = ap length logs ∙ length-append (logged_so i) (copies_in gone.events) ∙ ap (λ (k : ℕ). k + length (copies_in gone.events)) so.logged;
            },
            logs,
          )

      -- play that ends before its budget is spent
      pub play_ends :
          (budget : ℕ) (ending : Ending) → i < budget → tried lent (room - used) world ≡ Ends ending
          → playing lent budget room start ≡ record { instants = i; events = first.events; world = world; ending = ending }
      play_ends budget ending h ends =
          let left = budget - suc i in
          let rest : i + suc left ≡ budget = omega arith in
          let on : playing lent budget room start ≡ together first (no_instant world ending) = ap (λ (k : ℕ). playing lent k room start) (sym rest) ∙ onward (suc left) ∙ ap (together first) (playing_ends lent left (room - used) world ending ends) in
          on ∙ by first so.instants
        where
          by : (p : Played Num) → p.instants ≡ i → together p (no_instant world ending) ≡ record { instants = i; events = p.events; world = world; ending = ending }
          by p instants = rw (add-zero p.instants, append-nil p.events, instants) refl

-- One check at the beginning is enough.
module _ {Num : Type 0} (lent : Lent Num) where
  -- what open comes to where the check has passed
  pub opening_checked : (world : World Num) → checked lent.field Nothing Between world.rows world.senders ≡ Ok tt → opening lent world ≡ result_and (can_open lent.field world) (Ok (world_opened lent world))
  opening_checked world passed = rw passed refl

  module _ (lawful : KeepsLawful lent.field.numbering) (periods : KeepsPeriods lent.period) where
    stay : ChecksStay lent
    stay = checks_stay lent.field.numbering lawful lent refl periods

    -- in the instant that opens
    pub opened_passes :
        (world : World Num) → world.position ≡ None → checked lent.field Nothing Between world.rows world.senders ≡ Ok tt → can_open lent.field world ≡ Ok tt
        → checked lent.field Nothing Within (world_opened lent world).rows (world_opened lent world).senders ≡ Ok tt
    opened_passes world here passed can = stay.opens world (world_opened lent world) here (opening_checked world passed ∙ rw can refl)

    -- after a copy, the next one or the one over a link at its place
    pub taken_passes :
        (world : World Num) (next : AfterCopy Num) → checked lent.field Nothing Within world.rows world.senders ≡ Ok tt → next_taken lent world ≡ Some next
        → checked lent.field Nothing Within next.world.rows next.world.senders ≡ Ok tt
    taken_passes = stay.takes

    pub link_passes :
        (world : World Num) (place : ℕ) (link : Link) (message : Message Num) (row : Row Num) → checked lent.field Nothing Within world.rows world.senders ≡ Ok tt
        → slice_get (told_links lent.field) place ≡ Some link → message_on world.rows link ≡ Some message → slice_get world.rows link.to ≡ Some row
        → let next = copy_taken lent world place link message row in checked lent.field Nothing Within next.world.rows next.world.senders ≡ Ok tt
    unfolding copy_taken
    link_passes world place link message row passed there goes comes =
        let here = moved world place in
        taken_passes here (copy_taken lent here place link message row) passed (takes_link lent here place refl (slice_get_within (told_links lent.field) place link there) link message row there goes comes)

    -- once the instant is closed
    pub closed_passes :
        (world : World Num) (position : ℕ) → world.position ≡ Some position → checked lent.field Nothing Within world.rows world.senders ≡ Ok tt
        → checked lent.field Nothing Between (world_closed lent.field world).rows (world_closed lent.field world).senders ≡ Ok tt
    unfolding world_closed
    closed_passes world position here passed =
        let told = check_gives lent.field Nothing world (Some position) here passed in
        check_passes lent.field told.0 (world_closed lent.field world) (closed_in_limits lent world told.1) Nothing (names_nothing lent.field) None refl

    -- and after a whole instant, which stands between instants again
    pub gone_passes :
        (world next : World Num) → world.position ≡ None → opening lent world ≡ Ok next
        → let gone = (instant_gone lent world).world in (gone.position ≡ None) × (checked lent.field Nothing Between gone.rows gone.senders ≡ Ok tt)
    gone_passes world next here granted = (closed_between lent world, stay.instants world next here granted)

    pub done_passes :
        (room : ℕ) (world : World Num) (gone : Went Num) → world.position ≡ None → tried lent room world ≡ Done gone
        → (gone.world.position ≡ None) × (checked lent.field Nothing Between gone.world.rows gone.world.senders ≡ Ok tt)
    done_passes room world gone here done =
        let is = tried_done lent room world gone done in
        subst (λ (g : Went Num). (g.world.position ≡ None) × (checked lent.field Nothing Between g.world.rows g.world.senders ≡ Ok tt)) is.1
        (gone_passes world is.0.next here is.0.opens)
