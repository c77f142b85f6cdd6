-- What lies past n, or past the told count, is not read. Assumes nothing.
use Rattle.std.proofs.Common.{◌≡◌, ℕ, zero, suc, ◌+◌, ◌<◌, Bool, true, false, cond, not, ◌&&◌, ◌||◌, List, [], ◌∷◌, length, take, set, map, is_some, Some, None, Ok, Err, Option, Result, sym, refl, ap, ◌∙◌, subst, arith, add-zero}
use Rattle.std.proofs.lemmas.Bool.{le-ltb, lt-ltb, ltb-false, ltb-true}
use Rattle.std.proofs.Math.Seq.{take-nil}
use Rattle.std.proofs.lemmas.List.{length-take, map-append, take-take}
use Rattle.std.specs.List.{slice_get}
use Rattle.std.specs.Option.{ok_or, option_map}
use Rattle.std.specs.Prelude.{◌==◌, nat_le, nat_lt}
use Rattle.std.specs.Result.{result_and}
use Rattle.field.specs.declared.Damage.{Damage}
use Rattle.field.specs.declared.Link.{Link}
use Rattle.field.specs.declared.Message.{Message}
use Rattle.field.specs.declared.Row.{Row}
use Rattle.field.specs.declared.Stage.{Stage}
use Rattle.field.specs.declared.Stage.TheVariants.{Beginning, Between, Within}
use Rattle.field.specs.Rows.{row_keeps, sender_byte}
use Rattle.flood.specs.Copies.{copy_here, message_on, next_copy, outgoing_of}
use Rattle.flood.specs.Instants.{byte_of, changed, closed, row_closed, sending, silent}
use Rattle.refusal.specs.declared.RunFault.{RunFault}
use Rattle.refusal.specs.declared.RunFault.TheVariants.{CopyLeft, ShortBuffer}
use Rattle.search.specs.Lowest.{looked_for, judged}
use Rattle.vetting.specs.Cases.{bad_damage, case_fault, declines_where, fault_in}
use Rattle.vetting.specs.declared.MemoryCase.{MemoryCase}
use Rattle.vetting.specs.declared.MemoryCase.TheVariants.{Sensors, Links, Count, Rows, Losses}
use Rattle.vetting.specs.declared.Named.{Named}
use Rattle.vetting.specs.declared.Named.TheVariants.{Nothing, Sensor, Damaged}
use Rattle.history.specs.Calls.{AfterCopy, beginning, begun, carrying, closing, copy_left, copy_over, copy_taken, damaged_row, damaging, looking, may_close, may_open, next_taken, no_number, opening, rows_opened, world_closed, world_damaged, world_opened}
use Rattle.history.specs.Checks.{checked, checked_first, seen_at, short_case}
use Rattle.history.specs.Histories.{Call, Outcome, called, called_between, called_within, moves_on, shows, takes_on}
use Rattle.history.specs.Histories.Answer.{Granted}
use Rattle.history.specs.Histories.Call.{Open, Carry, Close, Damaging, Look, Play}
use Rattle.history.specs.Limits.{LinksKeep}
use Rattle.history.specs.Plays.{Event, Played, Tried, Went, copies_in, copies_taken, instant_gone, open_events, playing, tried}
use Rattle.history.specs.Plays.Event.{Damages, Opens, Begins, Takes}
use Rattle.history.specs.Plays.Tried.{Ends, Done}
use Rattle.history.specs.declared.taking.Ending.TheVariants.{LogShort, Refused}
use Rattle.history.specs.declared.taking.TakenCopy.{TakenCopy}
use Rattle.history.specs.Unread.{BeginAlike, NotRead, SameTold, first_alone, told_alone}
use Rattle.history.specs.Worlds.{Lent, World, told_links}
use Rattle.history.proofs.Checks.{check_gives, sensor_within}
use Rattle.history.proofs.Limits.{link_gives}
use Rattle.history.proofs.Kept.{copied, ok_is, opening_passed, played, playing_done, playing_ends}
use Rattle.history.proofs.NextCopies.{none_taken, one_taken}
use Rattle.history.proofs.Places.{same_lowest}

-- The first items of a list, alone.
module _ {A : Type 0} where
  taken_twice : (n : ℕ) (xs : List A) → take n (take n xs) ≡ take n xs
  taken_twice n xs = take-take n n xs (omega arith)

  short_same : (n : ℕ) (xs : List A) → nat_lt (length (take n xs)) n ≡ nat_lt (length xs) n
  short_same n xs = by (nat_lt (length xs) n) refl
    where
      by : (b : Bool) → nat_lt (length xs) n ≡ b → nat_lt (length (take n xs)) n ≡ b
      by true e = lt-ltb _ _ (omega (arith, length-take n xs, ltb-true (length xs) n e))
      by false e = le-ltb _ _ (omega (arith, length-take n xs, ltb-false (length xs) n e))

  get_same : (n k : ℕ) (xs : List A) → k < n → slice_get (take n xs) k ≡ slice_get xs k
  get_same zero k xs h = absurd (omega arith)
  get_same (suc n) k [] h = refl
  get_same (suc n) zero (x ∷ xs) h = refl
  get_same (suc n) (suc k) (x ∷ xs) h = get_same n k xs (omega arith)

  set_same : (n k : ℕ) (xs : List A) (x : A) → set (take n xs) k x ≡ take n (set xs k x)
  set_same zero k xs x = refl
  set_same (suc n) k [] x = refl
  set_same (suc n) zero (y ∷ xs) x = refl
  set_same (suc n) (suc k) (y ∷ xs) x = ap (λ (zs : List A). y ∷ zs) (set_same n k xs x)

  changed_first : (change : ℕ → A → A) (place n m : ℕ) (xs : List A) → changed change place n (take m xs) ≡ take m (changed change place n xs)
  unfolding changed
  changed_first change place n zero xs = refl
  changed_first change place n (suc m) [] = refl
  changed_first change place zero (suc m) (x ∷ xs) = refl
  changed_first change place (suc n) (suc m) (x ∷ xs) = ap (λ (zs : List A). change place x ∷ zs) (changed_first change (suc place) n m xs)

  changed_alike : (f g : ℕ → A → A) (place n : ℕ) (xs : List A) → ((k : ℕ) (x : A) → k < n → f (place + k) x ≡ g (place + k) x) → changed f place n xs ≡ changed g place n xs
  unfolding changed
  changed_alike f g place n [] same = refl
  changed_alike f g place zero (x ∷ xs) same = refl
  changed_alike f g place (suc n) (x ∷ xs) same =
      let here : f place x ≡ g place x = subst (λ (i : ℕ). f i x ≡ g i x) (add-zero place) (same 0 x (omega arith)) in
      rw (here, changed_alike f g (suc place) n xs (λ k y h. subst (λ (i : ℕ). f i y ≡ g i y) (omega arith) (same (suc k) y (omega arith)))) refl

-- What is granted, turned into something else, and what comes after a check.
module _ {A B : Type 0} where
  abbrev granted : (A → B) → Result A RunFault → Result B RunFault
  granted f (Ok x) = Ok (f x)
  granted f (Err fault) = Err fault

  and_granted : (f : A → B) (c : Result (Unit {0}) RunFault) (r : Result A RunFault) → result_and c (granted f r) ≡ granted f (result_and c r)
  and_granted f (Ok t) r = refl
  and_granted f (Err fault) r = refl

and_same : {A : Type 0} (c : Result (Unit {0}) RunFault) (a b : Result A RunFault) → (c ≡ Ok tt → a ≡ b) → result_and c a ≡ result_and c b
and_same (Ok t) a b same = same refl
and_same (Err fault) a b same = refl

module _ {Num : Type 0} (lent : Lent Num) where
  abbrev n : ℕ
  n = lent.field.settings.n

  abbrev told : Lent Num
  told = told_alone lent

  abbrev first : World Num → World Num
  first = first_alone n

  links_same : told_links told.field ≡ told_links lent.field
  links_same = taken_twice lent.field.count lent.field.links

  -- what is looked for is found at the same place
  module _ (named : Named Num) (stage : Stage) (rows : List (Row Num)) (senders : List ℕ) where
    -- a row, by itself and its byte
    abbrev bad_at : ℕ → Option (Row Num) → Option ℕ → Bool
    bad_at k row byte =
        let seen = seen_at lent.field named stage [] [] in
        elim row [ None ↦ false | Some row ↦ not (row_keeps seen.numbering seen.settings stage k row) ]
        || (elim row [ None ↦ false | Some row ↦ elim byte [ None ↦ false | Some byte ↦ not (byte == sender_byte row) ] ] || bad_damage seen named k)

    fault_same : (case : MemoryCase) → fault_in (seen_at told.field named stage (take n rows) (take n senders)) case ≡ fault_in (seen_at lent.field named stage rows senders) case
    unfolding fault_in looked_for
    fault_same case = ap (λ (links : List Link). fault_in (record (seen_at lent.field named stage (take n rows) (take n senders)) { links = links }) case) links_same ∙ by case
      where
        by : (case : MemoryCase) → fault_in (seen_at lent.field named stage (take n rows) (take n senders)) case ≡ fault_in (seen_at lent.field named stage rows senders) case
        by Sensors = refl
        by (Links repeats) = refl
        by Count = refl
        by Rows = ap (judged (case_fault Rows)) (same_lowest _ _ n (λ k h.
            ap (λ (row : Option (Row Num)). bad_at k row (slice_get (take n senders) k)) (get_same n k rows h) ∙ ap (bad_at k (slice_get rows k)) (get_same n k senders h)))
        by Losses = refl

    short_as : short_case told.field (take n rows) (take n senders) ≡ short_case lent.field rows senders
    short_as = rw (short_same n rows, short_same n senders, short_same lent.field.count lent.field.links) refl

    check_same : checked told.field named stage (take n rows) (take n senders) ≡ checked lent.field named stage rows senders
    unfolding checked
    check_same = rw (fault_same Sensors, fault_same (Links false), fault_same Rows, short_as) refl

  begin_check_same : (rows : List (Row Num)) (senders : List ℕ) → checked_first told.field (take n rows) (take n senders) ≡ checked_first lent.field rows senders
  unfolding checked_first
  begin_check_same rows senders =
      let fault : (case : MemoryCase) → fault_in (seen_at told.field Nothing Beginning (take n rows) []) case ≡ fault_in (seen_at lent.field Nothing Beginning rows []) case =
      λ case. rw (take-nil {A = ℕ} n) at (fault_same Nothing Beginning rows [] case) in
      rw (fault Sensors, fault (Links true), fault Count, fault Rows, short_as Nothing Beginning rows senders) refl

  -- Open.
  rows_opened_same : (world : World Num) → rows_opened told (first world) ≡ take n (rows_opened lent world)
  rows_opened_same world = changed_first _ 0 n n world.rows

  sends_same : (rows : List (Row Num)) (sensor : ℕ) → sensor < n → outgoing_of (take n rows) sensor ≡ outgoing_of rows sensor
  sends_same rows sensor h = rw (get_same n sensor rows h, outgoing_of) refl

  world_opened_same : (world : World Num) → world_opened told (first world) ≡ first (world_opened lent world)
  unfolding world_opened
  world_opened_same world =
      let rows = rows_opened lent world in
      let bytes : sending (take n rows) n (take n world.senders) ≡ take n (sending rows n world.senders) =
      changed_alike _ _ 0 n (take n world.senders) (λ k byte h. ap byte_of (get_same n (0 + k) rows (omega arith))) ∙ changed_first _ 0 n n world.senders in
      rw (rows_opened_same world, bytes, sends_same rows 0 (omega arith)) refl

  no_number_same : (world : World Num) → no_number told.field (first world) ≡ no_number lent.field world
  no_number_same world = rw (get_same n 0 world.rows (omega arith), no_number) refl

  may_open_same : (world : World Num) → may_open told.field (first world) ≡ may_open lent.field world
  may_open_same world = rw (check_same Nothing Between world.rows world.senders, no_number_same world) refl

  opening_same : (world : World Num) → opening told (first world) ≡ granted first (opening lent world)
  opening_same world = rw (may_open_same world, world_opened_same world) (and_granted first (may_open lent.field world) (Ok (world_opened lent world)))

  -- a row that is set
  damaging_same : (damage : Damage Num) (world : World Num) → damaging told.field damage (first world) ≡ granted first (damaging lent.field damage world)
  unfolding world_damaged
  damaging_same damage world =
      let check = checked lent.field (Damaged damage) Between world.rows world.senders in
      rw (check_same (Damaged damage) Between world.rows world.senders, set_same n damage.sensor world.rows (damaged_row damage)) (and_granted first check (Ok (world_damaged damage world)))

  -- an instant that is closed
  world_closed_same : (world : World Num) → world_closed told.field (first world) ≡ first (world_closed lent.field world)
  unfolding world_closed
  world_closed_same world = rw (changed_first (λ sensor (row : Row Num). row_closed row) 0 n n world.rows, changed_first (λ sensor (byte : ℕ). 0) 0 n n world.senders) refl

  looking_same : (sensor : ℕ) (world : World Num) → looking told.field sensor (first world) ≡ looking lent.field sensor world
  looking_same sensor world =
      let check = checked lent.field (Sensor sensor) Between world.rows world.senders in
      rw (check_same (Sensor sensor) Between world.rows world.senders)
      (and_same check _ _ (λ passes. ap (λ (o : Option (Row Num)). ok_or o ShortBuffer) (get_same n sensor world.rows (sensor_within lent.field sensor Between world passes))))

  begun_same : (rows : List (Row Num)) (senders : List ℕ) → begun told.field (take n rows) (take n senders) ≡ granted first (begun lent.field rows senders)
  begun_same rows senders =
      rw (begin_check_same rows senders, changed_first (λ sensor (row : Row Num). row_closed row) 0 n n rows, changed_first (λ sensor (byte : ℕ). 0) 0 n n senders)
      (and_granted first (checked_first lent.field rows senders) (Ok (beginning lent.field rows senders)))

  -- without what lies past n: a copy that was taken, what happened, and what an instant, a play and a call come to
  abbrev copy_first : AfterCopy Num → AfterCopy Num
  copy_first next = record next { world = first next.world }

  abbrev event_first : Event Num → Event Num
  event_first Damages = Damages
  event_first Opens = Opens
  event_first (Begins number rows) = Begins number (take n rows)
  event_first (Takes copy) = Takes copy

  abbrev went_first : Went Num → Went Num
  went_first went = record { events = map event_first went.events; world = first went.world }

  abbrev tried_first : Tried Num → Tried Num
  tried_first (Ends ending) = Ends ending
  tried_first (Done gone) = Done (went_first gone)

  abbrev played_first : Played Num → Played Num
  played_first played = record played { events = map event_first played.events; world = first played.world }

  abbrev outcome_first : Outcome Num → Outcome Num
  outcome_first outcome = record outcome { events = map event_first outcome.events; world = first outcome.world }

  copies_first : (events : List (Event Num)) → copies_in (map event_first events) ≡ copies_in events
  unfolding copies_in
  copies_first [] = refl
  copies_first (Damages ∷ events) = copies_first events
  copies_first (Opens ∷ events) = copies_first events
  copies_first (Begins number rows ∷ events) = copies_first events
  copies_first (Takes copy ∷ events) = ap (λ (copies : List (TakenCopy Num)). copy ∷ copies) (copies_first events)

  open_events_same : (before after : World Num) → open_events (first before) (first after) ≡ map event_first (open_events before after)
  unfolding open_events
  open_events_same before after = rw (sends_same after.rows 0 (omega arith)) (by (outgoing_of after.rows 0))
    where
      by :
          (o : Option (Message Num)) → let begins : List (Row Num) → List (Event Num) = λ rows. elim o [ None ↦ [] | Some message ↦ Begins message.number rows ∷ [] ] in
          Opens ∷ begins (take n before.rows) ≡ map event_first (Opens ∷ begins before.rows)
      by None = refl
      by (Some message) = refl

  -- The copies of an instant, where the links keep their limits.
  module _ (links : LinksKeep lent.field) where
    goes_same : (world : World Num) (place : ℕ) → copy_here (take n world.rows) (told_links lent.field) place ≡ copy_here world.rows (told_links lent.field) place
    goes_same world place = by (slice_get (told_links lent.field) place) refl
      where
        by :
            (o : Option Link) → slice_get (told_links lent.field) place ≡ o
            → ◌≡◌ {A = Bool} (elim o [ None ↦ false | Some link ↦ is_some (message_on (take n world.rows) link) ]) (elim o [ None ↦ false | Some link ↦ is_some (message_on world.rows link) ])
        by None there = refl
        by (Some link) there = ap is_some (sends_same world.rows link.from (link_gives lent.field links place link there).0)

    next_copy_same : (world : World Num) (position : ℕ) → next_copy (take n world.rows) (told_links told.field) position ≡ next_copy world.rows (told_links lent.field) position
    next_copy_same world position =
        rw links_same (same_lowest _ _ (length (told_links lent.field)) (λ k h. ap (λ (goes : Bool). nat_le position k && goes) (goes_same world k)))

    copy_taken_same :
        (world : World Num) (place : ℕ) (link : Link) (message : Message Num) (row : Row Num)
        → copy_taken told (first world) place link message row ≡ copy_first (copy_taken lent world place link message row)
    unfolding copy_taken
    copy_taken_same world place link message row = rw (links_same, taken_twice n world.senders, set_same n link.to world.rows _) refl

    -- what goes over a link, by its message and its receiver's row
    abbrev over : Lent Num → World Num → ℕ → Link → Option (Message Num) → Option (Row Num) → Option (AfterCopy Num)
    over lent world place link message row = elim message [ None ↦ None | Some message ↦ elim row [ None ↦ None | Some row ↦ Some (copy_taken lent world place link message row) ] ]

    over_same :
        (world : World Num) (place : ℕ) (link : Link) (message : Option (Message Num)) (row : Option (Row Num))
        → over told (first world) place link message row ≡ option_map copy_first (over lent world place link message row)
    over_same world place link None row = refl
    over_same world place link (Some message) None = refl
    over_same world place link (Some message) (Some row) = ap Some (copy_taken_same world place link message row)

    copy_over_same : (world : World Num) (place : ℕ) → copy_over told (first world) place ≡ option_map copy_first (copy_over lent world place)
    copy_over_same world place = ap at links_same ∙ by (slice_get (told_links lent.field) place) refl
      where
        over_first : Link → Option (AfterCopy Num)
        over_first link = over told (first world) place link (message_on (take n world.rows) link) (slice_get (take n world.rows) link.to)

        at : List Link → Option (AfterCopy Num)
        at links = elim (slice_get links place) [ None ↦ None | Some link ↦ over_first link ]

        by :
            (o : Option Link) → slice_get (told_links lent.field) place ≡ o
            → ◌≡◌ {A = Option (AfterCopy Num)} (elim o [ None ↦ None | Some link ↦ over_first link ])
            (option_map copy_first (elim o [ None ↦ None | Some link ↦ over lent world place link (message_on world.rows link) (slice_get world.rows link.to) ]))
        by None there = refl
        by (Some link) there =
            let ends = link_gives lent.field links place link there in
            ap (λ (message : Option (Message Num)). over told (first world) place link message (slice_get (take n world.rows) link.to)) (sends_same world.rows link.from ends.0)
            ∙ ap (over told (first world) place link (message_on world.rows link)) (get_same n link.to world.rows ends.1)
            ∙ over_same world place link (message_on world.rows link) (slice_get world.rows link.to)

    next_taken_same : (world : World Num) → next_taken told (first world) ≡ option_map copy_first (next_taken lent world)
    unfolding next_taken
    next_taken_same world = by world.position
      where
        found : (lent : Lent Num) → World Num → Option ℕ → Option (AfterCopy Num)
        found lent world place = elim place [ None ↦ None | Some place ↦ copy_over lent world place ]

        found_same : (place : Option ℕ) → found told (first world) place ≡ option_map copy_first (found lent world place)
        found_same None = refl
        found_same (Some place) = copy_over_same world place

        by :
            (o : Option ℕ)
            → ◌≡◌ {A = Option (AfterCopy Num)} (elim o [ None ↦ None | Some position ↦ found told (first world) (next_copy (take n world.rows) (told_links told.field) position) ])
            (option_map copy_first (elim o [ None ↦ None | Some position ↦ found lent world (next_copy world.rows (told_links lent.field) position) ]))
        by None = refl
        by (Some position) = ap (found told (first world)) (next_copy_same world position) ∙ found_same (next_copy world.rows (told_links lent.field) position)

    copies_taken_same : (most : ℕ) (world : World Num) → copies_taken told most (first world) ≡ went_first (copies_taken lent most world)
    unfolding copies_taken
    copies_taken_same =
        copied lent (λ most world went. copies_taken told most (first world) ≡ went_first went)
        (λ world. refl)
        (λ most world none. none_taken told (suc most) (first world) (next_taken_same world ∙ ap (option_map copy_first) none))
        (λ most world next rest some before.
        one_taken told most (first world) (copy_first next) (next_taken_same world ∙ ap (option_map copy_first) some)
        ∙ ap (λ (went : Went Num). record { events = Takes next.copy ∷ went.events; world = went.world }) before)

    instant_gone_same : (world : World Num) → instant_gone told (first world) ≡ went_first (instant_gone lent world)
    unfolding instant_gone
    instant_gone_same world =
        let opened = world_opened lent world in
        let most = length (told_links lent.field) in
        let gone = copies_taken lent most opened in
        let copies : copies_taken told (length (told_links told.field)) (world_opened told (first world)) ≡ went_first gone =
        rw (links_same, world_opened_same world) (copies_taken_same most opened) in
        rw (copies, world_opened_same world, open_events_same world opened, world_closed_same gone.world) (rw (map-append event_first (open_events world opened) gone.events) refl)

  -- what an open that is granted says of the links
  links_of : (world next : World Num) → opening lent world ≡ Ok next → LinksKeep lent.field
  links_of world next granted = (check_gives lent.field Nothing (record world { position = None }) None refl (opening_passed lent world next granted)).0

  tried_same : (room : ℕ) (world : World Num) → tried told room (first world) ≡ tried_first (tried lent room world)
  unfolding tried
  tried_same room world = ap (λ (o : Result (World Num) RunFault). comes_to o (instant_gone told (first world))) (opening_same world) ∙ by (opening lent world) refl
    where
      comes_to : Result (World Num) RunFault → Went Num → Tried Num
      comes_to o gone = elim o [ Err fault ↦ Ends (Refused fault) | Ok opened ↦ cond (nat_lt room (length (copies_in gone.events))) (Ends LogShort) (Done gone) ]

      fits : (short : Bool) (gone : Went Num) → ◌≡◌ {A = Tried Num} (cond short (Ends LogShort) (Done (went_first gone))) (tried_first (cond short (Ends LogShort) (Done gone)))
      fits true gone = refl
      fits false gone = refl

      by : (o : Result (World Num) RunFault) → opening lent world ≡ o → comes_to (granted first o) (instant_gone told (first world)) ≡ tried_first (comes_to o (instant_gone lent world))
      by (Err fault) e = refl
      by (Ok next) e = let gone = instant_gone lent world in rw (instant_gone_same (links_of world next e) world, copies_first gone.events) (fits _ gone)

  playing_same : (budget room : ℕ) (world : World Num) → playing told budget room (first world) ≡ played_first (playing lent budget room world)
  unfolding playing
  playing_same =
      played lent (λ budget room world p. playing told budget room (first world) ≡ played_first p)
      (λ room world. refl)
      (λ budget room world ending e. playing_ends told budget room (first world) ending (tried_same room world ∙ ap tried_first e))
      (λ budget room world gone rest e before.
      playing_done told budget room (first world) (went_first gone) (tried_same room world ∙ ap tried_first e)
      ∙ rw (copies_first gone.events, before) (rw (map-append event_first gone.events rest.events) refl))

  -- Carry and close, within an instant.
  module _ (world : World Num) where
    abbrev within : Result (Unit {0}) RunFault
    within = checked lent.field Nothing Within world.rows world.senders

    within_links : within ≡ Ok tt → LinksKeep lent.field
    within_links passes = (check_gives lent.field Nothing (record world { position = Some 0 }) (Some 0) refl passes).0

    carrying_same : carrying told (first world) ≡ granted (option_map copy_first) (carrying lent world)
    carrying_same =
        rw (check_same Nothing Within world.rows world.senders)
        (and_same within _ _ (λ passes. ap Ok (next_taken_same (within_links passes) world)) ∙ and_granted (option_map copy_first) within (Ok (next_taken lent world)))

    copy_left_same : LinksKeep lent.field → copy_left told.field (first world) ≡ copy_left lent.field world
    copy_left_same links = by world.position
      where
        by :
            (o : Option ℕ)
            → ◌≡◌ {A = Bool} (elim o [ None ↦ false | Some position ↦ is_some (next_copy (take n world.rows) (told_links told.field) position) ])
            (elim o [ None ↦ false | Some position ↦ is_some (next_copy world.rows (told_links lent.field) position) ])
        by None = refl
        by (Some position) = ap is_some (next_copy_same links world position)

    may_close_same : may_close told.field (first world) ≡ may_close lent.field world
    may_close_same =
        rw (check_same Nothing Within world.rows world.senders)
        (and_same within _ _ (λ passes. ap (λ (left : Bool). declines_where left CopyLeft) (copy_left_same (within_links passes))))

    closing_same : closing told.field (first world) ≡ granted first (closing lent.field world)
    closing_same = rw (may_close_same, world_closed_same world) (and_granted first (may_close lent.field world) (Ok (world_closed lent.field world)))

    -- Each call.
    moves_same :
        (events whole : World Num → List (Event Num)) → ((next : World Num) → events (first next) ≡ map event_first (whole next))
        → (r : Result (World Num) RunFault) → moves_on told (first world) events (granted first r) ≡ outcome_first (moves_on lent world whole r)
    moves_same events whole same (Ok next) = ap (λ (events : List (Event Num)). record { answer = Granted; events = events; world = first next }) (same next)
    moves_same events whole same (Err fault) = refl

    takes_same : (r : Result (Option (AfterCopy Num)) RunFault) → takes_on told (first world) (granted (option_map copy_first) r) ≡ outcome_first (takes_on lent world r)
    takes_same (Ok None) = refl
    takes_same (Ok (Some next)) = refl
    takes_same (Err fault) = refl

    shows_same : (r : Result (Row Num) RunFault) → shows told (first world) r ≡ outcome_first (shows lent world r)
    shows_same (Ok row) = refl
    shows_same (Err fault) = refl

    between_same : (call : Call Num) → called_between told (first world) call ≡ outcome_first (called_between lent world call)
    between_same Open = rw (opening_same world) (moves_same (open_events (first world)) (open_events world) (open_events_same world) (opening lent world))
    between_same Carry = refl
    between_same Close = refl
    between_same (Damaging damage) = rw (damaging_same damage world) (moves_same (λ next. Damages ∷ []) (λ next. Damages ∷ []) (λ next. refl) (damaging lent.field damage world))
    between_same (Look sensor) = rw (looking_same sensor world) (shows_same (looking lent.field sensor world))
    between_same (Play budget room) = rw (playing_same budget room world, copies_first (playing lent budget room world).events) refl

    within_same : (call : Call Num) → called_within told (first world) call ≡ outcome_first (called_within lent world call)
    within_same Open = refl
    within_same Carry = rw carrying_same (takes_same (carrying lent world))
    within_same Close = rw closing_same (moves_same (λ next. []) (λ next. []) (λ next. refl) (closing lent.field world))
    within_same (Damaging damage) = refl
    within_same (Look sensor) = refl
    within_same (Play budget room) = refl

    -- what a call comes to
    pub called_same : (call : Call Num) → called told (first world) call ≡ outcome_first (called lent world call)
    unfolding called
    called_same call = by world.position
      where
        by :
            (o : Option ℕ)
            → ◌≡◌ {A = Outcome Num} (elim o [ None ↦ called_between told (first world) call | Some position ↦ called_within told (first world) call ])
            (outcome_first (elim o [ None ↦ called_between lent world call | Some position ↦ called_within lent world call ]))
        by None = between_same call
        by (Some position) = within_same call

-- Two that are the same but for that.
module _ {Num : Type 0} where
  -- where n is known by another name
  called_at :
      (lent : Lent Num) (n : ℕ) → lent.field.settings.n ≡ n → (world : World Num) (call : Call Num)
      → let alone = called (told_alone lent) (first_alone n world) call in let whole = called lent world call in
      (alone.answer ≡ whole.answer) × (alone.world ≡ first_alone n whole.world)
  called_at lent n e world call =
      let same = called_same lent world call in
      subst (λ (n : ℕ). let alone = called (told_alone lent) (first_alone n world) call in let whole = called lent world call in (alone.answer ≡ whole.answer) × (alone.world ≡ first_alone n whole.world)) e
      (ap (λ (o : Outcome Num). o.answer) same, ap (λ (o : Outcome Num). o.world) same)

  begun_at :
      (lent : Lent Num) (n : ℕ) → lent.field.settings.n ≡ n → (rows : List (Row Num)) (senders : List ℕ)
      → begun (told_alone lent).field (take n rows) (take n senders) ≡ granted (first_alone n) (begun lent.field rows senders)
  begun_at lent n e rows senders =
      subst (λ (n : ℕ). begun (told_alone lent).field (take n rows) (take n senders) ≡ granted (first_alone n) (begun lent.field rows senders)) e (begun_same lent rows senders)

  begin_alike : (n : ℕ) (one two : Result (World Num) RunFault) → granted (first_alone n) one ≡ granted (first_alone n) two → BeginAlike n one two
  begin_alike n (Ok world) (Ok other) e = ok_is _ _ e
  begin_alike n (Ok world) (Err fault) e = cc
  begin_alike n (Err fault) (Ok other) e = cc
  begin_alike n (Err fault) (Err other) e = cc

  pub not_read : (lent other : Lent Num) → SameTold lent other → NotRead lent other
  not_read lent other same =
      let n = lent.field.settings.n in
      let named : other.field.settings.n ≡ n = ap (λ (l : Lent Num). l.field.settings.n) (sym same) in
      record {
        begins = λ rows others senders bytes same_rows same_bytes.
            let joins : begun (told_alone lent).field (take n rows) (take n senders) ≡ begun (told_alone other).field (take n others) (take n bytes) = rw (same_rows, same_bytes) (ap (λ (l : Lent Num). begun l.field (take n others) (take n bytes)) same) in
            begin_alike n (begun lent.field rows senders) (begun other.field others bytes) (sym (begun_at lent n refl rows senders) ∙ joins ∙ begun_at other n named others bytes);
        calls = λ world stands same_world call.
            let one = called_at lent n refl world call in
            let two = called_at other n named stands call in
            let joins : called (told_alone lent) (first_alone n world) call ≡ called (told_alone other) (first_alone n stands) call =
            ap (λ (l : Lent Num). called l (first_alone n world) call) same ∙ ap (λ (w : World Num). called (told_alone other) w call) same_world in
            (sym one.0 ∙ ap (λ (o : Outcome Num). o.answer) joins ∙ two.0, sym one.1 ∙ ap (λ (o : Outcome Num). o.world) joins ∙ two.1);
      }
