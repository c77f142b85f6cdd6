-- What every step of a run keeps, a whole history keeps. Assumes nothing.
use Rattle.std.proofs.lemmas.Option.{same_Some}
use Rattle.std.proofs.Common.{◌≡◌, ℕ, zero, suc, ◌+◌, ◌<◌, ◌≤◌, Bool, true, false, List, [], ◌∷◌, ◌++◌, length, is_some, Some, None, Ok, Err, Option, Result, sym, refl, ap, ◌∙◌, subst, arith, leb-true}
use Rattle.std.proofs.lemmas.Bool.{and_parts, le-leb}
use Rattle.std.specs.Prelude.{◌-◌, nat_le, nat_lt, slice_get}
use Rattle.std.specs.Result.{result_and}
use Rattle.field.specs.declared.Damage.{Damage}
use Rattle.field.specs.declared.Link.{Link}
use Rattle.field.specs.declared.Message.{Message}
use Rattle.field.specs.declared.Row.{Row}
use Rattle.field.specs.declared.Stage.TheVariants.{Between, Within}
use Rattle.flood.specs.Copies.{message_on, copy_here, copy_at, next_copy}
use Rattle.history.proofs.Places.{none_is_some}
use Rattle.history.specs.Calls.{can_open, copy_left, copy_over, may_open, may_close, AfterCopy, opening, world_opened, carrying, copy_taken, next_taken, closing, world_closed, damaging, world_damaged, looking}
use Rattle.vetting.specs.Cases.{declines_where}
use Rattle.history.specs.Checks.{checked}
use Rattle.vetting.specs.declared.Named.TheVariants.{Nothing, Damaged}
use Rattle.history.specs.Floods.{through}
use Rattle.history.specs.Histories.{Call, Outcome, only_answers, called_between, called_within, called, history, moves_on, takes_on, shows, plays_on}
use Rattle.history.specs.Histories.Call.{Open, Carry, Close, Damaging, Look, Play}
use Rattle.history.specs.Histories.Answer.{Granted, Copied, Shows, Declines, NotLet}
use Rattle.history.specs.Plays.{Event, Went, Played, Tried, open_events, copies_in, copies_taken, instant_gone, tried, playing}
use Rattle.history.specs.Plays.Event.{Damages, Takes}
use Rattle.history.specs.Plays.Tried.{Ends, Done}
use Rattle.history.specs.Worlds.{Lent, World, told_links}
use Rattle.history.specs.declared.taking.Ending.{Ending}
use Rattle.history.specs.declared.taking.Ending.TheVariants.{BudgetSpent, LogShort, Refused}
use Rattle.refusal.specs.declared.RunFault.{RunFault}
use Rattle.refusal.specs.declared.RunFault.TheVariants.{CopyLeft}
use Rattle.search.proofs.Places.{is_lowest}

pub through_joined : {Num A : Type 0} (note : A → Event Num → A) (xs ys : List (Event Num)) (a : A) → through note a (xs ++ ys) ≡ through note (through note a xs) ys
unfolding through
through_joined note [] ys a = refl
through_joined note (x ∷ xs) ys a = through_joined note xs ys (note a x)

pub granted_ok : {A : Type 0} (c : Result (Unit {0}) RunFault) (rest : Result A RunFault) (x : A) → result_and c rest ≡ Ok x → rest ≡ Ok x
granted_ok (Ok t) rest x e = e
granted_ok (Err fault) rest x e = absurd cc

pub ok_is : {A : Type 0} (x y : A) → ◌≡◌ {A = Result A RunFault} (Ok x) (Ok y) → x ≡ y
ok_is x y e = cc

-- the case before the rest does not hold
pub granted_first : {A : Type 0} (c : Result (Unit {0}) RunFault) (rest : Result A RunFault) (x : A) → result_and c rest ≡ Ok x → c ≡ Ok tt
granted_first (Ok t) rest x e = refl
granted_first (Err fault) rest x e = absurd cc

-- where something comes of what stands there, something stands there
pub some_from : {A B C : Type 0} (o : Option A) (f : A → Option B) (y : B) → elim o [ None ↦ None | Some x ↦ f x ] ≡ Some y → ((x : A) → o ≡ Some x → f x ≡ Some y → C) → C
some_from None f y e to = none_is_some y e
some_from (Some x) f y e to = to x refl e

-- a play of no instant, and a play after one instant more
abbrev pub no_instant : {Num : Type 0} → World Num → Ending → Played Num
no_instant world ending = record { instants = 0; events = []; world = world; ending = ending }

abbrev pub went_on : {Num : Type 0} → Went Num → Played Num → Played Num
went_on gone rest = record { instants = suc rest.instants; events = gone.events ++ rest.events; world = rest.world; ending = rest.ending }

module _ {Num : Type 0} (lent : Lent Num) where
  -- an open that is granted opens the next instant
  pub opening_is : (world next : World Num) → opening lent world ≡ Ok next → world_opened lent world ≡ next
  opening_is world next e = ok_is _ next (granted_ok (may_open lent.field world) _ next e)

  -- where an open or a close is granted, the check passed
  pub opening_passed : (world next : World Num) → opening lent world ≡ Ok next → checked lent.field Nothing Between world.rows world.senders ≡ Ok tt
  opening_passed world next e = granted_first _ (can_open lent.field world) tt (granted_first (may_open lent.field world) _ next e)

  pub closing_passed : (world next : World Num) → closing lent.field world ≡ Ok next → checked lent.field Nothing Within world.rows world.senders ≡ Ok tt
  closing_passed world next e = granted_first _ (declines_where (copy_left lent.field world) CopyLeft) tt (granted_first (may_close lent.field world) _ next e)

  -- where no copy is left, there is no next one
  pub none_taken : (world : World Num) → copy_left lent.field world ≡ false → next_taken lent world ≡ None
  unfolding next_taken
  none_taken world = by world.position
    where
      none_next :
          (o : Option ℕ) → is_some o ≡ false
          → let next : Option (AfterCopy Num) = elim o [ None ↦ None | Some place ↦ copy_over lent world place ] in next ≡ None
      none_next None e = refl
      none_next (Some place) e = absurd cc

      by :
          (o : Option ℕ) → elim o [ None ↦ false | Some position ↦ is_some (next_copy world.rows (told_links lent.field) position) ] ≡ false
          → let next : Option (AfterCopy Num) = elim o [ None ↦ None | Some position ↦ elim (next_copy world.rows (told_links lent.field) position) [ None ↦ None | Some place ↦ copy_over lent world place ] ] in next ≡ None
      by None e = refl
      by (Some position) e = none_next (next_copy world.rows (told_links lent.field) position) e

  -- a close that is granted closes the instant, and no copy is left
  closing_is : (world next : World Num) → closing lent.field world ≡ Ok next → (next_taken lent world ≡ None) × (world_closed lent.field world ≡ next)
  closing_is world next e = (none_taken world (by (copy_left lent.field world) none_left), ok_is _ next (granted_ok (may_close lent.field world) _ next e))
    where
      none_left : declines_where (copy_left lent.field world) CopyLeft ≡ Ok tt
      none_left = granted_ok (checked lent.field Nothing Within world.rows world.senders) _ tt (granted_first (may_close lent.field world) _ next e)

      by : (left : Bool) → declines_where left CopyLeft ≡ Ok tt → left ≡ false
      by true e = absurd cc
      by false e = refl

  -- a damage that is granted is done
  pub damaging_is : (damage : Damage Num) (world next : World Num) → damaging lent.field damage world ≡ Ok next → world_damaged damage world ≡ next
  damaging_is damage world next e = ok_is _ next (granted_ok (checked lent.field (Damaged damage) Between world.rows world.senders) _ next e)

  -- The next copy goes over the link at a place from the position on.
  pub record From (world : World Num) (position : ℕ) (next : AfterCopy Num) : Type 0 where
    pub place : ℕ
    pub link : Link
    pub message : Message Num
    pub row : Row Num
    pub onward : position ≤ place
    pub first : (k : ℕ) → position ≤ k → k < place → copy_here world.rows (told_links lent.field) k ≡ false
    pub within : place < length (told_links lent.field)
    pub there : slice_get (told_links lent.field) place ≡ Some link
    pub goes : message_on world.rows link ≡ Some message
    pub comes : slice_get world.rows link.to ≡ Some row
    pub taken : copy_taken lent world place link message row ≡ next

  pub carried_from : (world : World Num) (position : ℕ) (next : AfterCopy Num) → world.position ≡ Some position → next_taken lent world ≡ Some next → From world position next
  unfolding next_taken
  carried_from world position next here e =
      some_from world.position _ next e λ start at e.
      some_from (next_copy world.rows (told_links lent.field) start) _ next e λ place found e.
      some_from (slice_get (told_links lent.field) place) _ next e λ link there e.
      some_from (message_on world.rows link) _ next e λ message goes e.
      some_from (slice_get world.rows link.to) _ next e λ row comes e.
      let is = is_lowest (copy_at world.rows (told_links lent.field) start) (length (told_links lent.field)) (Some place) (sym found) in
      let from = same_Some start position (sym at ∙ here) in
      record {
        place = place;
        link = link;
        message = message;
        row = row;
        onward = subst (λ (p : ℕ). p ≤ place) from (leb-true start place (and_parts (nat_le start place) _ is.1).0);
        first = λ k low high. rw (from, le-leb position k low) at (is.2 k high);
        within = is.0;
        there = there;
        goes = goes;
        comes = comes;
        taken = same_Some _ next e;
      }

  -- there is a next copy only within an instant
  pub taken_within : (world : World Num) (next : AfterCopy Num) → next_taken lent world ≡ Some next → (position : ℕ) × (world.position ≡ Some position)
  unfolding next_taken
  taken_within world next e = some_from world.position _ next e λ position here f. (position, here)

  pub onward_from : (world : World Num) (position : ℕ) (next : AfterCopy Num) (f : From world position next) → next.world.position ≡ Some (suc f.place)
  unfolding copy_taken
  onward_from world position next f = ap (λ (c : AfterCopy Num). c.world.position) (sym f.taken)

  -- What holds where no copy may be taken or none is left, and with one copy before others, holds of the next copies.
  module _
      (P : ℕ → World Num → Went Num → Type 0)
      (stops : (world : World Num) → P 0 world (record { events = []; world = world }))
      (none : (most : ℕ) (world : World Num) → next_taken lent world ≡ None → P (suc most) world (record { events = []; world = world }))
      (one : (most : ℕ) (world : World Num) (next : AfterCopy Num) (rest : Went Num) → next_taken lent world ≡ Some next → P most next.world rest → P (suc most) world (record { events = Takes next.copy ∷ rest.events; world = rest.world })) where
    pub copied : (most : ℕ) (world : World Num) → P most world (copies_taken lent most world)
    unfolding copies_taken
    copied zero world = stops world
    copied (suc most) world = by (copied most) (next_taken lent world) refl
      where
        by :
            ((world : World Num) → P most world (copies_taken lent most world)) → (o : Option (AfterCopy Num)) → next_taken lent world ≡ o
            → P (suc most) world (copies_taken lent (suc most) world)
        by rest None e = rw (e, copies_taken) (none most world e)
        by rest (Some next) e = rw (e, copies_taken) (one most world next (copies_taken lent most next.world) e (rest next.world))

  -- past the last link none is left
  pub past_last : (world : World Num) (position : ℕ) → world.position ≡ Some position → length (told_links lent.field) ≤ position → next_taken lent world ≡ None
  past_last world position here few = by (next_taken lent world) refl
    where
      by : (o : Option (AfterCopy Num)) → next_taken lent world ≡ o → next_taken lent world ≡ None
      by None e = e
      by (Some next) e = let f = carried_from world position next here e in absurd (omega (arith, f.onward, f.within))

  -- with as many copies as there are links from the position on, none is left
  pub none_left :
      (most position : ℕ) (world : World Num) → world.position ≡ Some position → length (told_links lent.field) ≤ position + most
      → next_taken lent (copies_taken lent most world).world ≡ None
  none_left most position world =
      copied (λ most world went. (position : ℕ) → world.position ≡ Some position → length (told_links lent.field) ≤ position + most → next_taken lent went.world ≡ None)
      (λ world position here few. past_last world position here (omega (arith, few)))
      (λ most world e position here few. e)
      (λ most world next rest e before position here few. let f = carried_from world position next here e in before (suc f.place) (onward_from world position next f) (omega (arith, f.onward)))
      most world position

  -- an instant that is done was granted, and had room
  pub record Gone (room : ℕ) (world : World Num) : Type 0 where
    pub next : World Num
    pub opens : opening lent world ≡ Ok next
    pub fits : nat_lt room (length (copies_in (instant_gone lent world).events)) ≡ false

  pub tried_done : (room : ℕ) (world : World Num) (gone : Went Num) → tried lent room world ≡ Done gone → Gone room world × (instant_gone lent world ≡ gone)
  unfolding tried
  tried_done room world gone e = by (opening lent world) refl (nat_lt room (length (copies_in (instant_gone lent world).events))) refl
    where
      ends : {A : Type 0} (ending : Ending) → Ends ending ≡ Done gone → A
      ends ending f = absurd cc

      by :
          (o : Result (World Num) RunFault) → opening lent world ≡ o → (b : Bool)
          → nat_lt room (length (copies_in (instant_gone lent world).events)) ≡ b → Gone room world × (instant_gone lent world ≡ gone)
      by (Err fault) o b s = ends (Refused fault) (rw (o, tried) at e)
      by (Ok next) o true s = ends LogShort (rw (o, s, tried) at e)
      by (Ok next) o false s = (record { next = next; opens = o; fits = s }, let f : Done (instant_gone lent world) ≡ Done gone = rw (o, s, tried) at e in cc)

  -- play ends before an instant that is not done, and goes on after one that is
  pub playing_ends : (budget room : ℕ) (world : World Num) (ending : Ending) → tried lent room world ≡ Ends ending → playing lent (suc budget) room world ≡ no_instant world ending
  unfolding playing
  playing_ends budget room world ending e = rw (e, playing)

  pub playing_done :
      (budget room : ℕ) (world : World Num) (gone : Went Num) → tried lent room world ≡ Done gone
      → playing lent (suc budget) room world ≡ went_on gone (playing lent budget (room - length (copies_in gone.events)) gone.world)
  unfolding playing
  playing_done budget room world gone e = rw (e, playing)

  -- What holds of a play that ends before its first instant, and of one instant before a play, holds of every play.
  module _
      (P : ℕ → ℕ → World Num → Played Num → Type 0)
      (spent : (room : ℕ) (world : World Num) → P 0 room world (no_instant world BudgetSpent))
      (ends : (budget room : ℕ) (world : World Num) (ending : Ending) → tried lent room world ≡ Ends ending → P (suc budget) room world (no_instant world ending))
      (one : (budget room : ℕ) (world : World Num) (gone : Went Num) (rest : Played Num) → tried lent room world ≡ Done gone → P budget (room - length (copies_in gone.events)) gone.world rest → P (suc budget) room world (went_on gone rest)) where
    pub played : (budget room : ℕ) (world : World Num) → P budget room world (playing lent budget room world)
    unfolding playing
    played zero room world = spent room world
    played (suc budget) room world = by (played budget) (tried lent room world) refl
      where
        by :
            ((room : ℕ) (world : World Num) → P budget room world (playing lent budget room world)) → (t : Tried Num) → tried lent room world ≡ t
            → P (suc budget) room world (playing lent (suc budget) room world)
        by rest (Ends ending) e = rw (playing_ends budget room world ending e) (ends budget room world ending e)
        by rest (Done gone) e = let left = room - length (copies_in gone.events) in rw (playing_done budget room world gone e) (one budget room world gone (playing lent budget left gone.world) e (rest left gone.world))

  -- an instant that is done is closed
  pub closed_between : (world : World Num) → (instant_gone lent world).world.position ≡ None
  unfolding instant_gone world_closed
  closed_between world = refl

  -- a call is one between instants, or one within an instant
  pub called_either :
      (P : Outcome Num → Type 0) (world : World Num) (call : Call Num) → (world.position ≡ None → P (called_between lent world call))
      → ((position : ℕ) → world.position ≡ Some position → P (called_within lent world call)) → P (called lent world call)
  unfolding called
  called_either P world call between within = by world.position between within
    where
      by :
          (o : Option ℕ) → (o ≡ None → P (called_between lent world call)) → ((position : ℕ) → o ≡ Some position → P (called_within lent world call))
          → P (elim o [ None ↦ called_between lent world call | Some position ↦ called_within lent world call ])
      by None between within = between refl
      by (Some position) between within = within position refl

  -- how a call can come out: it only answers, or it is granted and moves the run on
  pub record Ways (world : World Num) (P : Outcome Num → Type 0) : Type 0 where
    pub declines : (fault : RunFault) → P (only_answers lent world (Declines fault))
    pub not_let : P (only_answers lent world NotLet)
    pub shows : (row : Row Num) → P (only_answers lent world (Shows row))
    pub none_left : P (only_answers lent world (Copied None))
    pub opens : (next : World Num) → world.position ≡ None → opening lent world ≡ Ok next → P (record { answer = Granted; events = open_events world next; world = next })
    pub takes : (position : ℕ) (next : AfterCopy Num) → world.position ≡ Some position → carrying lent world ≡ Ok (Some next) → P (record { answer = Copied (Some next.copy); events = Takes next.copy ∷ []; world = next.world })
    pub closes : (position : ℕ) (next : World Num) → world.position ≡ Some position → closing lent.field world ≡ Ok next → P (record { answer = Granted; events = []; world = next })
    pub damages : (damage : Damage Num) (next : World Num) → world.position ≡ None → damaging lent.field damage world ≡ Ok next → P (record { answer = Granted; events = Damages ∷ []; world = next })
    pub plays : (budget room : ℕ) → world.position ≡ None → P (plays_on lent world (playing lent budget room world))

  pub called_by : (world : World Num) (P : Outcome Num → Type 0) (call : Call Num) → Ways world P → P (called lent world call)
  called_by world P call ways = called_either P world call (between call) (within call)
    where
      opened : world.position ≡ None → (o : Result (World Num) RunFault) → opening lent world ≡ o → P (moves_on lent world (open_events world) o)
      opened here (Ok next) e = ways.opens next here e
      opened here (Err fault) e = ways.declines fault

      damaged :
          (damage : Damage Num) → world.position ≡ None → (o : Result (World Num) RunFault) → damaging lent.field damage world ≡ o
          → P (moves_on lent world (λ next. Damages ∷ []) o)
      damaged damage here (Ok next) e = ways.damages damage next here e
      damaged damage here (Err fault) e = ways.declines fault

      shown : (o : Result (Row Num) RunFault) → P (shows lent world o)
      shown (Ok row) = ways.shows row
      shown (Err fault) = ways.declines fault

      between : (call : Call Num) → world.position ≡ None → P (called_between lent world call)
      between Open here = opened here (opening lent world) refl
      between Carry here = ways.not_let
      between Close here = ways.not_let
      between (Damaging damage) here = damaged damage here (damaging lent.field damage world) refl
      between (Look sensor) here = shown (looking lent.field sensor world)
      between (Play budget room) here = ways.plays budget room here

      carried : (position : ℕ) → world.position ≡ Some position → (o : Result (Option (AfterCopy Num)) RunFault) → carrying lent world ≡ o → P (takes_on lent world o)
      carried position here (Ok None) e = ways.none_left
      carried position here (Ok (Some next)) e = ways.takes position next here e
      carried position here (Err fault) e = ways.declines fault

      closed : (position : ℕ) → world.position ≡ Some position → (o : Result (World Num) RunFault) → closing lent.field world ≡ o → P (moves_on lent world (λ next. []) o)
      closed position here (Ok next) e = ways.closes position next here e
      closed position here (Err fault) e = ways.declines fault

      within : (call : Call Num) (position : ℕ) → world.position ≡ Some position → P (called_within lent world call)
      within Open position here = ways.not_let
      within Carry position here = carried position here (carrying lent world) refl
      within Close position here = closed position here (closing lent.field world) refl
      within (Damaging damage) position here = ways.not_let
      within (Look sensor) position here = ways.not_let
      within (Play budget room) position here = ways.not_let

module _ {Num A : Type 0} (lent : Lent Num) (note : A → Event Num → A) (P : World Num → A → Type 0) where
  -- what every step keeps
  pub record Steps : Type 0 where
    pub opens : (world next : World Num) (a : A) → P world a → world.position ≡ None → opening lent world ≡ Ok next → P next (through note a (open_events world next))
    pub takes :
        (world : World Num) (position : ℕ) (next : AfterCopy Num) (a : A) → P world a → world.position ≡ Some position
        → next_taken lent world ≡ Some next → P next.world (note a (Takes next.copy))
    pub closes : (world : World Num) (position : ℕ) (a : A) → P world a → world.position ≡ Some position → next_taken lent world ≡ None → P (world_closed lent.field world) a
    pub damages : (world next : World Num) (damage : Damage Num) (a : A) → P world a → world.position ≡ None → damaging lent.field damage world ≡ Ok next → P next (note a Damages)

  module _ (steps : Steps) where
    pub copies_kept :
        (most : ℕ) (world : World Num) (a : A) (position : ℕ) → P world a → world.position ≡ Some position
        → (last : ℕ) × ((copies_taken lent most world).world.position ≡ Some last) × P (copies_taken lent most world).world (through note a (copies_taken lent most world).events)
    unfolding through
    copies_kept =
        copied lent (λ most world went. (a : A) (position : ℕ) → P world a → world.position ≡ Some position → (last : ℕ) × (went.world.position ≡ Some last) × P went.world (through note a went.events))
        (λ world a position p here. (position, here, p)) (λ most world e a position p here. (position, here, p))
        (λ most world next rest e before a position p here.
        let f = carried_from lent world position next here e in
        before (note a (Takes next.copy)) (suc f.place) (steps.takes world position next a p here e) (onward_from lent world position next f))

    pub instant_kept :
        (world next : World Num) (a : A) → P world a → world.position ≡ None → opening lent world ≡ Ok next
        → P (instant_gone lent world).world (through note a (instant_gone lent world).events)
    unfolding instant_gone world_opened
    instant_kept world next a p here opens =
        let opened = world_opened lent world in
        let links = length (told_links lent.field) in
        let events = (copies_taken lent links opened).events in
        let p = subst (λ (w : World Num). P w (through note a (open_events world w))) (sym (opening_is lent world next opens)) (steps.opens world next a p here opens) in
        let gone = copies_kept links opened (through note a (open_events world opened)) 0 p refl in
        rw (through_joined note (open_events world opened) events a) (steps.closes _ gone.0 _ gone.2 gone.1 (none_left lent links 0 opened refl (omega arith)))

    pub play_kept :
        (budget room : ℕ) (world : World Num) (a : A) → P world a → world.position ≡ None
        → P (playing lent budget room world).world (through note a (playing lent budget room world).events)
    unfolding through
    play_kept =
        played lent (λ budget room world went. (a : A) → P world a → world.position ≡ None → P went.world (through note a went.events))
        (λ room world a p here. p) (λ budget room world ending e a p here. p)
        (λ budget room world gone rest e before a p here.
        let done = tried_done lent room world gone e in
        let first = subst (λ (g : Went Num). P g.world (through note a g.events)) done.1 (instant_kept world done.0.next a p here done.0.opens) in
        rw (through_joined note gone.events rest.events a) (before (through note a gone.events) first (ap (λ (g : Went Num). g.world.position) (sym done.1) ∙ closed_between lent world)))

    pub called_kept : (call : Call Num) (world : World Num) (a : A) → P world a → P (called lent world call).world (through note a (called lent world call).events)
    unfolding through
    called_kept call world a p = called_by lent world (λ o. P o.world (through note a o.events)) call (record {
      declines = λ fault. p;
      not_let = p;
      shows = λ row. p;
      none_left = p;
      opens = λ next here e. steps.opens world next a p here e;
      takes = λ position next here e. steps.takes world position next a p here (ok_is _ (Some next) (granted_ok _ _ (Some next) e));
      closes = λ position next here e. (let c = closing_is lent world next e in subst (λ (w : World Num). P w a) c.1 (steps.closes world position a p here c.0));
      damages = λ damage next here e. steps.damages world next damage a p here e;
      plays = λ budget room here. play_kept budget room world a p here;
    })

    pub kept : (calls : List (Call Num)) (world : World Num) (a : A) → P world a → P (history lent calls world).world (through note a (history lent calls world).events)
    unfolding history through
    kept [] world a p = p
    kept (call ∷ calls) world a p =
        rw (through_joined note (called lent world call).events (history lent calls (called lent world call).world).events a)
        (kept calls (called lent world call).world (through note a (called lent world call).events) (called_kept call world a p))
