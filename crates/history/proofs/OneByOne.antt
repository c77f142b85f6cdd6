-- Play is its calls one by one. Assumes nothing.
use Rattle.std.proofs.Common.{◌≡◌, ℕ, suc, true, List, [], ◌∷◌, ◌++◌, length, Some, None, Ok, Option, sym, refl, ap, ◌∙◌, subst, arith}
use Rattle.std.proofs.lemmas.Bool.{and_from}
use Rattle.std.proofs.lemmas.List.{append_assoc}
use Rattle.air.specs.Delays.{KeepsPeriods}
use Rattle.numbering.specs.Meaning.{KeepsLawful}
use Rattle.history.specs.Calls.{AfterCopy, opening, world_opened, next_taken, world_closed}
use Rattle.history.specs.Histories.{Call, Outcome, called_between, called_within, called, history, moves_on, OnceBegun}
use Rattle.history.specs.Histories.Call.{Open, Carry, Close}
use Rattle.history.specs.Histories.Answer.{Granted, Copied}
use Rattle.history.specs.Limits.{LinksKeep, InLimits}
use Rattle.history.specs.OneByOne.{of_instants, goes_through, OneByOne, PlaysOneByOne}
use Rattle.history.specs.Plays.{Event, Went, open_events, copies_taken, instant_gone, playing}
use Rattle.history.specs.Plays.Event.{Takes}
use Rattle.history.specs.Worlds.{Field, Lent, World, told_links}
use Rattle.vetting.specs.declared.Named.TheVariants.{Nothing}
use Rattle.history.proofs.Checks.{check_passes, names_nothing, links_kept}
use Rattle.history.proofs.Kept.{opening_is, carried_from, onward_from, copied, none_left, tried_done, played, closed_between}
use Rattle.history.proofs.Limits.{begun_in_limits, history_in_limits, opened_in_limits, taken_in_limits, copies_in_limits, instant_in_limits, left_is_taken}

module _ {Num : Type 0} (lent : Lent Num) where
  no_calls : (world : World Num) → OneByOne lent world [] world
  unfolding history
  no_calls world = record { calls = []; each = refl; go_through = refl; happens = refl; leads = refl }

  -- one call more, before the others
  first :
      (world : World Num) (call : Call Num) (outcome : Outcome Num) → called lent world call ≡ outcome
      → of_instants call ≡ true → goes_through outcome.answer ≡ true
      → (events : List (Event Num)) (after : World Num) → OneByOne lent outcome.world events after → OneByOne lent world (outcome.events ++ events) after
  unfolding history
  first world call outcome e each goes events after rest = record {
    calls = call ∷ rest.calls;
    each = and_from _ _ each rest.each;
    go_through = rw e (and_from _ _ goes rest.go_through);
    happens = rw e (ap (λ (xs : List (Event Num)). outcome.events ++ xs) rest.happens);
    leads = rw e rest.leads;
  }

  between_is : (world : World Num) (call : Call Num) → world.position ≡ None → called lent world call ≡ called_between lent world call
  unfolding called
  between_is world call = ap (λ (o : Option ℕ). elim o [ None ↦ called_between lent world call | Some position ↦ called_within lent world call ])

  within_is : (world : World Num) (call : Call Num) (position : ℕ) → world.position ≡ Some position → called lent world call ≡ called_within lent world call
  unfolding called
  within_is world call position = ap (λ (o : Option ℕ). elim o [ None ↦ called_between lent world call | Some position ↦ called_within lent world call ])

  -- open, as it is granted
  opens : (world next : World Num) → world.position ≡ None → opening lent world ≡ Ok next → called lent world Open ≡ record { answer = Granted; events = open_events world next; world = next }
  opens world next here granted = between_is world Open here ∙ ap (moves_on lent world (open_events world)) granted

module _
    {Num : Type 0} (lent : Lent Num) (lawful : KeepsLawful lent.field.numbering) (periods : KeepsPeriods lent.period)
    (links : LinksKeep lent.field) where
  -- carry, where a copy is left, and close, where none is
  carries :
      (world : World Num) (position : ℕ) (next : AfterCopy Num) → InLimits lent.field world → world.position ≡ Some position → next_taken lent world ≡ Some next
      → called lent world Carry ≡ record { answer = Copied (Some next.copy); events = Takes next.copy ∷ []; world = next.world }
  carries world position next limits here some = within_is lent world Carry position here ∙ rw (check_passes lent.field links world limits Nothing (names_nothing lent.field) (Some position) here, some) refl

  closes :
      (world : World Num) (position : ℕ) → InLimits lent.field world → world.position ≡ Some position → next_taken lent world ≡ None
      → called lent world Close ≡ record { answer = Granted; events = []; world = world_closed lent.field world }
  closes world position limits here none = within_is lent world Close position here ∙ rw (check_passes lent.field links world limits Nothing (names_nothing lent.field) (Some position) here, left_is_taken lent links world limits.rows_there, none) refl

  -- the copies of an open instant, before the calls that follow them
  copies_first :
      (most position : ℕ) (world : World Num) → InLimits lent.field world → world.position ≡ Some position
      → (events : List (Event Num)) (after : World Num) → OneByOne lent (copies_taken lent most world).world events after → OneByOne lent world ((copies_taken lent most world).events ++ events) after
  copies_first most position world =
      copied lent
      (λ most world went. (position : ℕ) → InLimits lent.field world → world.position ≡ Some position → (events : List (Event Num)) (after : World Num) → OneByOne lent went.world events after → OneByOne lent world (went.events ++ events) after)
      (λ world position limits here events after rest. rest) (λ most world e position limits here events after rest. rest)
      (λ most world next gone e before position limits here events after rest.
      let f = carried_from lent world position next here e in
      first lent world Carry _ (carries world position next limits here e) refl refl _ after
      (before (suc f.place) (taken_in_limits lent links world position next here e limits) (onward_from lent world position next f) events after rest))
      most world position

  -- a whole instant
  instant_first :
      (world next : World Num) → InLimits lent.field world → world.position ≡ None → opening lent world ≡ Ok next
      → (events : List (Event Num)) (after : World Num) → OneByOne lent (instant_gone lent world).world events after → OneByOne lent world ((instant_gone lent world).events ++ events) after
  unfolding instant_gone world_opened
  instant_first world next limits here granted events after rest =
      let opened = world_opened lent world in
      let count = length (told_links lent.field) in
      let grants : opening lent world ≡ Ok opened = granted ∙ ap Ok (sym (opening_is lent world next granted)) in
      let inside = opened_in_limits lent lawful periods world opened here grants limits in
      let left = copies_in_limits lent lawful periods links count 0 opened refl inside in
      let gone = copies_taken lent count opened in
      let none = none_left lent count 0 opened refl (omega arith) in
      rw (append_assoc (open_events world opened) gone.events events)
      (first lent world Open _ (opens lent world opened here grants) refl refl _ after
      (copies_first count 0 opened inside refl events after
      (first lent gone.world Close _ (closes gone.world left.0 left.2 left.1 none) refl refl events after rest)))

  -- Play is its calls one by one.
  plays_one_by_one :
      (budget room : ℕ) (world : World Num) → InLimits lent.field world → world.position ≡ None → OneByOne lent world (playing lent budget room world).events (playing lent budget room world).world
  plays_one_by_one =
      played lent (λ budget room world gone. InLimits lent.field world → world.position ≡ None → OneByOne lent world gone.events gone.world)
      (λ room world limits here. no_calls lent world) (λ budget room world ending e limits here. no_calls lent world)
      (λ budget room world gone rest e before limits here.
      let done = tried_done lent room world gone e in
      let one = instant_gone lent world in
      let within = instant_in_limits lent lawful periods links world done.0.next here done.0.opens limits in
      let go_on = before (subst (λ (g : Went Num). InLimits lent.field g.world) done.1 within) (subst (λ (g : Went Num). g.world.position ≡ None) done.1 (closed_between lent world)) in
      subst (λ (g : Went Num). OneByOne lent g.world rest.events rest.world → OneByOne lent world (g.events ++ rest.events) rest.world) done.1 (instant_first world done.0.next limits here done.0.opens rest.events rest.world) go_on)

pub play_is_its_calls :
    {Num : Type 0} (field : Field Num) → KeepsLawful field.numbering → OnceBegun field PlaysOneByOne
unfolding PlaysOneByOne
play_is_its_calls {Num} field lawful rows senders world e period carries periods calls budget room =
    let lent : Lent Num = record { field = field; period = period; carries = carries } in
    let links = links_kept field rows senders world e in
    let limits = history_in_limits lent lawful periods links calls world (begun_in_limits field rows senders world e) in
    plays_one_by_one lent lawful periods links budget room (history lent calls world).world limits
