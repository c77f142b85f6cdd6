-- Play of a budget is play of its parts and ends as it is said to, and what every call keeps. Assumes nothing.
use Rattle.std.proofs.Common.{◌≡◌, ℕ, zero, suc, ◌+◌, ◌<◌, ◌≤◌, ◌⊎◌, inl, inr, Bool, true, false, cond, List, [], ◌∷◌, ◌++◌, length, is_ok, Some, None, Ok, Err, Option, Result, count_by, sym, refl, ap, ◌∙◌, subst, arith, zero-add, suc-add, ltb-true, ltb-false, append_assoc}
use Rattle.std.proofs.Math.Nat.{sub-zero}
use Rattle.std.proofs.lemmas.List.{length-append, drop-set-lt}
use Rattle.std.proofs.lemmas.List.Sums.{sum_by-append, sum_by-cons}
use Rattle.std.specs.Prelude.{◌-◌, nat_lt, drop}
use Rattle.field.specs.declared.Message.{Message}
use Rattle.field.specs.declared.Row.{Row}
use Rattle.flood.specs.Instants.{changed}
use Rattle.history.proofs.Kept.{opening_passed, closing_passed, no_instant, went_on, tried_done, playing_ends, playing_done, played, copied, called_either, called_by, granted_first, opening_is, carried_from, Steps, called_kept}
use Rattle.history.proofs.Checks.{check_gives, damaging_gives}
use Rattle.history.proofs.Limits.{link_gives}
use Rattle.history.proofs.ToCome.{all_to_come, at_most}
use Rattle.flood.specs.Copies.{outgoing_of}
use Rattle.history.specs.Calls.{AfterCopy, opening, looking, world_opened, world_closed, world_damaged, copy_taken}
use Rattle.vetting.specs.declared.Named.TheVariants.{Nothing, Damaged}
use Rattle.history.specs.Counted.{opens}
use Rattle.history.specs.Histories.{Call, Answer, called, history, shows}
use Rattle.history.specs.Histories.Call.{Carry, Look}
use Rattle.history.specs.Histories.Answer.{Granted, Copied, Shows, Plays, Declines, NotLet}
use Rattle.history.specs.Limits.{LinksKeep}
use Rattle.history.specs.PlayLaws.{together, past, ChangesNothing, copies_of, copies_told, playing_on, EndsAs, PlayEnds, PlayLaws, CallLaws}
use Rattle.history.specs.Plays.{Event, Went, Played, Tried, open_events, copies_in, copies_taken, instant_gone, tried, playing}
use Rattle.history.specs.Plays.Event.{Damages, Opens, Begins, Takes}
use Rattle.history.specs.Plays.Tried.{Ends, Done}
use Rattle.history.specs.Worlds.{Lent, World, told_links}
use Rattle.history.specs.declared.taking.Ending.{Ending}
use Rattle.history.specs.declared.taking.Ending.TheVariants.{BudgetSpent, LogShort, Refused}
use Rattle.history.specs.declared.taking.TakenCopy.{TakenCopy}
use Rattle.refusal.specs.declared.RunFault.{RunFault}

module _ {Num : Type 0} where
  pub joined : (xs ys : List (Event Num)) → copies_in (xs ++ ys) ≡ copies_in xs ++ copies_in ys
  unfolding copies_in
  joined [] ys = refl
  joined (Damages ∷ xs) ys = joined xs ys
  joined (Opens ∷ xs) ys = joined xs ys
  joined (Begins number rows ∷ xs) ys = joined xs ys
  joined (Takes copy ∷ xs) ys = ap (λ (zs : List (TakenCopy Num)). copy ∷ zs) (joined xs ys)

  copies_joined : (xs ys : List (Event Num)) → length (copies_in (xs ++ ys)) ≡ length (copies_in xs) + length (copies_in ys)
  copies_joined xs ys = ap length (joined xs ys) ∙ length-append (copies_in xs) (copies_in ys)

  room_left : (room : ℕ) (xs ys : List (Event Num)) → room - length (copies_in xs) - length (copies_in ys) ≡ room - length (copies_in (xs ++ ys))
  room_left room xs ys = omega (arith, copies_joined xs ys)

  -- as an instant opens there is one open, and no copy
  opened : (before after : World Num) → (count_by opens (open_events before after) ≡ 1) × (copies_in (open_events before after) ≡ [])
  unfolding open_events copies_in
  opened before after = by (outgoing_of after.rows 0)
    where
      by :
          (o : Option (Message Num)) → let events : List (Event Num) = Opens ∷ elim o [ None ↦ [] | Some message ↦ Begins message.number before.rows ∷ [] ] in
          (count_by opens events ≡ 1) × (copies_in events ≡ [])
      by None = (refl, refl)
      by (Some message) = (refl, refl)

-- what a change of the first n items leaves
past_changed : {A : Type 0} (change : ℕ → A → A) (place n : ℕ) (xs : List A) → drop n (changed change place n xs) ≡ drop n xs
unfolding changed
past_changed change place n [] = refl
past_changed change place zero (x ∷ xs) = refl
past_changed change place (suc n) (x ∷ xs) = past_changed change (suc place) n xs

module _ {Num : Type 0} (lent : Lent Num) where
  -- why an instant is not done, where one is left
  tried_ends : (left room : ℕ) (world : World Num) (ending : Ending) → 0 < left → tried lent room world ≡ Ends ending → EndsAs lent left room world ending
  unfolding tried
  tried_ends left room world ending some e = by (opening lent world) refl (nat_lt room (length (copies_in (instant_gone lent world).events))) refl
    where
      is : (why : Ending) → EndsAs lent left room world why → ◌≡◌ {A = Tried Num} (Ends why) (Ends ending) → EndsAs lent left room world ending
      is why holds f = let same : why ≡ ending = cc in subst (EndsAs lent left room world) same holds

      by :
          (o : Result (World Num) RunFault) → opening lent world ≡ o → (b : Bool)
          → nat_lt room (length (copies_in (instant_gone lent world).events)) ≡ b → EndsAs lent left room world ending
      by (Err fault) o b s = is (Refused fault) (some, o) (rw (o, tried) at e)
      by (Ok next) o true s = is LogShort (some, ap is_ok o, ltb-true room _ s) (rw (o, s, tried) at e)
      by (Ok next) o false s = let f : Done (instant_gone lent world) ≡ Ends ending = rw (o, s, tried) at e in absurd cc

  one_open : (world : World Num) → count_by opens (instant_gone lent world).events ≡ 1
  unfolding instant_gone
  one_open world =
      let first = world_opened lent world in
      let links = length (told_links lent.field) in
      sum_by-append ones (open_events world first) (copies_taken lent links first).events ∙ omega (arith, (opened world first).0, none links first)
    where
      ones : Event Num → ℕ
      ones event = cond (opens event) 1 0

      none : (most : ℕ) (world : World Num) → count_by opens (copies_taken lent most world).events ≡ 0
      none = copied lent (λ most world went. count_by opens went.events ≡ 0) (λ world. refl) (λ most world e. refl) (λ most world next rest e before. sum_by-cons ones (Takes next.copy) rest.events ∙ omega (arith, before))

  within_budget : (budget room : ℕ) (world : World Num) → (playing lent budget room world).instants ≤ budget
  within_budget = played lent (λ budget room world p. p.instants ≤ budget) (λ room world. omega arith) (λ budget room world ending e. omega arith) (λ budget room world gone rest e before. omega (arith, before))

  within_room : (budget room : ℕ) (world : World Num) → length (copies_in (playing lent budget room world).events) ≤ room
  unfolding copies_in
  within_room =
      played lent (λ budget room world p. length (copies_in p.events) ≤ room) (λ room world. omega arith) (λ budget room world ending e. omega arith)
      (λ budget room world gone rest e before. omega (arith, before, copies_joined gone.events rest.events, has_room room world gone e))
    where
      has_room : (room : ℕ) (world : World Num) (gone : Went Num) → tried lent room world ≡ Done gone → length (copies_in gone.events) ≤ room
      has_room room world gone e =
          let one = tried_done lent room world gone e in
          subst (λ (g : Went Num). length (copies_in g.events) ≤ room) one.1 (ltb-false room _ one.0.fits)

  play_ends : (budget room : ℕ) (world : World Num) → PlayEnds lent budget room world (playing lent budget room world)
  unfolding copies_in playing
  play_ends =
      played lent (PlayEnds lent)
      (λ room world. record { instants = refl; stands = refl; ends = refl })
      (λ budget room world ending e. record { instants = refl; stands = refl; ends = rw (sub-zero (suc budget), sub-zero room) (tried_ends (suc budget) room world ending (omega arith) e) })
      (λ budget room world gone rest e before.
      let open_one : count_by opens gone.events ≡ 1 = subst (λ (g : Went Num). count_by opens g.events ≡ 1) (tried_done lent room world gone e).1 (one_open world) in
      record {
        instants = sym (sum_by-append (λ (event : Event Num). cond (opens event) 1 0) gone.events rest.events ∙ omega (arith, before.instants, open_one));
        stands = playing_done lent rest.instants room world gone e ∙ ap (went_on gone) before.stands;
        ends = rw (sym (less budget rest.instants), sym (room_left room gone.events rest.events)) before.ends;
      })
    where
      less : (budget instants : ℕ) → budget - instants ≡ suc budget - suc instants
      less budget instants = omega arith

  went_past : (ending : Ending) (gone : Went Num) (first rest : Played Num) → went_on gone (past ending first rest) ≡ past ending (went_on gone first) rest
  went_past BudgetSpent gone first rest =
      ap (λ (i : ℕ). record { instants = i; events = gone.events ++ (first.events ++ rest.events); world = rest.world; ending = rest.ending }) (sym (suc-add first.instants rest.instants))
      ∙ ap (λ (events : List (Event Num)). record { instants = suc first.instants + rest.instants; events = events; world = rest.world; ending = rest.ending }) (sym (append_assoc gone.events first.events rest.events))
  went_past LogShort gone first rest = refl
  went_past (Refused fault) gone first rest = refl

  goes_on : (budget more room : ℕ) (world : World Num) → playing lent (budget + more) room world ≡ playing_on lent budget more room world
  unfolding copies_in
  goes_on budget more room world =
      played lent (λ budget room world p. playing lent (budget + more) room world ≡ past p.ending p (playing lent more (room - length (copies_in p.events)) p.world))
      (λ room world. rw (zero-add more, sub-zero room) (sym (nothing_first room world (playing lent more room world))))
      (λ budget room world ending e. ended budget room world ending e)
      (λ budget room world gone rest e before.
      rw (suc-add budget more)
      (playing_done lent (budget + more) room world gone e ∙ ap (went_on gone) before ∙ went_past rest.ending gone rest _
      ∙ ap (λ (left : ℕ). past rest.ending (went_on gone rest) (playing lent more left rest.world)) (room_left room gone.events rest.events)))
      budget room world
    where
      nothing_first : (room : ℕ) (world : World Num) (rest : Played Num) → together (no_instant world BudgetSpent) rest ≡ rest
      nothing_first room world rest = ap (λ (i : ℕ). record { instants = i; events = rest.events; world = rest.world; ending = rest.ending }) (zero-add rest.instants)

      ended :
          (budget room : ℕ) (world : World Num) (ending : Ending) → tried lent room world ≡ Ends ending
          → playing lent (suc budget + more) room world
          ≡ past ending (no_instant world ending) (playing lent more (room - length (copies_in {Num = Num} [])) world)
      ended budget room world BudgetSpent e = absurd (omega (arith, tried_ends 1 room world BudgetSpent (omega arith) e))
      ended budget room world LogShort e = rw (suc-add budget more) (playing_ends lent (budget + more) room world LogShort e)
      ended budget room world (Refused fault) e = rw (suc-add budget more) (playing_ends lent (budget + more) room world (Refused fault) e)

  -- the copies of an instant are those that are taken once it is open
  pub instant_copies : (world : World Num) → copies_in (instant_gone lent world).events ≡ copies_in (copies_taken lent (length (told_links lent.field)) (world_opened lent world)).events
  unfolding instant_gone
  instant_copies world = let first = world_opened lent world in joined (open_events world first) _ ∙ rw (opened world first).1 refl

  pub play_laws : PlayLaws lent
  play_laws = record {
    goes_on = goes_on;
    within_budget = within_budget;
    within_room = within_room;
    ends = play_ends;
    to_come = λ world next granted. ap length (instant_copies world) ∙ all_to_come lent world next granted;
    few_copies = λ world. rw (instant_copies world) (at_most lent _ (world_opened lent world));
  }

  -- the answers of calls that move a run on
  moves : Answer Num → Bool
  moves Granted = true
  moves (Copied None) = false
  moves (Copied (Some copy)) = true
  moves (Shows row) = false
  moves (Plays instants copies ending) = true
  moves (Declines fault) = false
  moves NotLet = false

  -- any other call changes nothing
  still : (world : World Num) (call : Call Num) → moves (called lent world call).answer ≡ false → ChangesNothing world (called lent world call)
  unfolding moves
  still world call = called_by lent world (λ outcome. moves outcome.answer ≡ false → ChangesNothing world outcome) call (record {
    declines = λ fault e. (refl, refl);
    not_let = λ e. (refl, refl);
    shows = λ row e. (refl, refl);
    none_left = λ e. (refl, refl);
    opens = λ next here granted e. absurd cc;
    takes = λ position next here granted e. absurd cc;
    closes = λ position next here granted e. absurd cc;
    damages = λ damage next here granted e. absurd cc;
    plays = λ budget room here e. absurd cc;
  })

  looks : (world : World Num) (sensor : ℕ) → ChangesNothing world (called lent world (Look sensor))
  looks world sensor = called_either lent (ChangesNothing world) world (Look sensor) (λ here. shown (looking lent.field sensor world)) (λ position here. (refl, refl))
    where
      shown : (o : Result (Row Num) RunFault) → ChangesNothing world (shows lent world o)
      shown (Ok row) = (refl, refl)
      shown (Err fault) = (refl, refl)

  -- a call tells the copies that happen in it
  told : (world : World Num) (call : Call Num) → copies_of (called lent world call).answer ≡ copies_in (called lent world call).events
  unfolding copies_in
  told world call = called_by lent world (λ outcome. copies_of outcome.answer ≡ copies_in outcome.events) call (record {
    declines = λ fault. refl;
    not_let = refl;
    shows = λ row. refl;
    none_left = refl;
    opens = λ next here granted. sym (opened world next).1;
    takes = λ position next here granted. refl;
    closes = λ position next here granted. refl;
    damages = λ damage next here granted. refl;
    plays = λ budget room here. refl;
  })

  tells : (calls : List (Call Num)) (world : World Num) → copies_told (history lent calls world).answers ≡ copies_in (history lent calls world).events
  unfolding history copies_told copies_in
  tells [] world = refl
  tells (call ∷ calls) world =
      let first = called lent world call in
      rw (told world call, tells calls first.world) (sym (joined first.events (history lent calls first.world).events))

  abbrev n : ℕ
  n = lent.field.settings.n

  -- past n all is as it was
  abbrev PastAsWas : World Num → World Num → Type 0
  PastAsWas before after = (drop n after.rows ≡ drop n before.rows) × (drop n after.senders ≡ drop n before.senders)

  past_steps : LinksKeep lent.field → (before : World Num) → Steps lent (λ (t : Unit {0}) event. t) (λ after t. PastAsWas before after)
  unfolding world_opened world_closed world_damaged copy_taken
  past_steps links before = record {
    opens = λ world next t p here granted. subst (PastAsWas before) (opening_is lent world next granted) (past_changed _ 0 n world.rows ∙ p.0, past_changed _ 0 n world.senders ∙ p.1);
    takes = λ world position next t p here some.
        let f = carried_from lent world position next here some in
        subst (λ (c : AfterCopy Num). PastAsWas before c.world) f.taken (drop-set-lt n world.rows f.link.to _ (link_gives lent.field links f.place f.link f.there).1 ∙ p.0, p.1);
    closes = λ world position t p here none. (past_changed _ 0 n world.rows ∙ p.0, past_changed _ 0 n world.senders ∙ p.1);
    damages = λ world next damage t p here granted.
        let gives = damaging_gives lent world next damage granted in
        subst (PastAsWas before) (sym gives.0) (drop-set-lt n world.rows damage.sensor _ gives.1 ∙ p.0, p.1);
  }

  -- settings and told count stay, whatever is called
  abbrev HoldsBoth : World Num → World Num → Type 0
  HoldsBoth before after = (after.settings ≡ before.settings) × (after.count ≡ before.count)

  holds_steps : (before : World Num) → Steps lent (λ (t : Unit {0}) event. t) (λ after t. HoldsBoth before after)
  unfolding world_opened world_closed world_damaged copy_taken
  holds_steps before = record {
    opens = λ world next t p here granted. subst (HoldsBoth before) (opening_is lent world next granted) p;
    takes = λ world position next t p here some. subst (λ (c : AfterCopy Num). HoldsBoth before c.world) (carried_from lent world position next here some).taken p;
    closes = λ world position t p here none. p;
    damages = λ world next damage t p here granted. subst (HoldsBoth before) (sym (damaging_gives lent world next damage granted).0) p;
  }

  holds_both : (world : World Num) (call : Call Num) → HoldsBoth world (called lent world call).world
  holds_both world call = called_kept lent (λ t event. t) (λ after t. HoldsBoth world after) (holds_steps world) call world tt (refl, refl)

  -- what alters anything has passed a check
  checks_links : (world : World Num) (call : Call Num) → LinksKeep lent.field ⊎ ((called lent world call).world ≡ world)
  checks_links world call = called_by lent world (λ outcome. LinksKeep lent.field ⊎ (outcome.world ≡ world)) call (record {
    declines = λ fault. inr refl;
    not_let = inr refl;
    shows = λ row. inr refl;
    none_left = inr refl;
    opens = λ next here granted. inl (opens_links world next here granted);
    takes = λ position next here granted. inl (check_gives lent.field Nothing world (Some position) here (granted_first _ _ (Some next) granted)).0;
    closes = λ position next here granted. inl (check_gives lent.field Nothing world (Some position) here (closing_passed lent world next granted)).0;
    damages = λ damage next here granted. inl (check_gives lent.field (Damaged damage) world None here (granted_first _ _ next granted)).0;
    plays = λ budget room here. plays budget room world here;
  })
    where
      opens_links : (world next : World Num) → world.position ≡ None → opening lent world ≡ Ok next → LinksKeep lent.field
      opens_links world next here granted = (check_gives lent.field Nothing world None here (opening_passed lent world next granted)).0

      plays : (budget room : ℕ) (world : World Num) → world.position ≡ None → LinksKeep lent.field ⊎ ((playing lent budget room world).world ≡ world)
      plays =
          played lent (λ budget room world p. world.position ≡ None → LinksKeep lent.field ⊎ (p.world ≡ world)) (λ room world here. inr refl) (λ budget room world ending e here. inr refl)
          (λ budget room world gone rest e before here. let done = tried_done lent room world gone e in inl (opens_links world done.0.next here done.0.opens))

  past_as_was : (world : World Num) (call : Call Num) → PastAsWas world (called lent world call).world
  past_as_was world call = by (checks_links world call)
    where
      by : LinksKeep lent.field ⊎ ((called lent world call).world ≡ world) → PastAsWas world (called lent world call).world
      by (inl links) = called_kept lent (λ t event. t) (λ after t. PastAsWas world after) (past_steps links world) call world tt (refl, refl)
      by (inr same) = rw same (refl, refl)

  pub call_laws : CallLaws lent
  unfolding moves
  call_laws = record {
    declines = λ world call fault e. still world call (ap moves e);
    not_let = λ world call e. still world call (ap moves e);
    looks = looks;
    none_left = λ world e. still world Carry (ap moves e);
    none_again = λ world e. ap (λ (w : World Num). called lent w Carry) (still world Carry (ap moves e)).0;
    tells = tells;
    holds_settings = λ world call. (holds_both world call).0;
    holds_count = λ world call. (holds_both world call).1;
    past_rows = λ world call. (past_as_was world call).0;
    past_bytes = λ world call. (past_as_was world call).1;
  }
