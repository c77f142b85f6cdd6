-- What a run has counted is what has happened in it. Assumes nothing.
use Rattle.std.proofs.Common.{◌≡◌, ℕ, ◌+◌, Bool, true, false, cond, not, List, [], ◌∷◌, is_some, Some, None, Ok, Option, count_by, sym, refl, ap, ◌∙◌, subst, arith}
use Rattle.std.proofs.lemmas.List.Sums.{sum_by-cons}
use Rattle.field.specs.declared.Message.{Message}
use Rattle.history.proofs.Kept.{Steps, kept, granted_ok, ok_is, opening_is, damaging_is, carried_from}
use Rattle.flood.specs.Copies.{outgoing_of}
use Rattle.history.specs.Calls.{AfterCopy, none_yet, counted_open, counted_copy, opening, world_opened, copy_taken, world_closed, world_damaged}
use Rattle.field.specs.declared.Stage.TheVariants.{Between}
use Rattle.vetting.specs.declared.Named.TheVariants.{Nothing}
use Rattle.history.specs.Checks.{checked, checked_first}
use Rattle.history.specs.Counted.{opens, begins, takes, Counted, CountsTell}
use Rattle.history.specs.Floods.{through, hears, accepts, refuses}
use Rattle.history.specs.Histories.{history, OnceBegun}
use Rattle.history.specs.Plays.{Event, open_events}
use Rattle.history.specs.Plays.Event.{Damages, Opens, Begins, Takes}
use Rattle.history.specs.Worlds.{Field, Lent, World}
use Rattle.history.specs.declared.taking.Counts.{Counts}

module _ {Num : Type 0} where
  -- what is counted with one event more
  abbrev tallied : Counts → Event Num → Counts
  tallied c Damages = c
  tallied c Opens = counted_open false c
  tallied c (Begins number rows) = record c { floods = c.floods + 1 }
  tallied c (Takes copy) = counted_copy copy.verdict c

module _ {Num : Type 0} (lent : Lent Num) where
  -- a run's own counts are those
  Tallied : World Num → Counts → Type 0
  Tallied world c = world.counts ≡ c

  opens_tallied : (world next : World Num) → opening lent world ≡ Ok next → next.counts ≡ through tallied world.counts (open_events world next)
  unfolding world_opened through open_events
  opens_tallied world next e = subst (λ (w : World Num). w.counts ≡ through tallied world.counts (open_events world w)) (opening_is lent world next e) (by (outgoing_of (world_opened lent world).rows 0))
    where
      by : (o : Option (Message Num)) → counted_open (is_some o) world.counts ≡ through tallied (tallied {Num = Num} world.counts Opens) (elim o [ None ↦ [] | Some message ↦ Begins message.number world.rows ∷ [] ])
      by None = refl
      by (Some message) = refl

  tallies : Steps lent tallied Tallied
  unfolding Tallied through world_opened world_closed world_damaged copy_taken
  tallies = record {
    opens = λ world next a p here e. opens_tallied world next e ∙ ap (λ (c : Counts). through tallied c (open_events world next)) p;
    takes = λ world position next a p here e.
        let f = carried_from lent world position next here e in
        subst (λ (n : AfterCopy Num). n.world.counts ≡ tallied a (Takes n.copy)) f.taken (ap (counted_copy _) p);
    closes = λ world position a p here none. p;
    damages = λ world next damage a p here e. ap (λ (w : World Num). w.counts) (sym (damaging_is lent damage world next e)) ∙ p;
  }

module _ {Num : Type 0} where
  -- what each event adds to, their number adds to
  module _ (of : Counts → ℕ) (test : Event Num → Bool) (one : (c : Counts) (event : Event Num) → of (tallied c event) ≡ of c + cond (test event) 1 0) where
    all : (events : List (Event Num)) (c : Counts) → of (through tallied c events) ≡ of c + count_by test events
    unfolding through
    all [] c = omega arith
    all (event ∷ events) c = all events (tallied c event) ∙ omega (arith, one c event, sum_by-cons (λ (e : Event Num). cond (test e) 1 0) event events)

  each_once :
      (events : List (Event Num)) (c : Counts) → c.copies ≡ c.lost + c.refused + c.accepted
      → (through tallied c events).copies ≡ (through tallied c events).lost + (through tallied c events).refused + (through tallied c events).accepted
  unfolding through
  each_once [] c e = e
  each_once (event ∷ events) c e = each_once events (tallied c event) (one c event e)
    where
      one :
          (c : Counts) (event : Event Num) → c.copies ≡ c.lost + c.refused + c.accepted
          → (tallied c event).copies ≡ (tallied c event).lost + (tallied c event).refused + (tallied c event).accepted
      one c event e = grind arith

  tallied_counts : (events : List (Event Num)) → Counted (through tallied none_yet events) events
  tallied_counts events = record {
    instants = all (λ c. c.instants) opens (λ c event. grind arith) events none_yet ∙ omega arith;
    floods = all (λ c. c.floods) begins (λ c event. grind arith) events none_yet ∙ omega arith;
    copies = all (λ c. c.copies) (takes (λ verdict. true)) (λ c event. grind arith) events none_yet ∙ omega arith;
    lost = all (λ c. c.lost) (takes (λ verdict. not (hears verdict))) (λ c event. grind arith) events none_yet ∙ omega arith;
    refused = all (λ c. c.refused) (takes refuses) (λ c event. grind arith) events none_yet ∙ omega arith;
    accepted = all (λ c. c.accepted) (takes accepts) (λ c event. grind arith) events none_yet ∙ omega arith;
    each_once = each_once events none_yet (omega arith);
  }

  -- Whatever calls there are after a granted begin, the counts are those of what happened.
  pub counts_tell : (field : Field Num) → OnceBegun field CountsTell
  unfolding CountsTell Tallied
  counts_tell field rows senders start e period carries periods calls =
      let lent : Lent Num = record { field = field; period = period; carries = carries } in
      let begins : start.counts ≡ none_yet = ap (λ (w : World Num). w.counts) (sym (ok_is _ start (granted_ok (checked_first field rows senders) _ start e))) in
      let went = history lent calls start in
      let tell : Counted went.world.counts went.events = subst (λ (c : Counts). Counted c went.events) (sym (kept lent tallied (Tallied lent) (tallies lent) calls start none_yet begins)) (tallied_counts went.events) in
      (tell, λ counts finishes. subst (λ (c : Counts). Counted c went.events) (ok_is _ counts (granted_ok (checked field Nothing Between went.world.rows went.world.senders) _ counts finishes)) tell)
