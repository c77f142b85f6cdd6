-- The copies of an open instant, one after another, and by the places of the links. Assumes nothing.
use Rattle.std.proofs.Common.{◌≡◌, ℕ, zero, suc, ◌+◌, ◌<◌, ◌≤◌, Bool, true, false, ◌&&◌, List, [], ◌∷◌, ◌++◌, length, Some, None, Option, sym, refl, ap, ◌∙◌, arith, leb-true, add-one}
use Rattle.std.proofs.lemmas.Bool.{le-leb, lt-leb, leb-false}
use Rattle.std.proofs.lemmas.List.{append-nil, append_assoc}
use Rattle.std.proofs.lemmas.Option.{slice_get_within}
use Rattle.std.specs.List.{slice_get}
use Rattle.std.specs.Prelude.{nat_le}
use Rattle.field.specs.declared.Link.{Link}
use Rattle.field.specs.declared.Message.{Message}
use Rattle.field.specs.declared.Row.{Row}
use Rattle.flood.specs.Copies.{copy_at, copy_here, message_on, next_copy}
use Rattle.search.proofs.Places.{lowest_of}
use Rattle.history.specs.Calls.{AfterCopy, copy_over, copy_taken, next_taken, world_closed, world_opened}
use Rattle.history.specs.Plays.{Went, copies_in, copies_taken, instant_gone}
use Rattle.history.specs.Plays.Event.{Takes}
use Rattle.history.specs.Worlds.{Lent, World, told_links}
use Rattle.history.specs.declared.taking.TakenCopy.{TakenCopy}
use Rattle.history.proofs.Kept.{From, carried_from, copied, onward_from, past_last}
use Rattle.history.proofs.Places.{same_lowest}
use Rattle.history.proofs.PlayLaws.{instant_copies}

-- an open instant at a place of the links
abbrev pub moved : {Num : Type 0} → World Num → ℕ → World Num
moved world place = record world { position = Some place }

module _ {Num : Type 0} (lent : Lent Num) where
  abbrev told : List Link
  told = told_links lent.field

  -- one copy, and then those that follow it; and none
  pub one_taken :
      (most : ℕ) (world : World Num) (next : AfterCopy Num) → next_taken lent world ≡ Some next
      → let rest = copies_taken lent most next.world in copies_taken lent (suc most) world ≡ record { events = Takes next.copy ∷ rest.events; world = rest.world }
  unfolding copies_taken
  one_taken most world next some = rw (some, copies_taken)

  pub none_taken : (most : ℕ) (world : World Num) → next_taken lent world ≡ None → copies_taken lent most world ≡ record { events = []; world = world }
  unfolding copies_taken
  none_taken zero world none = refl
  none_taken (suc most) world none = rw (none, copies_taken)

  -- It does not matter how many may be taken, where it is as many as there are links from the position on.
  pub enough_taken :
      (most more position : ℕ) (world : World Num) → world.position ≡ Some position → length told ≤ position + most → length told ≤ position + more
      → copies_taken lent most world ≡ copies_taken lent more world
  enough_taken most more position world =
      copied lent
      (λ most world went. (more position : ℕ) → world.position ≡ Some position → length told ≤ position + most → length told ≤ position + more → went ≡ copies_taken lent more world)
      (λ world more position here few enough. sym (none_taken more world (past_last lent world position here (omega (arith, few)))))
      (λ most world none more position here few enough. sym (none_taken more world none))
      (λ most world next rest some before more position here few enough.
      let f = carried_from lent world position next here some in
      by more position world next rest f some (λ more enough. before more (suc f.place) (onward_from lent world position next f) (omega (arith, few, f.onward)) (omega (arith, enough, f.onward))) enough)
      most world more position
    where
      by :
          (more position : ℕ) (world : World Num) (next : AfterCopy Num) (rest : Went Num) → From lent world position next → next_taken lent world ≡ Some next
          → ((more : ℕ) → length told ≤ position + suc more → rest ≡ copies_taken lent more next.world) → length told ≤ position + more
          → ◌≡◌ {A = Went Num} (record { events = Takes next.copy ∷ rest.events; world = rest.world }) (copies_taken lent more world)
      by zero position world next rest f some before enough = absurd (omega (arith, f.onward, f.within))
      by (suc more) position world next rest f some before enough =
          ap (λ (went : Went Num). record { events = Takes next.copy ∷ went.events; world = went.world }) (before more enough) ∙ sym (one_taken more world next some)

  -- what comes of a next place
  abbrev taken_at : World Num → Option ℕ → Option (AfterCopy Num)
  taken_at world next = elim next [ None ↦ None | Some place ↦ copy_over lent world place ]

  next_from : (world : World Num) (position : ℕ) → world.position ≡ Some position → next_taken lent world ≡ taken_at world (next_copy world.rows told position)
  unfolding next_taken
  next_from world position here = ap (λ (o : Option ℕ). elim o [ None ↦ None | Some start ↦ taken_at world (next_copy world.rows told start) ]) here

  same_elsewhere : (world : World Num) (place : ℕ) (next : Option ℕ) → taken_at (moved world place) next ≡ taken_at world next
  unfolding copy_taken
  same_elsewhere world place None = refl
  same_elsewhere world place (Some next) = refl

  module _ (world : World Num) (place : ℕ) (here : world.position ≡ Some place) (within : place < length told) where
    -- no copy goes over the link at this place
    pub passes_link : copy_here world.rows told place ≡ false → next_taken lent world ≡ next_taken lent (moved world (suc place))
    passes_link none =
        next_from world place here ∙ ap (taken_at world) (same_lowest (copy_at world.rows told place) (copy_at world.rows told (suc place)) (length told) (λ k h. on k (nat_le place k) refl (nat_le (suc place) k) refl))
        ∙ sym (next_from (moved world (suc place)) (suc place) refl ∙ same_elsewhere world (suc place) _)
      where
        on : (k : ℕ) (b : Bool) → nat_le place k ≡ b → (c : Bool) → nat_le (suc place) k ≡ c → b && copy_here world.rows told k ≡ c && copy_here world.rows told k
        on k true from true past = refl
        on k false from false past = refl
        on k true from false past = let is : k ≡ place = omega (arith, leb-true place k from, leb-false (suc place) k past) in rw (is, none) refl
        on k false from true past = absurd (omega (arith, leb-false place k from, leb-true (suc place) k past))

    -- one goes over it
    pub takes_link :
        (link : Link) (message : Message Num) (row : Row Num)
        → slice_get told place ≡ Some link → message_on world.rows link ≡ Some message → slice_get world.rows link.to ≡ Some row
        → next_taken lent world ≡ Some (copy_taken lent world place link message row)
    takes_link link message row there goes comes =
        let goes_here : copy_here world.rows told place ≡ true = rw (there, goes, copy_here) refl in
        let next : Some place ≡ next_copy world.rows told place =
        lowest_of (copy_at world.rows told place) (length told) (Some place) (within, rw (le-leb place place (omega arith)) goes_here, λ k h. rw (lt-leb place k h) refl) in
        next_from world place here ∙ ap (taken_at world) (sym next) ∙ rw (there, goes, comes, copy_over) refl

  -- all copies from where an open instant stands
  abbrev pub all_taken : World Num → Went Num
  all_taken = copies_taken lent (length told)

  -- where no copy is between two positions, the same is taken from both, and the same is closed
  same_taken :
      (most : ℕ) (one other : World Num) → next_taken lent one ≡ next_taken lent other → world_closed lent.field one ≡ world_closed lent.field other
      → let a = copies_taken lent most one in let b = copies_taken lent most other in (copies_in a.events ≡ copies_in b.events) × (world_closed lent.field a.world ≡ world_closed lent.field b.world)
  unfolding copies_taken
  same_taken zero one other next closed = (refl, closed)
  same_taken (suc most) one other next closed = by (next_taken lent other) refl
    where
      by :
          (o : Option (AfterCopy Num)) → next_taken lent other ≡ o
          → let a = copies_taken lent (suc most) one in let b = copies_taken lent (suc most) other in (copies_in a.events ≡ copies_in b.events) × (world_closed lent.field a.world ≡ world_closed lent.field b.world)
      by None e = rw (none_taken (suc most) one (next ∙ e), none_taken (suc most) other e) (refl, closed)
      by (Some copy) e = rw (one_taken most one copy (next ∙ e), one_taken most other copy e) (refl, refl)

  module _ (start : World Num) where
    -- The links before a place have been looked at, from where an open instant stood: these are the copies over them, and what the run
    -- has become, whatever its position says.
    pub record TakenSo (place : ℕ) (world : World Num) (copies : List (TakenCopy Num)) : Type 0 where
      pub logs : copies_in (all_taken start).events ≡ copies ++ copies_in (all_taken (moved world place)).events
      pub closes : world_closed lent.field (all_taken start).world ≡ world_closed lent.field (all_taken (moved world place)).world

    pub none_so : start.position ≡ Some 0 → TakenSo 0 start []
    none_so here =
        let stood : start ≡ moved start 0 = ap (λ (o : Option ℕ). record start { position = o }) here in
        record { logs = ap (λ (w : World Num). copies_in (all_taken w).events) stood; closes = ap (λ (w : World Num). world_closed lent.field (all_taken w).world) stood }

    module _ (place : ℕ) (world : World Num) (copies : List (TakenCopy Num)) (so : TakenSo place world copies) where
      -- a link over which no copy goes
      pub link_passed : place < length told → copy_here world.rows told place ≡ false → TakenSo (place + 1) world copies
      unfolding world_closed
      link_passed within none =
          let same = same_taken (length told) (moved world place) (moved world (suc place)) (passes_link (moved world place) place refl within none) refl in
          rw (add-one place) (record {
            logs = so.logs ∙ ap (λ (more : List (TakenCopy Num)). copies ++ more) same.0;
            closes = so.closes ∙ same.1;
          })

      -- a link over which one goes
      pub copy_so :
          (link : Link) (message : Message Num) (row : Row Num)
          → slice_get told place ≡ Some link → message_on world.rows link ≡ Some message → slice_get world.rows link.to ≡ Some row
          → let next = copy_taken lent world place link message row in TakenSo (place + 1) next.world (copies ++ next.copy ∷ [])
      unfolding copy_taken copies_in
      copy_so link message row there goes comes =
          let next = copy_taken lent world place link message row in
          let here = moved world place in
          let one : all_taken here ≡ record { events = Takes next.copy ∷ (all_taken next.world).events; world = (all_taken next.world).world } =
          enough_taken (length told) (suc (length told)) place here refl (omega arith) (omega arith)
          ∙ one_taken (length told) here next (takes_link here place refl (slice_get_within told place link there) link message row there goes comes) in
          rw (add-one place) (record {
            logs = so.logs ∙ ap (λ (went : Went Num). copies ++ copies_in went.events) one ∙ sym (append_assoc copies (next.copy ∷ []) (copies_in (all_taken next.world).events));
            closes = so.closes ∙ ap (λ (went : Went Num). world_closed lent.field went.world) one;
          })

      -- past the last link
      pub all_so : length told ≤ place → (copies_in (all_taken start).events ≡ copies) × (world_closed lent.field (all_taken start).world ≡ world_closed lent.field world)
      unfolding world_closed copies_in
      all_so past =
          let none = none_taken (length told) (moved world place) (past_last lent (moved world place) place refl past) in (
            so.logs ∙ ap (λ (went : Went Num). copies ++ copies_in went.events) none ∙ append-nil copies,
            so.closes ∙ ap (λ (went : Went Num). world_closed lent.field went.world) none,
          )

  -- a whole instant
  pub instant_so :
      (before world : World Num) (copies : List (TakenCopy Num)) → TakenSo (world_opened lent before) (length told) world copies
      → (copies_in (instant_gone lent before).events ≡ copies) × ((instant_gone lent before).world ≡ world_closed lent.field world)
  unfolding instant_gone
  instant_so before world copies so = let all = all_so (world_opened lent before) (length told) world copies so (omega arith) in (instant_copies lent before ∙ all.0, all.1)
