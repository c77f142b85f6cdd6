-- How many copies an open instant has. Assumes nothing.
use Rattle.std.proofs.Common.{◌≡◌, ℕ, zero, suc, ◌+◌, ◌<◌, ◌≤◌, Bool, true, false, cond, List, [], ◌∷◌, length, set, is_some, Some, None, Ok, Option, count_by, sym, refl, ap, ◌∙◌, subst, arith, zero-add, leb-true}
use Rattle.std.proofs.lemmas.Bool.{le-leb, leb-false}
use Rattle.std.proofs.Math.Seq.{drop-length}
use Rattle.std.proofs.lemmas.List.{drop_all, length-set}
use Rattle.std.proofs.lemmas.List.Sums.{sum_by-cons}
use Rattle.std.specs.List.{slice_get}
use Rattle.std.specs.Prelude.{drop, ◌-◌, nat_le}
use Rattle.field.specs.declared.Link.{Link}
use Rattle.field.specs.declared.Row.{Row}
use Rattle.flood.specs.Copies.{outgoing_of, message_on, copy_at, copy_here}
use Rattle.vetting.specs.Cases.{holds_at}
use Rattle.vetting.specs.declared.Named.TheVariants.{Nothing}
use Rattle.history.specs.Calls.{AfterCopy, copy_left, comes_through, copy_taken, next_taken, opening, rows_opened, world_opened}
use Rattle.history.specs.Limits.{LinksKeep}
use Rattle.history.specs.Plays.{copies_in, copies_taken, copies_to_come}
use Rattle.history.specs.Worlds.{Lent, World, told_links}
use Rattle.history.proofs.Checks.{check_gives}
use Rattle.history.proofs.Kept.{From, carried_from, copied, opening_passed}
use Rattle.history.proofs.Limits.{left_is_taken}
use Rattle.history.proofs.Places.{length_changed}
use Rattle.history.proofs.Rows.{takes}
use Rattle.search.proofs.Places.{found_nowhere}

-- how many items from a place on pass a test
module _ {A : Type 0} (test : A → Bool) where
  one_place : (xs : List A) (place : ℕ) → count_by test (drop place xs) ≡ cond (holds_at test xs place) 1 0 + count_by test (drop (suc place) xs)
  one_place [] zero = refl
  one_place [] (suc place) = refl
  one_place (x ∷ xs) zero = sum_by-cons (λ x. cond (test x) 1 0) x xs
  one_place (x ∷ xs) (suc place) = one_place xs place

  -- those that are passed over, from one place to another, do not pass it
  abbrev NonePass : List A → ℕ → ℕ → Type 0
  NonePass xs from to = (k : ℕ) → from ≤ k → k < to → holds_at test xs k ≡ false

  passed_over : (xs : List A) (to more from : ℕ) → from + more ≡ to → NonePass xs from to → count_by test (drop from xs) ≡ count_by test (drop to xs)
  passed_over xs to zero from e none = ap (λ (k : ℕ). count_by test (drop k xs)) (omega arith)
  passed_over xs to (suc more) from e none =
      one_place xs from ∙ rw (none from (omega arith) (omega arith)) (zero-add _) ∙ passed_over xs to more (suc from) (omega arith) (λ k low high. none k (omega arith) high)

  none_from : (xs : List A) (from : ℕ) → NonePass xs from (length xs) → count_by test (drop from xs) ≡ 0
  none_from xs from none = by (nat_le from (length xs)) refl
    where
      by : (b : Bool) → nat_le from (length xs) ≡ b → count_by test (drop from xs) ≡ 0
      by true h = passed_over xs (length xs) (length xs - from) from (omega (arith, leb-true from (length xs) h)) none ∙ ap (count_by test) (drop-length xs)
      by false h = ap (count_by test) (drop_all from xs (omega (arith, leb-false from (length xs) h)))

  first_from :
      (xs : List A) (from first : ℕ) → from ≤ first → NonePass xs from first → holds_at test xs first ≡ true
      → count_by test (drop from xs) ≡ 1 + count_by test (drop (suc first) xs)
  first_from xs from first low none here = passed_over xs first (first - from) from (omega arith) none ∙ one_place xs first ∙ rw here refl

module _ {Num : Type 0} where
  -- what a sensor sends stays, where a row is set that sends the same
  sends_same :
      (rows : List (Row Num)) (to : ℕ) (old row : Row Num) → slice_get rows to ≡ Some old → row.outgoing ≡ old.outgoing
      → (sensor : ℕ) → outgoing_of (set rows to row) sensor ≡ outgoing_of rows sensor
  sends_same [] to old row there same sensor = refl
  sends_same (r ∷ rows) zero old row there same zero = let is : r ≡ old = cc in same ∙ ap (λ (r : Row Num). r.outgoing) (sym is)
  sends_same (r ∷ rows) zero old row there same (suc sensor) = refl
  sends_same (r ∷ rows) (suc to) old row there same zero = refl
  sends_same (r ∷ rows) (suc to) old row there same (suc sensor) = sends_same rows to old row there same sensor

module _ {Num : Type 0} (lent : Lent Num) (links : LinksKeep lent.field) (sends : Link → Bool) where
  abbrev told : List Link
  told = told_links lent.field

  -- where an open instant stands: every sensor has its row, and a message goes over the links that are said to send
  record Stands (world : World Num) (position : ℕ) : Type 0 where
    here : world.position ≡ Some position
    rows_there : lent.field.settings.n ≤ length world.rows
    same : (link : Link) → is_some (message_on world.rows link) ≡ sends link

  module _ (world : World Num) (position : ℕ) (stands : Stands world position) where
    goes_over : (k : ℕ) → holds_at sends told k ≡ copy_here world.rows told k
    goes_over k = by (slice_get told k)
      where
        by : (o : Option Link) → ◌≡◌ {A = Bool} (elim o [ None ↦ false | Some link ↦ sends link ]) (elim o [ None ↦ false | Some link ↦ is_some (message_on world.rows link) ])
        by None = refl
        by (Some link) = sym (stands.same link)

    -- where none is left
    none_goes : next_taken lent world ≡ None → count_by sends (drop position told) ≡ 0
    none_goes none =
        let left : copy_left lent.field world ≡ false = left_is_taken lent links world stands.rows_there ∙ ap is_some none in
        let nowhere = found_nowhere (copy_at world.rows told position) (length told) (rw stands.here at left) in
        none_from sends told position (λ k low high. goes_over k ∙ rw (le-leb position k low) at (nowhere k high))

    -- one that goes, and how it stands then
    one_goes :
        (next : AfterCopy Num) (f : From lent world position next)
        → (count_by sends (drop position told) ≡ 1 + count_by sends (drop (suc f.place) told)) × Stands next.world (suc f.place)
    unfolding copy_taken
    one_goes next f =
        let t = takes lent.field.numbering f.message f.row (comes_through lent world f.link) in
        let same = sends_same world.rows f.link.to f.row _ f.comes t.outgoing in (
          first_from sends told position f.place f.onward (λ k low high. goes_over k ∙ f.first k low high) (goes_over f.place ∙ rw (f.there, f.goes, copy_here) refl),
          subst (λ (c : AfterCopy Num). Stands c.world (suc f.place)) f.taken (record {
            here = refl;
            rows_there = rw (length-set world.rows f.link.to _) stands.rows_there;
            same = λ link. ap is_some (same link.from) ∙ stands.same link;
          }),
        )

  copies_from :
      (most : ℕ) (world : World Num) (position : ℕ) → Stands world position → length told ≤ position + most
      → length (copies_in (copies_taken lent most world).events) ≡ count_by sends (drop position told)
  unfolding copies_in
  copies_from =
      copied lent
      (λ most world went. (position : ℕ) → Stands world position → length told ≤ position + most → length (copies_in went.events) ≡ count_by sends (drop position told))
      (λ world position stands few. sym (ap (count_by sends) (drop_all position told (omega (arith, few)))))
      (λ most world e position stands few. sym (none_goes world position stands e))
      (λ most world next rest e before position stands few.
      let f = carried_from lent world position next stands.here e in
      let goes = one_goes world position stands next f in
      omega (arith, goes.0, before (suc f.place) goes.1 (omega (arith, f.onward))))

module _ {Num : Type 0} (lent : Lent Num) where
  -- one copy for each link at most
  pub at_most : (most : ℕ) (world : World Num) → length (copies_in (copies_taken lent most world).events) ≤ most
  unfolding copies_in
  at_most = copied lent (λ most world went. length (copies_in went.events) ≤ most) (λ world. omega arith) (λ most world e. omega arith) (λ most world next rest e before. omega (arith, before))

  -- The copies of an instant that open would grant are those over the links that send once it is open.
  pub all_to_come :
      (world next : World Num) → opening lent world ≡ Ok next
      → length (copies_in (copies_taken lent (length (told_links lent.field)) (world_opened lent world)).events) ≡ copies_to_come lent world
  unfolding world_opened
  all_to_come world next granted =
      let told = check_gives lent.field Nothing (record world { position = None }) None refl (opening_passed lent world next granted) in
      copies_from lent told.0 (λ link. is_some (message_on (rows_opened lent world) link)) (length (told_links lent.field)) (world_opened lent world) 0 (record {
        here = refl;
        rows_there = rw (length_changed _ 0 lent.field.settings.n world.rows) told.1.rows_there;
        same = λ link. refl;
      })
      (omega arith)
