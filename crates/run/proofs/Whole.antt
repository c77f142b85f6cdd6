-- A whole instant, as the code works it. Assumes nothing.
use Rattle.std.proofs.Common.{◌≡◌, ℕ, zero, suc, ◌+◌, ◌<◌, ◌≤◌, Bool, true, false, ◌||◌, List, [], ◌∷◌, length, take, Some, None, Ok, Option, is_some, sym, refl, ap, ◌∙◌, subst, arith, add-zero}
use Rattle.std.specs.Prelude.{slice_get}
use Rattle.std.specs.List.{list_any}
use Rattle.std.specs.Result.{result_and}
use Rattle.air.specs.Delays.{KeepsPeriods}
use Rattle.field.specs.declared.Message.{Message}
use Rattle.field.specs.declared.Row.{Row}
use Rattle.field.specs.declared.Stage.TheVariants.{Between}
use Rattle.flood.specs.Copies.{outgoing_of}
use Rattle.flood.specs.Instants.{any_sends, sending}
use Rattle.numbering.specs.Meaning.{KeepsLawful}
use Rattle.vetting.specs.declared.Named.TheVariants.{Nothing}
use Rattle.history.specs.Calls.{can_open, counted_open, opening, rows_opened, world_closed, world_opened}
use Rattle.history.specs.Checks.{checked}
use Rattle.history.specs.Limits.{LinksKeep}
use Rattle.history.specs.Plays.{Went, copies_in, instant_gone}
use Rattle.history.specs.Worlds.{Lent, World}
use Rattle.history.specs.declared.TakenCopy.{TakenCopy}
use Rattle.history.proofs.Checks.{check_gives}
use Rattle.history.proofs.PlayLaws.{instant_copies}
use Rattle.history.proofs.Playing.{opened_passes, opening_checked}
use Rattle.history.proofs.Quiet.{quiet_instant}
use Rattle.run.specs.Plays.{CarriedAll, ClosedAll, InstantPlayed, all_copies, logged}
use Rattle.run.proofs.Carrying.{logged_none}

-- where the first of a list pass no test, none of them does
pub none_first : {A : Type 0} (test : A → Bool) (n : ℕ) (xs : List A) → list_any test (take n xs) ≡ false → (k : ℕ) (x : A) → k < n → slice_get xs k ≡ Some x → test x ≡ false
none_first test zero xs none k x h there = absurd (omega arith)
none_first test (suc n) [] none k x h there = absurd cc
none_first test (suc n) (y ∷ ys) none zero x h there = let same : y ≡ x = cc in rw (sym same) (first (test y) _ none)
  where
    first : (a b : Bool) → a || b ≡ false → a ≡ false
    first true b e = absurd cc
    first false b e = refl
none_first test (suc n) (y ∷ ys) none (suc k) x h there = none_first test n ys (rest (test y) _ none) k x (omega arith) there
  where
    rest : (a b : Bool) → a || b ≡ false → b ≡ false
    rest true b e = absurd cc
    rest false b e = e

module _ {Num : Type 0} where
  pub no_message : (o : Option (Message Num)) → is_some o ≡ false → o ≡ None
  no_message None e = refl
  no_message (Some m) e = absurd cc

  -- behind the copies comes the close
  pub closed_all :
      (given lent : Lent Num) → given ≡ lent → (used : ℕ) (begun start : World Num) → begun ≡ start → (world after : World Num) → after ≡ world_closed given.field world
      → (log logs : List (TakenCopy Num)) (rows : ℕ) → CarriedAll given used begun world log logs rows → ClosedAll lent used start after log logs rows
  closed_all given lent same used begun start at world after closes log logs rows had =
      let had = subst (λ (l : Lent Num). CarriedAll l used begun world log logs rows) same had in
      let had = subst (λ (w : World Num). CarriedAll lent used w world log logs rows) at had in
      record { closed = closes ∙ ap (λ (l : Lent Num). world_closed l.field world) same ∙ sym had.closes; logs_copies = had.logs_copies; counts = had.counts }

module _ {Num : Type 0} (lent : Lent Num) (world : World Num) where
  -- once its rows are open, and no byte is written yet
  abbrev pub rows_alone : World Num
  rows_alone = record (world_opened lent world) { senders = world.senders }

  pub bytes_written : (n : ℕ) → n ≡ lent.field.settings.n → (w : World Num) → w ≡ rows_alone → record w { senders = sending w.rows n w.senders } ≡ world_opened lent world
  unfolding world_opened
  bytes_written n same w e = rw (same, e) refl

  -- as much room as the instant needs is left for the copies
  pub room_left :
      (given : Lent Num) → given ≡ lent → (start : World Num) → start ≡ world_opened lent world → (used room : ℕ)
      → used + length (copies_in (instant_gone lent world).events) ≤ room → used + length (copies_in (all_copies given start).events) ≤ room
  room_left given same start at used room fits = rw (same, at, sym (instant_copies lent world)) fits

  module _ (here : world.position ≡ None) (passes : checked lent.field Nothing Between world.rows world.senders ≡ Ok tt) (can : can_open lent.field world ≡ Ok tt) where
    pub grants : opening lent world ≡ Ok (world_opened lent world)
    grants = opening_checked lent world passes ∙ ap (λ c. result_and c (Ok (world_opened lent world))) can

    pub ready :
        KeepsLawful lent.field.numbering → KeepsPeriods lent.period → (w : World Num) → w ≡ rows_alone
        → LinksKeep lent.field × (lent.field.settings.n ≤ length w.rows)
    unfolding world_opened
    ready lawful periods w e =
        let opened = world_opened lent world in
        let told = check_gives lent.field Nothing opened (Some 0) refl (opened_passes lent lawful periods world here passes can) in
        (told.0, rw e told.1.rows_there)

    -- where a sensor sends, its copies are taken, and the instant closed
    pub sent_played :
        (given : Lent Num) → given ≡ lent → (used : ℕ) (start after : World Num) → start ≡ world_opened lent world
        → (log logs : List (TakenCopy Num)) (rows : ℕ) → ClosedAll given used start after log logs rows → InstantPlayed lent used world after log logs rows
    unfolding instant_gone
    sent_played given same used start after at log logs rows had =
        let had = subst (λ (l : Lent Num). ClosedAll l used start after log logs rows) same had in
        let had = subst (λ (w : World Num). ClosedAll lent used w after log logs rows) at had in
        let copies = sym (instant_copies lent world) in
        record { stands = had.closed; logs_copies = had.logs_copies ∙ ap (logged log used) copies; counts = had.counts ∙ ap (λ (c : List (TakenCopy Num)). used + length c) copies }

    -- and where none does, it is over
    pub quiet_played :
        (w : World Num) → w ≡ rows_alone → any_sends lent.field.settings.n w.rows ≡ false
        → (used : ℕ) (log : List (TakenCopy Num)) → InstantPlayed lent used world (record w { position = None }) log log used
    unfolding world_opened copies_in
    quiet_played w e none used log =
        let rows = rows_opened lent world in
        let none = rw e at none in
        let silent = λ (sensor : ℕ) (row : Row Num) (h : sensor < lent.field.settings.n) (there : slice_get rows sensor ≡ Some row). no_message row.outgoing (none_first (λ (r : Row Num). is_some r.outgoing) lent.field.settings.n rows none sensor row h there) in
        let quiet = quiet_instant lent world (world_opened lent world) here grants silent in
        let gone : (instant_gone lent world).world ≡ over world.position = ap (λ (went : Went Num). went.world) quiet in
        let between : over world.position ≡ over None = ap over here in
        record {
          stands = ap (λ (v : World Num). record v { position = None }) e ∙ rw (base (slice_get rows 0) refl silent) (sym (gone ∙ between));
          logs_copies = sym (logged_none log used) ∙ ap (λ (went : Went Num). logged log used (copies_in went.events)) (sym quiet);
          counts = sym (add-zero used) ∙ ap (λ (went : Went Num). used + length (copies_in went.events)) (sym quiet);
        }
      where
        over : Option ℕ → World Num
        over position = record world { rows = rows_opened lent world; instant = suc world.instant; position = position; counts = counted_open false world.counts }

        base :
            (o : Option (Row Num)) → slice_get (rows_opened lent world) 0 ≡ o
            → ((sensor : ℕ) (row : Row Num) → sensor < lent.field.settings.n → slice_get (rows_opened lent world) sensor ≡ Some row → row.outgoing ≡ None)
            → is_some (outgoing_of (rows_opened lent world) 0) ≡ false
        base None there silent = rw (there, is_some) refl
        base (Some row) there silent = let none = silent 0 row (omega (arith, lent.field.settings.n_least)) there in rw (there, is_some) (rw none refl)
