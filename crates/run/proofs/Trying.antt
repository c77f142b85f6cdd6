-- What comes of an instant that is tried, and of a play that ends at once. Assumes nothing.
use Rattle.std.proofs.Common.{◌≡◌, ℕ, zero, suc, ◌+◌, ◌<◌, ◌≤◌, true, false, List, length, Ok, Err, refl, ap, ◌∙◌, arith, ltb}
use Rattle.std.specs.Prelude.{◌-◌}
use Rattle.std.proofs.lemmas.Bool.{ltb-true, ltb-false}
use Rattle.std.specs.Result.{result_and}
use Rattle.field.specs.declared.Stage.TheVariants.{Between}
use Rattle.refusal.specs.declared.RunFault.{RunFault}
use Rattle.vetting.specs.declared.Named.TheVariants.{Nothing}
use Rattle.history.specs.Calls.{can_open, opening, world_opened}
use Rattle.history.specs.Checks.{checked}
use Rattle.history.specs.Plays.{copies_in, copies_to_come, instant_gone, playing}
use Rattle.history.specs.Worlds.{Lent, World}
use Rattle.history.specs.declared.Ending.TheVariants.{BudgetSpent, LogShort, Refused}
use Rattle.history.specs.declared.TakenCopy.{TakenCopy}
use Rattle.history.proofs.Kept.{playing_ends}
use Rattle.history.proofs.PlayLaws.{play_laws}
use Rattle.history.proofs.Playing.{opening_checked, tried_refused, tried_short, tried_whole}
use Rattle.run.specs.Plays.{InstantPlayed, PlayAnswer, WasDone, WasNot, played_out}

module _ {Num : Type 0} (lent : Lent Num) (world : World Num) where
  module _ (passes : checked lent.field Nothing Between world.rows world.senders ≡ Ok tt) (log : List (TakenCopy Num)) (used : ℕ) where
    abbrev room : ℕ
    room = length log - used

    pub was_refused : (fault : RunFault) → can_open lent.field world ≡ Err fault → WasNot lent used world world log log (Refused fault)
    was_refused fault cannot = record {
      ends = tried_refused lent room world fault (opening_checked lent world passes ∙ ap (λ c. result_and c (Ok (world_opened lent world))) cannot);
      stands = refl;
      log_stays = refl;
    }

    module _ (can : can_open lent.field world ≡ Ok tt) where
      grants : opening lent world ≡ Ok (world_opened lent world)
      grants = opening_checked lent world passes ∙ ap (λ c. result_and c (Ok (world_opened lent world))) can

      many : length (copies_in (instant_gone lent world).events) ≡ copies_to_come lent world
      many = (play_laws lent).to_come world (world_opened lent world) grants

      pub was_short : ltb room (copies_to_come lent world) ≡ true → WasNot lent used world world log log LogShort
      was_short short = record { ends = tried_short lent room world (world_opened lent world) grants (rw many (ltb-true room _ short)); stands = refl; log_stays = refl }

      pub finds_room : used ≤ length log → ltb room (copies_to_come lent world) ≡ false → used + length (copies_in (instant_gone lent world).events) ≤ length log
      finds_room within fits = let few = ltb-false room (copies_to_come lent world) fits in omega (arith, few, many)

      pub was_done :
          ltb room (copies_to_come lent world) ≡ false → (after : World Num) (logs : List (TakenCopy Num)) (rows : ℕ)
          → InstantPlayed lent used world after log logs rows → WasDone lent used world after log logs rows
      was_done fits after logs rows played = record {
        went = instant_gone lent world;
        done = tried_whole lent room world (world_opened lent world) grants (rw many (ltb-false room _ fits));
        stands = played.stands;
        logs_copies = played.logs_copies;
        counts = played.counts;
      }

  -- a play of no instant, and one whose check does not pass
  pub nothing_to_play :
      (budget room : ℕ) (log : List (TakenCopy Num)) → budget ≡ 0
      → ◌≡◌ {A = PlayAnswer Num} (record { instants = 0; rows = 0; ending = BudgetSpent; world = world; log = log }) (played_out log (playing lent budget room world))
  unfolding playing copies_in
  nothing_to_play budget room log none = rw (none, playing) refl

  pub refused_at_once :
      (budget room : ℕ) (log : List (TakenCopy Num)) (fault : RunFault) → 0 < budget → checked lent.field Nothing Between world.rows world.senders ≡ Err fault
      → ◌≡◌ {A = PlayAnswer Num} (record { instants = 0; rows = 0; ending = Refused fault; world = world; log = log }) (played_out log (playing lent budget room world))
  unfolding copies_in
  refused_at_once zero room log fault some fails = absurd (omega arith)
  refused_at_once (suc budget) room log fault some fails =
      let refuses : opening lent world ≡ Err fault = rw (fails, opening) refl in
      rw (playing_ends lent budget room world (Refused fault) (tried_refused lent room world fault refuses)) refl
