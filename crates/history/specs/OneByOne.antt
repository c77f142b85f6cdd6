-- Play is its calls one by one. Assumes nothing.
use Rattle.std.specs.Prelude.{◌≡◌, ℕ, Bool, true, false, List, None}
use Rattle.std.specs.List.{list_all}
use Rattle.history.specs.Histories.{Call, Answer, history, InEveryRun}
use Rattle.history.specs.Histories.Call.{Open, Carry, Close, Damaging, Look, Play}
use Rattle.history.specs.Histories.Answer.{Granted, Copied, Shows, Plays, Declines, NotLet}
use Rattle.history.specs.Plays.{Event, playing}
use Rattle.history.specs.Worlds.{Field, Lent, World}

module _ {Num : Type 0} where
  -- the calls that an instant is made of
  abbrev pub of_instants : Call Num → Bool
  of_instants Open = true
  of_instants Carry = true
  of_instants Close = true
  of_instants (Damaging damage) = false
  of_instants (Look sensor) = false
  of_instants (Play budget room) = false

  -- neither declined nor refused by the types
  abbrev pub goes_through : Answer Num → Bool
  goes_through Granted = true
  goes_through (Copied copy) = true
  goes_through (Shows row) = true
  goes_through (Plays instants copies ending) = true
  goes_through (Declines fault) = false
  goes_through NotLet = false

-- What happened from one place to another happens so call by call too, and each call goes through: so the carries answer its copies.
pub record OneByOne {Num : Type 0} (lent : Lent Num) (world : World Num) (events : List (Event Num)) (after : World Num) : Type 0 where
  pub calls : List (Call Num)
  pub each : list_all of_instants calls ≡ true
  pub go_through : list_all goes_through (history lent calls world).answers ≡ true
  pub happens : (history lent calls world).events ≡ events
  pub leads : (history lent calls world).world ≡ after

-- In every run, where it stands between instants, play is its calls one by one.
unfoldable pub PlaysOneByOne : {Num : Type 0} → Field Num → World Num → Type 0
PlaysOneByOne field start =
    InEveryRun field start (λ lent went.
    (budget room : ℕ) → went.world.position ≡ None
    → let played = playing lent budget room went.world in OneByOne lent went.world played.events played.world)
