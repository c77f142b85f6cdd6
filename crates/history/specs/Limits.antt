-- A run within its limits. Assumes nothing.
use Rattle.std.specs.Prelude.{◌≡◌, ℕ, ◌<◌, ◌≤◌, true, false, [], length, is_some, Some, None, Ok, Option, slice_get}
use Rattle.field.specs.declared.Link.{Link}
use Rattle.field.specs.declared.Row.{Row}
use Rattle.field.specs.declared.Stage.{Stage}
use Rattle.field.specs.declared.Stage.TheVariants.{Between, Within}
use Rattle.field.specs.Rows.{ends_within, link_keeps, row_keeps}
use Rattle.flood.specs.Instants.{byte_of}
use Rattle.history.specs.Calls.{AfterCopy, copy_left, opening, next_taken}
use Rattle.vetting.specs.Cases.{bad_damage, names_none}
use Rattle.vetting.specs.declared.Named.{Named}
use Rattle.vetting.specs.declared.Named.TheVariants.{Nothing}
use Rattle.history.specs.Checks.{checked, seen_at}
use Rattle.history.specs.Histories.{InEveryRun}
use Rattle.history.specs.Plays.{instant_gone}
use Rattle.history.specs.Worlds.{Field, Lent, World, told_links}

abbrev pub stage_of : Option ℕ → Stage
stage_of None = Between
stage_of (Some position) = Within

module _ {Num : Type 0} (field : Field Num) where
  -- the links that were told are there and keep their limits
  pub record LinksKeep : Type 0 where
    pub there : field.count ≤ length field.links
    pub keep : (k : ℕ) (link : Link) → slice_get (told_links field) k ≡ Some link → (ends_within field.settings.n link.from link.to ≡ true) × (link_keeps link ≡ true)

  -- each sensor's row and byte are there and keep their limits
  pub record InLimits (world : World Num) : Type 0 where
    pub rows_there : field.settings.n ≤ length world.rows
    pub bytes_there : field.settings.n ≤ length world.senders
    pub rows_keep :
        (sensor : ℕ) (row : Row Num) → sensor < field.settings.n → slice_get world.rows sensor ≡ Some row
        → row_keeps field.numbering field.settings (stage_of world.position) sensor row ≡ true
    pub bytes_keep :
        (sensor : ℕ) (row : Row Num) (byte : ℕ) → sensor < field.settings.n → slice_get world.rows sensor ≡ Some row → slice_get world.senders sensor ≡ Some byte
        → byte ≡ byte_of (Some row)

-- A call that names a sensor names one that there is, and one that damages it leaves its row within its limits.
abbrev pub Fits : {Num : Type 0} → Field Num → Named Num → Type 0
Fits field named = let seen = seen_at field named Between [] [] in (k : ℕ) → (names_none seen k ≡ false) × (bad_damage seen named k ≡ false)

-- In every run rows and bytes keep their limits, so that each call that fits passes its check, whatever came before; and an instant
-- that opens ends with every row within its limits.
unfoldable pub LimitsAreKept : {Num : Type 0} → Field Num → World Num → Type 0
LimitsAreKept {Num} field start = InEveryRun field start (λ lent went.
    LinksKeep field
    × InLimits field went.world
    × ((named : Named Num) → Fits field named → checked field named (stage_of went.world.position) went.world.rows went.world.senders ≡ Ok tt)
    × ((next : World Num) → went.world.position ≡ None → opening lent went.world ≡ Ok next → InLimits field (instant_gone lent went.world).world))

-- Whatever is lent, in a run or not, a check that has passed goes on to pass: in an instant that open granted, copy after copy, and
-- after it. So play may check once. And where it has passed, close tells that a copy is left exactly where carry would answer one.
pub record ChecksStay {Num : Type 0} (lent : Lent Num) : Type 0 where
  pub opens : (world next : World Num) → world.position ≡ None → opening lent world ≡ Ok next → checked lent.field Nothing Within next.rows next.senders ≡ Ok tt
  pub takes :
      (world : World Num) (next : AfterCopy Num) → checked lent.field Nothing Within world.rows world.senders ≡ Ok tt → next_taken lent world ≡ Some next
      → checked lent.field Nothing Within next.world.rows next.world.senders ≡ Ok tt
  pub left :
      (world : World Num) (position : ℕ) → world.position ≡ Some position → checked lent.field Nothing Within world.rows world.senders ≡ Ok tt
      → copy_left lent.field world ≡ is_some (next_taken lent world)
  pub instants :
      (world next : World Num) → world.position ≡ None → opening lent world ≡ Ok next
      → checked lent.field Nothing Between (instant_gone lent world).world.rows (instant_gone lent world).world.senders ≡ Ok tt
