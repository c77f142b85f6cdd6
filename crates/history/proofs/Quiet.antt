-- An instant in which no sensor sends. Assumes nothing.
use Rattle.std.proofs.Common.{◌≡◌, ℕ, suc, ◌<◌, false, List, [], ◌∷◌, ◌++◌, length, Some, None, Ok, Option, sym, refl, ap, ◌∙◌, arith}
use Rattle.std.specs.List.{slice_get}
use Rattle.field.specs.declared.Message.{Message}
use Rattle.field.specs.declared.Row.{Row}
use Rattle.flood.specs.Copies.{outgoing_of}
use Rattle.flood.specs.Instants.{row_closed, byte_of, closed, sending, silent}
use Rattle.vetting.specs.declared.Named.TheVariants.{Nothing}
use Rattle.history.specs.Calls.{AfterCopy, counted_open, next_taken, opening, rows_opened, world_closed, world_opened}
use Rattle.history.specs.Limits.{InLimits, LinksKeep}
use Rattle.history.specs.Plays.{Went, instant_gone, open_events}
use Rattle.history.specs.Plays.Event.{Opens}
use Rattle.history.specs.Worlds.{Lent, World, told_links}
use Rattle.history.proofs.Checks.{check_gives}
use Rattle.history.proofs.Kept.{carried_from, opening_passed}
use Rattle.history.proofs.Limits.{link_gives, row_at, sent_by}
use Rattle.history.proofs.NextCopies.{none_taken}
use Rattle.history.proofs.Places.{changed_same, changed_twice, none_is_some, there_is}
use Rattle.history.proofs.RowLimits.{none_outgoing}

module _
    {Num : Type 0} (lent : Lent Num) (world next : World Num) (here : world.position ≡ None) (granted : opening lent world ≡ Ok next)
    (none_sends : (sensor : ℕ) (row : Row Num) → sensor < lent.field.settings.n → slice_get (rows_opened lent world) sensor ≡ Some row → row.outgoing ≡ None) where
  abbrev n : ℕ
  n = lent.field.settings.n

  abbrev rows : List (Row Num)
  rows = rows_opened lent world

  told : LinksKeep lent.field × InLimits lent.field world
  told = check_gives lent.field Nothing world None here (opening_passed lent world next granted)

  -- so no copy goes
  none_goes : next_taken lent (world_opened lent world) ≡ None
  unfolding world_opened
  none_goes = by (next_taken lent (world_opened lent world)) refl
    where
      by : (o : Option (AfterCopy Num)) → next_taken lent (world_opened lent world) ≡ o → next_taken lent (world_opened lent world) ≡ None
      by None e = e
      by (Some copy) e =
          let f = carried_from lent (world_opened lent world) 0 copy refl e in
          let sender = sent_by rows f.link f.message f.goes in
          let sends = none_sends f.link.from sender.0 (link_gives lent.field told.0 f.place f.link f.there).0 sender.1 in
          none_is_some f.message (sym sends ∙ sender.2)

  base_sends_none : outgoing_of rows 0 ≡ None
  base_sends_none = by (slice_get rows 0) refl
    where
      by : (o : Option (Row Num)) → slice_get rows 0 ≡ o → let sent : Option (Message Num) = elim o [ None ↦ None | Some row ↦ row.outgoing ] in sent ≡ None
      by None there = refl
      by (Some row) there = none_sends 0 row (omega arith) there

  -- what is closed is as it was open, and no byte changes
  rows_stay : closed n rows ≡ rows
  rows_stay = changed_same (λ sensor. row_closed) 0 n rows (λ k row h e. ap (λ (o : Option (Message Num)). record row { outgoing = o }) (sym (none_sends k row h e)))

  bytes_stay : silent n (sending rows n world.senders) ≡ world.senders
  bytes_stay =
      changed_twice (λ sensor byte. byte_of (slice_get rows sensor)) (λ sensor byte. 0) 0 n world.senders
      ∙ changed_same (λ sensor byte. 0) 0 n world.senders (λ k byte h e.
      let row = there_is world.rows k (omega (arith, told.1.rows_there)) in
      let none = none_outgoing lent.field row.0.outgoing (row_at lent.field world None here told.1 k row.0 h row.1).outgoing in
      ap (λ (o : Option (Message Num)). byte_of (Some (record row.0 { outgoing = o }))) (sym none) ∙ sym (told.1.bytes_keep k row.0 byte h row.1 e))

  -- No copy is taken in it, and nothing is left to close.
  pub quiet_instant :
      instant_gone lent world
      ≡ record {
        events = Opens ∷ [];
        world = record world { rows = rows_opened lent world; instant = suc world.instant; counts = counted_open false world.counts };
      }
  unfolding instant_gone world_opened world_closed open_events
  quiet_instant =
      let opened = world_opened lent world in
      ap (λ (went : Went Num). record { events = open_events world opened ++ went.events; world = world_closed lent.field went.world }) (none_taken lent (length (told_links lent.field)) opened none_goes)
      ∙ rw (base_sends_none, rows_stay, bytes_stay, here) refl
