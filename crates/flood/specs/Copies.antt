-- Which copy comes next in an open instant. Assumes nothing.
use Rattle.std.specs.Prelude.{ℕ, Bool, false, ◌&&◌, List, length, is_some, Some, None, Option, nat_le}
use Rattle.std.specs.List.{slice_get}
use Rattle.search.specs.Lowest.{lowest}
use Rattle.field.specs.declared.Link.{Link}
use Rattle.field.specs.declared.Message.{Message}
use Rattle.field.specs.declared.Row.{Row}

module _ {Num : Type 0} (rows : List (Row Num)) where
  -- the message that a sensor sends, if there is one
  abbrev pub outgoing_of : ℕ → Option (Message Num)
  outgoing_of sensor = elim (slice_get rows sensor) [ None ↦ None | Some row ↦ row.outgoing ]

  -- what goes over a link: its sender's message
  abbrev pub message_on : Link → Option (Message Num)
  message_on link = outgoing_of link.from

  -- a copy goes over the link at a place
  abbrev pub copy_here : List Link → ℕ → Bool
  copy_here links k = elim (slice_get links k) [ None ↦ false | Some link ↦ is_some (message_on link) ]

  -- the same, where the place is not before the position
  abbrev pub copy_at : List Link → ℕ → ℕ → Bool
  copy_at links position k = nat_le position k && copy_here links k

  -- the place of the next copy from a position on, in the order of the links
  abbrev pub next_copy : List Link → ℕ → Option ℕ
  next_copy links position = lowest (copy_at links position) (length links)
