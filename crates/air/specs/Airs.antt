-- Which copies come through. Assumes nothing.
use Rattle.std.specs.Prelude.{◌≡◌, ℕ, Bool, true, false, not, ◌&&◌, List, Some, ◌==◌, slice_index}
use Rattle.std.specs.List.{list_any, slice_get}
use Rattle.field.specs.declared.Link.{Link}
use Rattle.field.specs.declared.Loss.{Loss}

-- what an air answers, for an instant, a link, the links and the sender bytes
abbrev pub Carrying : Type 0
Carrying = ℕ → Link → List Link → List ℕ → Bool

-- a sensor sends if its byte is 1; a byte that is not there is 0
abbrev pub sends : List ℕ → ℕ → Bool
sends senders sensor = slice_index senders sensor == 1

-- the copy over this link at this instant is among the losses
abbrev pub listed : List Loss → ℕ → Link → Bool
listed losses instant link = list_any (λ loss. loss.from == link.from && (loss.to == link.to && loss.instant == instant)) losses

-- the air below says yes, and the copy is not listed
abbrev pub losses_carry : List Loss → Carrying → Carrying
losses_carry losses below instant link links senders = below instant link links senders && not (listed losses instant link)

-- a link from another sensor, which sends
abbrev pub rivals : Link → List ℕ → Link → Bool
rivals link senders other = not (other.from == link.from) && sends senders other.from

-- and into the same receiver
abbrev pub meets : Link → List ℕ → Link → Bool
meets link senders other = other.to == link.to && rivals link senders other

-- one of the links is such a one
abbrev pub drowned : Link → List Link → List ℕ → Bool
drowned link links senders = list_any (meets link senders) links

-- the air below says yes, the receiver does not send, and no other sensor sends over a link into it
abbrev pub collisions_carry : Carrying → Carrying
collisions_carry below instant link links senders = below instant link links senders && (not (sends senders link.to) && not (drowned link links senders))

-- What a yes and a no say, by the links at their places: no link of the list meets the copy, or one does.
unfoldable pub Comes : Carrying → ℕ → Link → List Link → List ℕ → Bool → Type 0
Comes below instant link links senders true = (below instant link links senders ≡ true) × (sends senders link.to ≡ false) × ((k : ℕ) (other : Link) → slice_get links k ≡ Some other → meets link senders other ≡ false)
Comes below instant link links senders false = below instant link links senders ≡ true → sends senders link.to ≡ false → (k : ℕ) × (other : Link) × (slice_get links k ≡ Some other) × (meets link senders other ≡ true)
