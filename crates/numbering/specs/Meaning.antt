-- What a numbering means, which numbers come after a number, and what it is to settle. Assumes nothing.
use Rattle.std.specs.Prelude.{◌≡◌, ℕ, zero, suc, ◌+◌, ◌<◌, ◌≤◌, Bool, true, false, ◌⊎◌, is_some, Some, None, Option}

-- a numbering, by its three answers
pub record Meaning (Num : Type 0) : Type 0 where
  -- may this number be held or sent
  pub lawful : Num → Bool
  -- the number that the base sends next, or that none follows
  pub next : Num → Option Num
  -- does a copy with the first number pass for new at a sensor that holds the second
  pub fresh : Num → Num → Bool

abbrev pub Lawful : {Num : Type 0} → Meaning Num → Num → Type 0
Lawful m s = m.lawful s ≡ true

-- what follows a lawful number is lawful
abbrev pub KeepsLawful : {Num : Type 0} → Meaning Num → Type 0
KeepsLawful {Num} m = (s t : Num) → Lawful m s → m.next s ≡ Some t → Lawful m t

abbrev pub follow : {Num : Type 0} → Meaning Num → Option Num → Option Num
follow m None = None
follow m (Some s) = m.next s

-- the i-th number after s, where so many follow
abbrev pub after : {Num : Type 0} → Meaning Num → ℕ → Num → Option Num
after m zero s = Some s
after m (suc i) s = follow m (after m i s)

-- the three laws of a settling numbering, at its patience G and its catch-up count C
pub record Settles {Num : Type 0} (m : Meaning Num) (G : ℕ) (C : Num → Num → ℕ) : Type 0 where
  -- no number is fresh against itself
  pub itself : (s : Num) → Lawful m s → m.fresh s s ≡ false
  -- each of the G numbers that follow s, as far as they exist, is fresh against s
  pub least : 1 ≤ G
  pub patience : (s t : Num) (i : ℕ) → Lawful m s → 1 ≤ i → i ≤ G → after m i s ≡ Some t → m.fresh t s ≡ true
  -- among the first C numbers after b, if so many follow, some G in a row are each fresh against x or equal to x
  pub enough : (x b : Num) → Lawful m x → Lawful m b → G ≤ C x b
  pub catch_up : (x b : Num) → Lawful m x → Lawful m b → is_some (after m (C x b) b) ≡ true → (j : ℕ) × (j + G ≤ C x b) × ((i : ℕ) (t : Num) → j < i → i ≤ j + G → after m i b ≡ Some t → (m.fresh t x ≡ true) ⊎ (t ≡ x))
