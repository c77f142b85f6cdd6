-- What the rules come to in single cases. Assumes nothing.
use Rattle.std.specs.Prelude.{◌≡◌, ℕ, ◌%◌, true, false, Some}
use Rattle.air.specs.Draws.{draw, drawn_carries}
use Rattle.field.specs.declared.Message.{Message}
use Rattle.flood.specs.Sensors.{taken}
use Rattle.flood.specs.declared.hearing.Verdict.{Verdict}
use Rattle.flood.specs.declared.hearing.Verdict.TheVariants.{Accepted, Forwards, Refused}
use Rattle.history.specs.Worked.{link_of, row_of}
use Rattle.numbering.specs.Four.{circular, circular_catch_up, differentiated, half}
use Rattle.numbering.specs.Meaning.{Meaning}

abbrev pub message : ℕ → ℕ → Message ℕ
message hop number = record { hop = hop; number = number }

-- the verdict on a copy with this number that is carried, at a sensor that holds that one
abbrev pub verdict_on : Meaning ℕ → ℕ → ℕ → Verdict
verdict_on m copy held = (taken m true (message 1 copy) (row_of 1 held)).verdict

pub record CheckedExamples : Type 0 where
  -- Differentiated, smax 2, at a sensor that holds 1: a copy with 1 is refused, and one with 2 accepted.
  pub differentiated_fresh : ((differentiated 2).fresh 1 1 ≡ false) × ((differentiated 2).fresh 2 1 ≡ true)
  pub differentiated_verdicts : (verdict_on (differentiated 2) 1 1 ≡ Refused) × (verdict_on (differentiated 2) 2 1 ≡ Accepted)
  -- Circular, smax 7, at a sensor that holds 6: a copy with 1 is accepted, and one with 2 refused.
  pub circular_fresh : ((circular 7).fresh 1 6 ≡ true) × ((circular 7).fresh 2 6 ≡ false)
  pub circular_verdicts : (verdict_on (circular 7) 1 6 ≡ Accepted) × (verdict_on (circular 7) 2 6 ≡ Refused)
  -- Circular, smax 7: G is 3, and C is 9.
  pub circular_bounds : (half 7 ≡ 3) × (circular_catch_up 7 ≡ 9)
  -- Seed 1, instant 1, link 0 to 1: the draw modulo 100 is 34, so a label of 35 carries, and one of 34 loses.
  pub drawn : draw 1 1 0 1 % 100 ≡ 34
  pub drawn_carry : (drawn_carries 1 1 (record (link_of 0 1) { label = 35 }) ≡ true) × (drawn_carries 1 1 (record (link_of 0 1) { label = 34 }) ≡ false)
  -- A fresh copy of hop 2 makes an unmarked receiver forward it; one that is marked accepts it, and its mark stays.
  pub unmarked : taken (differentiated 2) true (message 2 2) (row_of 1 1) ≡ record { verdict = Forwards; row = record (row_of 1 2) { mark = Some 1 } }
  pub marked :
      (hop : ℕ)
      → taken (differentiated 2) true (message 2 2) (record (row_of 1 1) { mark = Some hop }) ≡ record { verdict = Accepted; row = record (row_of 1 2) { mark = Some hop } }
