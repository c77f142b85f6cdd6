-- What is true of a run from where it begins. Assumes nothing.
use Rattle.std.specs.Prelude.{ℕ}
use Rattle.air.specs.Airs.{Carrying}
use Rattle.air.specs.Delays.{KeepsPeriods}
use Rattle.history.specs.Counted.{CountsTell}
use Rattle.history.specs.Limits.{ChecksStay, LimitsAreKept}
use Rattle.history.specs.OneByOne.{PlaysOneByOne}
use Rattle.history.specs.PlayLaws.{CallLaws, PlayLaws}
use Rattle.history.specs.Unread.{NotRead, SameTold}
use Rattle.history.specs.Worlds.{Field, Lent, World}

-- the laws of the calls of a run, with whatever delay rule and air
pub record KeepLaws {Num : Type 0} (lent : Lent Num) : Type 0 where
  pub checks : ChecksStay lent
  pub plays : PlayLaws lent
  pub answers : CallLaws lent
  pub unread : (other : Lent Num) → SameTold lent other → NotRead lent other

-- Beside that its floods settle: rows and bytes keep their limits, counts tell what has happened, and play is its calls one by one.
pub record RunLaws {Num : Type 0} (field : Field Num) (start : World Num) : Type 0 where
  pub limits : LimitsAreKept field start
  pub counts : CountsTell field start
  pub one_by_one : PlaysOneByOne field start
  pub calls : (period : ℕ → ℕ → ℕ → ℕ) (carries : Carrying) → KeepsPeriods period → KeepLaws (record { field = field; period = period; carries = carries })
