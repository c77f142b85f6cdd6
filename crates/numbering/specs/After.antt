-- The numbers after a number, by a rule for the i-th of them. Assumes nothing.
use Rattle.std.specs.Bool.{then_some}
use Rattle.std.specs.Prelude.{◌≡◌, ℕ, zero, suc, Bool, true, false, Some, None, Option}
use Rattle.std.proofs.Common.{subst}
use Rattle.numbering.specs.Meaning.{Meaning, follow, after}

-- what stands there where a test holds
pub then_some_gives : {Num : Type 0} (b : Bool) (x t : Num) → then_some b x ≡ Some t → t ≡ x
then_some_gives true x t e = cc
then_some_gives false x t e = cc

module _ {Num : Type 0} (m : Meaning Num) where
  -- what follows came from a number that is there
  pub follow_some : (o : Option Num) (t : Num) → follow m o ≡ Some t → (s : Num) × (o ≡ Some s) × (m.next s ≡ Some t)
  follow_some None t e = absurd (cc)
  follow_some (Some s) t e = (s, cc, e)

  -- Where f starts at s and each step from f i leads to f (i + 1), the i-th number after s is f i.
  pub after_at : (s : Num) (f : ℕ → Num) → s ≡ f 0 → ((i : ℕ) (t : Num) → m.next (f i) ≡ Some t → t ≡ f (suc i)) → (i : ℕ) (t : Num) → after m i s ≡ Some t → t ≡ f i
  after_at s f start step zero t e = cc
  after_at s f start step (suc i) t e =
      let cut = follow_some (after m i s) t e in
      step i t (subst (λ (u : Num). m.next u ≡ Some t) (after_at s f start step i cut.0 cut.1) cut.2)
