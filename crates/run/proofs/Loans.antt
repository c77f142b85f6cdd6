-- What is lent, through several steps. Assumes nothing.
use Rattle.std.proofs.Common.{◌≡◌, ℕ, ◌∙◌, refl}
use Rattle.air.specs.Airs.{Carrying}
use Rattle.numbering.specs.Meaning.{Meaning}
use Rattle.run.specs.declared.states.Progress.{Progress}
use Rattle.run.specs.declared.lending.Lent.{Lent}
use Rattle.run.specs.Standing.{SameLoans, given}

module _ {N D A Num : Type 0} where
  pub loans_stay : (lent : Lent N D A Num) → SameLoans lent lent
  loans_stay lent = record { numbering = refl; delay = refl; air = refl; links = refl; rows = refl; senders = refl }

  pub loans_through : {before during after : Lent N D A Num} → SameLoans before during → SameLoans during after → SameLoans before after
  loans_through first then = record {
    numbering = then.numbering ∙ first.numbering;
    delay = then.delay ∙ first.delay;
    air = then.air ∙ first.air;
    links = then.links ∙ first.links;
    rows = then.rows ∙ first.rows;
    senders = then.senders ∙ first.senders;
  }

  -- so what a call is given is the same, where the run holds the same settings and count
  pub given_same :
      (meaning : N → Meaning Num) (period : D → ℕ → ℕ → ℕ → ℕ) (carries : A → Carrying) (p q : Progress) (before after : Lent N D A Num)
      → SameLoans before after → q.settings ≡ p.settings → q.count ≡ p.count → given meaning period carries q after ≡ given meaning period carries p before
  given_same meaning period carries p q before after same settings count = rw (same.numbering, same.delay, same.air, same.links, settings, count) refl
