-- The floods that a report lists, one by one. Assumes nothing.
use Rattle.std.proofs.Common.{◌≡◌, suc, ◌+◌, ◌<◌, min, List, ◌∷◌, ◌++◌, length, length-append, sym, ap, ◌∙◌, arith}
use Rattle.numbering.specs.Meaning.{Meaning}
use Rattle.hearing.specs.declared.Heard.{Heard}
use Rattle.hearing.proofs.Hears.{hearing_most}
use Rattle.inquiry.specs.declared.reports.LentReport.{LentReport}
use Rattle.inquiry.specs.Written.{listed, lent_floods}

-- fewer are told than are listed while one is left
pub one_left : {N Num : Type 0} (meaning : N → Meaning Num) (r : LentReport N Num) (told rest : List (Heard Num)) (flood : Heard Num) → told ++ (flood ∷ rest) ≡ lent_floods meaning r → length told < listed
one_left meaning r told rest flood e =
    let most = hearing_most (meaning r.numbering.now) (min r.forecast.catch_up listed) r.held r.base in
    let all : length told + suc (length rest) ≡ length (lent_floods meaning r) = sym (length-append told (flood ∷ rest)) ∙ ap length e in
    omega (arith, most, all)
