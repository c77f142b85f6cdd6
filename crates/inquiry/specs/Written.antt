-- The text of an answer. Assumes nothing.
use Rattle.std.specs.Prelude.{ℕ, min, cond, List, [], ◌++◌, length, codes, decimal, ◌==◌, nat_lt}
use Rattle.numbering.specs.Meaning.{Meaning}
use Rattle.hearing.specs.declared.Forecast.{Forecast}
use Rattle.hearing.specs.declared.Heard.{Heard}
use Rattle.hearing.specs.Hearing.{hearing}
use Rattle.hearing.specs.Written.{verdict_word}
use Rattle.page.specs.Pages.{joined}
use Rattle.inquiry.specs.declared.reports.LentReport.{LentReport}
use Rattle.inquiry.specs.declared.reports.Report.{Report}

-- at most so many floods are listed
abbrev pub listed : ℕ
listed = 512

unfoldable pub bound_line : ℕ → ℕ → List ℕ
bound_line patience catch_up = codes "patience " ++ (decimal patience ++ (codes ", catch-up " ++ (decimal catch_up ++ codes "\n")))

-- why the list is shorter than the catch-up count
abbrev pub stop_line : ℕ → ℕ → List ℕ
stop_line catch_up count = cond (nat_lt count catch_up) (cond (count == listed) (codes "the list stops after 512 floods\n") (codes "no number follows\n")) []

module _ {Num : Type 0} (worth : Num → ℕ) where
  -- the line of a flood, whose place is counted from 1
  unfoldable pub flood_line : ℕ → Heard Num → List ℕ
  flood_line place flood = codes "flood " ++ (decimal place ++ (codes ": number " ++ (decimal (worth flood.number) ++ (codes " " ++ (verdict_word flood.verdict ++ (codes ", holds " ++ (decimal (worth flood.held) ++ codes "\n")))))))

  -- the lines of floods, the first of them at `place`
  abbrev pub flood_lines : ℕ → List (Heard Num) → List ℕ
  flood_lines = joined flood_line

  abbrev pub forecast_text : ℕ → ℕ → List (Heard Num) → List ℕ
  forecast_text patience catch_up floods = bound_line patience catch_up ++ (flood_lines 1 floods ++ stop_line catch_up (length floods))

abbrev pub free_text : List ℕ
free_text = codes "free does not settle: it has no patience and no catch-up count\n"

-- of a sensor and a base that hold two numbers, and what is foretold of them
module _ {Num : Type 0} (m : Meaning Num) (held base : Num) (forecast : Forecast) where
  -- the floods that are listed
  abbrev pub told_floods : List (Heard Num)
  told_floods = hearing m (min forecast.catch_up listed) held base

  -- the text
  abbrev pub told_text : (Num → ℕ) → List ℕ
  told_text worth = forecast_text worth forecast.patience forecast.catch_up told_floods

-- the floods that a report lists
abbrev pub listed_floods : {N Num : Type 0} → (N → Meaning Num) → Report N Num → List (Heard Num)
listed_floods meaning r = told_floods (meaning r.numbering) r.held r.base r.forecast

-- the text of a report
abbrev pub report_text : {N Num : Type 0} → (N → Meaning Num) → (Num → ℕ) → Report N Num → List ℕ
report_text meaning worth r = told_text (meaning r.numbering) r.held r.base r.forecast worth

-- the same of a report in a numbering that is lent
abbrev pub lent_floods : {N Num : Type 0} → (N → Meaning Num) → LentReport N Num → List (Heard Num)
lent_floods meaning r = told_floods (meaning r.numbering.now) r.held r.base r.forecast

abbrev pub lent_text : {N Num : Type 0} → (N → Meaning Num) → (Num → ℕ) → LentReport N Num → List ℕ
lent_text meaning worth r = told_text (meaning r.numbering.now) r.held r.base r.forecast worth
