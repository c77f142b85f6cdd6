-- What is heard, in words. Assumes nothing.
use Rattle.std.specs.Prelude.{ℕ, List, codes}
use Rattle.hearing.specs.declared.Verdict.{Verdict}
use Rattle.hearing.specs.declared.Verdict.TheVariants.{Accepted, Refused}

abbrev pub verdict_word : Verdict → List ℕ
verdict_word Accepted = codes "accepted"
verdict_word Refused = codes "refused"
