-- What writing bytes answers, and what the page then holds. Assumes nothing.
use Rattle.std.specs.Prelude.{ℕ, List, Ok, Err, Result}
use Rattle.std.specs.Option.{ok_or}
use Rattle.refusal.specs.declared.RunFault.{RunFault}
use Rattle.refusal.specs.declared.RunFault.TheVariants.{NoRoom}
use Rattle.page.specs.Pages.{fitting, written}

-- bytes are written where nothing is wrong and they fit; how many they are is answered
abbrev pub write_answer : Result (Unit {0}) RunFault → List ℕ → List ℕ → Result ℕ RunFault
write_answer (Ok t) bytes page = ok_or (fitting bytes page) NoRoom
write_answer (Err fault) bytes page = Err fault

abbrev pub write_page : Result (Unit {0}) RunFault → List ℕ → List ℕ → List ℕ
write_page (Ok t) bytes page = written bytes page
write_page (Err fault) bytes page = page
