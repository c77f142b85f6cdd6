-- What stands at the front of a page once bytes are written. Assumes nothing.
use Rattle.std.proofs.Common.{◌≡◌, ℕ, Bool, true, false, leb, List, length, take, drop, Ok, Err, Result, sym, refl, subst}
use Rattle.std.proofs.Math.Seq.{take-append_seam}
use Rattle.std.specs.Result.{IfOk}
use Rattle.refusal.specs.declared.RunFault.{RunFault}
use Rattle.writing.specs.Answers.{write_answer, write_page}

-- where bytes are answered to be written, they are the front of the page, and nothing is wrong
pub front_is : (P : List ℕ → Type 0) (judged : Result (Unit {0}) RunFault) (bytes page : List ℕ) (result : Result ℕ RunFault) (new : List ℕ)
    → result ≡ write_answer judged bytes page → new ≡ write_page judged bytes page → (judged ≡ Ok tt → P bytes) → IfOk result (λ size. P (take size new))
front_is P (Err fault) bytes page result new answer wrote there = rw answer tt
front_is P (Ok t) bytes page result new answer wrote there = rw (answer, wrote) (by (leb (length bytes) (length page)) refl)
  where
    by : (b : Bool) → leb (length bytes) (length page) ≡ b → IfOk (write_answer (Ok t) bytes page) (λ size. P (take size (write_page (Ok t) bytes page)))
    by true fits = rw fits (subst P (sym (take-append_seam bytes (drop (length bytes) page))) (there refl))
    by false fits = rw fits tt
