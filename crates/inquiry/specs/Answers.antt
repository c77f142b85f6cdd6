-- What `bound` answers to its words. Assumes nothing.
use Rattle.std.specs.Prelude.{ℕ, ◌≡◌, ◌^◌, Bool, min, List, Some, None, Ok, Err, Option, Result}
use Rattle.numbering.specs.Four.{free, linear, linear_patience, linear_catch_up, ring, half, circular_fresh, circular_catch_up, differs}
use Rattle.numbering.specs.Kinds.{below, zero_of}
use Rattle.numbering.specs.Meaning.{Meaning}
use Rattle.numbering.specs.declared.kind.NumberKind.{Ghosts as KindOf}
use Rattle.hearing.specs.Hearing.{hearing}
use Rattle.inquiry.specs.declared.complaint.Complaint.{Complaint}
use Rattle.inquiry.specs.declared.complaint.Complaint.TheVariants.{Words, Numbering, Smax, Held, Base}
use Rattle.inquiry.specs.declared.reading.Name.{Name}
use Rattle.inquiry.specs.declared.reading.Name.TheVariants.{Free, Linear, Circular, Differentiated}
use Rattle.inquiry.specs.Reading.{lawful_in, smax_in, named, first_of, pair_of}
use Rattle.hearing.specs.declared.Forecast.{Forecast}
use Rattle.inquiry.specs.declared.reports.LentReport.{LentReport}
use Rattle.inquiry.specs.Written.{listed, forecast_text, free_text, told_text, lent_text}

-- a text, or why there is none
abbrev pub Answer : Type 0
Answer = Result (List ℕ) Complaint

-- the text of what is answered
abbrev pub texts : {A : Type 0} → (A → List ℕ) → Result A Complaint → Answer
texts text (Ok a) = Ok (text a)
texts text (Err e) = Err e

-- the lawful numbers that two words write, the sensor's and the base's
abbrev pub both_in : {Num : Type 0} → Meaning Num → (ℕ → Option Num) → List ℕ → List ℕ → Result (Num × Num) Complaint
both_in m of held base =
    elim (lawful_in m of held) [ None ↦ Err Held | Some x ↦ elim (lawful_in m of base) [ None ↦ Err Base | Some b ↦ Ok (x, b) ] ]

-- the forecast for the numbers that two words write, in a settling numbering
abbrev pub settling : {Num : Type 0} → Meaning Num → ℕ → (Num → Num → ℕ) → (ℕ → Option Num) → (Num → ℕ) → List ℕ → List ℕ → Answer
settling m G C of worth held base =
    elim (both_in m of held base) [ Err e ↦ Err e | Ok p ↦ Ok (forecast_text worth G (C p.0 p.1) (hearing m (min (C p.0 p.1) listed) p.0 p.1)) ]

-- The same by the members of a settling numbering, which a clause writes `N.Settling`, and of its number kind.
abbrev pub forecast_of : {N Num : Type 0} → record { meaning : N → Meaning Num; patience : N → ℕ; catchup : N → Num → Num → ℕ } → KindOf Num → N → List ℕ → List ℕ → Answer
forecast_of s k n = settling (s.meaning n) (s.patience n) (s.catchup n) k.of k.worth

-- a settling numbering, as a clause writes it
abbrev pub SettlingOf : Type 0 → Type 0 → Type 0
SettlingOf N Num = record { meaning : N → Meaning Num; patience : N → ℕ; catchup : N → Num → Num → ℕ }

-- What is answered of two words has the text of their forecast, or it is the complaint: of the two numbers and what is foretold, and of a
-- report in a numbering that is lent.
module _ {N Num : Type 0} (s : SettlingOf N Num) (k : KindOf Num) (n : N) (held base : List ℕ) where
  abbrev pub Asked : Result (Num × Num × Forecast) Complaint → Type 0
  Asked result = texts (λ a. told_text (s.meaning n) a.0 a.1 a.2 k.worth) result ≡ forecast_of s k n held base

  abbrev pub Lent : Result (LentReport N Num) Complaint → Type 0
  Lent result = texts (lent_text s.meaning k.worth) result ≡ forecast_of s k n held base

-- two words, no fewer and no more
abbrev pub two : (List ℕ → List ℕ → Answer) → List (List ℕ) → Answer
two f words = elim (pair_of words) [ None ↦ Err Words | Some p ↦ f p.0 p.1 ]

-- an smax, and then the words that a numbering over 0 to smax takes
abbrev pub after_smax : (ℕ → List (List ℕ) → Answer) → List (List ℕ) → Answer
after_smax f words = elim (first_of words) [ None ↦ Err Words | Some p ↦ elim (smax_in p.0) [ None ↦ Err Smax | Some smax ↦ f smax p.1 ] ]

-- free does not settle, whichever lawful numbers are held
abbrev pub free_answer : List ℕ → List ℕ → Answer
free_answer held base = elim (both_in free zero_of held base) [ Err e ↦ Err e | Ok p ↦ Ok free_text ]

-- the forecast in a ring of the numbers 0 to smax, by a rule's freshness, patience and catch-up count
abbrev pub ringed_answer : (ℕ → ℕ → ℕ → Bool) → (ℕ → ℕ) → (ℕ → ℕ) → ℕ → List (List ℕ) → Answer
ringed_answer fresh G C smax = two (settling (ring smax (fresh smax)) (G smax) (λ x b. C smax) (below 256) (λ x. x))

abbrev pub circular_answer : ℕ → List (List ℕ) → Answer
circular_answer = ringed_answer circular_fresh half circular_catch_up

abbrev pub differentiated_answer : ℕ → List (List ℕ) → Answer
differentiated_answer = ringed_answer (λ smax. differs) (λ smax. smax) (λ smax. smax)

abbrev pub answer_named : Name → List (List ℕ) → Answer
answer_named Free = two free_answer
answer_named Linear = two (settling linear linear_patience linear_catch_up (below (2 ^ 32)) (λ x. x))
answer_named Circular = after_smax circular_answer
answer_named Differentiated = after_smax differentiated_answer

-- Words are read from left to right, the numbering's name first, and the first that is wrong is told.
abbrev pub answer : List (List ℕ) → Answer
answer words = elim (first_of words) [ None ↦ Err Words | Some p ↦ elim (named p.0) [ None ↦ Err Numbering | Some n ↦ answer_named n p.1 ] ]
