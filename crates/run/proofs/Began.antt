-- What is known once begin's check has passed. Assumes nothing.
use Rattle.std.proofs.Common.{◌≡◌, ℕ, ◌≤◌, true, List, Ok, Err, Result, sym, refl, ap, is_ok, arith}
use Rattle.std.proofs.lemmas.Bool.{or_parts, ltb-false}
use Rattle.checking.proofs.Passes.{first_passes, second_passes, in_field_passes}
use Rattle.field.specs.declared.Row.{Row}
use Rattle.field.specs.declared.Stage.TheVariants.{Beginning}
use Rattle.std.specs.Prelude.{[], IfOk}
use Rattle.refusal.specs.Carried.{in_field}
use Rattle.vetting.proofs.Vets.{case_nowhere}
use Rattle.vetting.specs.Cases.{fault_in, first_fault}
use Rattle.vetting.specs.declared.MemoryCase.TheVariants.{Sensors, Links, Count}
use Rattle.vetting.specs.declared.Named.TheVariants.{Nothing}
use Rattle.history.specs.Checks.{checked_first, of_beginnings, seen_at}
use Rattle.history.specs.Calls.{begun}
use Rattle.history.specs.Settled.{FloodsSettle, SettleWithin}
use Rattle.history.specs.Worlds.{Field, Lent, World}
use Rattle.history.proofs.Counted.{counts_tell}
use Rattle.history.proofs.Floods.{floods_settle, settle_within}
use Rattle.history.proofs.Limits.{checks_stay, limits_are_kept}
use Rattle.history.proofs.OneByOne.{play_is_its_calls}
use Rattle.history.proofs.PlayLaws.{call_laws, play_laws}
use Rattle.history.proofs.Unread.{not_read}
use Rattle.numbering.specs.Meaning.{KeepsLawful, Settles}
use Rattle.refusal.specs.declared.RunFault.{RunFault}
use Rattle.run.specs.Answers.{Beginning as BeginAnswer, began}
use Rattle.run.specs.Standing.{between}
use Rattle.run.specs.declared.lending.Lent.{Lent as Lending}
use Rattle.run.specs.declared.states.Idle.{Idle}
use Rattle.run.specs.Laws.{RunLaws}

-- no more links are told than a field may have
pub few_told : {Num : Type 0} (field : Field Num) (rows : List (Row Num)) (senders : List ℕ) → checked_first field rows senders ≡ Ok tt → field.count ≤ 1024
unfolding checked_first
few_told field rows senders passes =
    let seen = seen_at field Nothing Beginning rows [] in
    let first = in_field (first_fault seen of_beginnings) in
    let all = in_field_passes (first_fault seen of_beginnings) (first_passes first _ (ap is_ok passes)) in
    let after_ends = second_passes (fault_in seen Sensors) _ all in
    let after_links = second_passes (fault_in seen (Links true)) _ after_ends in
    let few = case_nowhere seen Count (first_passes (fault_in seen Count) _ after_links) 1024 (omega arith) in
    ltb-false 1024 field.count (or_parts _ _ few).0

-- where begin answers a run, its definition grants one
pub began_from :
    {Num : Type 0} (rows : List (Row Num)) (senders : List ℕ) (o : Result (World Num) RunFault) (world : World Num) (new_rows : List (Row Num)) (new_senders : List ℕ)
    → ◌≡◌ {A = BeginAnswer Num} (record { answer = Ok world; rows = new_rows; senders = new_senders }) (began rows senders o) → o ≡ Ok world
began_from rows senders (Ok other) world new_rows new_senders e = ap (λ b. b.answer) (sym e)
began_from rows senders (Err fault) world new_rows new_senders e = let f = ap (λ b. b.answer) e in absurd cc

module _
    {Num : Type 0} (field : Field Num) (lawful : KeepsLawful field.numbering) (rows : List (Row Num)) (senders : List ℕ) (start : World Num)
    (begins : begun field rows senders ≡ Ok start) where
  pub begun_settles : FloodsSettle field start
  begun_settles = floods_settle field lawful rows senders start begins

  pub begun_keeps_laws : RunLaws field start
  begun_keeps_laws = record {
    limits = limits_are_kept field lawful rows senders start begins;
    counts = counts_tell field rows senders start begins;
    one_by_one = play_is_its_calls field lawful rows senders start begins;
    calls = λ period carries periods.
        let lent : Lent Num = record { field = field; period = period; carries = carries } in
        record { checks = checks_stay field.numbering lawful lent refl periods; plays = play_laws lent; answers = call_laws lent; unread = not_read lent };
  }

-- what a run that begun settles within, where the numbering settles
pub begun_within :
    {N D A Num : Type 0} (G : ℕ) (C : Num → Num → ℕ) (field : Field Num) → Settles field.numbering G C → (lent : Lending N D A Num) (result : Result Idle RunFault)
    → IfOk result (λ run. FloodsSettle field (between run lent)) → IfOk result (λ run. SettleWithin G C field (between run lent))
begun_within G C field settles lent (Ok run) settle = settle_within G C field settles (between run lent) settle
begun_within G C field settles lent (Err fault) settle = tt
