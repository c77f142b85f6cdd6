-- The key of a field file, as it begins. Assumes nothing.
use Rattle.std.specs.Prelude.{◌≡◌, ℕ, List, Option, Result, IsOkAnd}
use Rattle.air.specs.Airs.{Carrying}
use Rattle.field.specs.declared.Settings.{Settings}
use Rattle.history.specs.declared.TakenCopy.{TakenCopy}
use Rattle.numbering.specs.Meaning.{Meaning}
use Rattle.refusal.specs.declared.RunFault.{RunFault}
use Rattle.run.specs.Standing.{between, given}
use Rattle.run.specs.declared.lending.Lent.{Lent}
use Rattle.answer_key.specs.Files.{LendsFile, file_acts, file_key}
use Rattle.answer_key.specs.Portions.{standing, text_left}
use Rattle.answer_key.specs.declared.states.AnswerKey.{AnswerKey}

-- Where its numbering and the parts of a file are lent, its key begins, and all of it is left, whatever log and page hold.
abbrev pub KeyOfFile :
    {N D A Num : Type 0} → (N → Meaning Num) → (D → ℕ → ℕ → ℕ → ℕ) → (A → Carrying) → (ℕ → Option Num) → (Num → ℕ) → N → List ℕ → Settings
    → Lent N D A Num → Lent N D A Num → Result AnswerKey RunFault → Type 0
KeyOfFile {Num = Num} meaning period carries of worth numbering file s before after result =
    (number : Num) → before.numbering.now ≡ numbering → LendsFile file s of number before.rows.now before.links.now before.senders.now
    → IsOkAnd result (λ key.
    (log : List (TakenCopy Num)) (page : List ℕ)
    → text_left worth (file_acts file of number) (standing (given meaning period carries key.run.progress after) key.mark (between key.run after) log page)
    ≡ file_key file of number (meaning before.numbering.now) s worth (period before.delay.now) (carries before.air.now))
