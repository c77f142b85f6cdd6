-- Where a key stands, and what a portion of it makes of that. Assumes nothing.
use Rattle.std.specs.Prelude.{◌≡◌, ℕ, suc, ◌+◌, ◌-◌, ◌<◌, ◌≤◌, ◌⊎◌, List, [], ◌∷◌, ◌++◌, length, take, drop, sum_by, Some, None, Ok, Err, Option, Result}
use Rattle.std.specs.Option.{option_map}
use Rattle.std.specs.Result.{result_map_both}
use Rattle.air.specs.Airs.{Carrying}
use Rattle.field.specs.declared.Act.{Act}
use Rattle.field.specs.declared.Act.TheVariants.{Play as Plays, Damage as Damages}
use Rattle.history.specs.Plays.{tried}
use Rattle.history.specs.Plays.Tried.{Ends}
use Rattle.history.specs.Worlds.{Field, Lent as Given, World}
use Rattle.history.specs.declared.Ending.TheVariants.{LogShort}
use Rattle.history.specs.declared.TakenCopy.{TakenCopy}
use Rattle.numbering.specs.Meaning.{Meaning}
use Rattle.refusal.specs.declared.RunFault.{RunFault}
use Rattle.refusal.specs.declared.RunFault.TheVariants.{NoRoom}
use Rattle.run.specs.Standing.{between, field_given, given}
use Rattle.run.specs.declared.lending.Lent.{Lent}
use Rattle.run.specs.declared.states.Idle.{Idle}
use Rattle.answer_key.specs.Keys.{KeyEnd, KeySettles, acts_end, key_of, refusal_at}
use Rattle.answer_key.specs.Lines.{copy_line, copy_lines, refusal_line}
use Rattle.answer_key.specs.declared.lines.KeyRefusal.{KeyRefusal}
use Rattle.answer_key.specs.declared.states.Ahead.{Ahead}
use Rattle.answer_key.specs.declared.states.Ahead.TheVariants.{Acts, Refusal, Refused}
use Rattle.answer_key.specs.declared.states.AnswerKey.{AnswerKey}
use Rattle.answer_key.specs.declared.states.Bookmark.{Bookmark}

-- the fault at which the acts have ended
abbrev pub fault_ahead : Ahead → Option RunFault
fault_ahead Acts = None
fault_ahead (Refusal fault) = Some fault
fault_ahead (Refused fault) = Some fault

abbrev pub run_of : Result AnswerKey RunFault → Result Idle RunFault
run_of result = result_map_both (λ key. key.run) (λ fault. fault) result

-- Where a key stands: what its run is given, how far it has come, where its run stands, and what log and page hold.
pub record Standing (Num : Type 0) : Type 0 where
  pub lent : Given Num
  pub mark : Bookmark
  pub world : World Num
  pub log : List (TakenCopy Num)
  pub page : List ℕ

abbrev pub standing : {Num : Type 0} → Given Num → Bookmark → World Num → List (TakenCopy Num) → List ℕ → Standing Num
standing lent mark world log page = record { lent = lent; mark = mark; world = world; log = log; page = page }

-- What a key's run is given, where it stands, and where the key does, by what is lent: the numbering, the delay rule and the air by
-- their meanings.
module _ {N D A Num : Type 0} (meaning : N → Meaning Num) where
  abbrev pub key_field : AnswerKey → Lent N D A Num → Field Num
  key_field key lent = field_given meaning key.run.progress lent

  module _ (period : D → ℕ → ℕ → ℕ → ℕ) (carries : A → Carrying) where
    abbrev pub key_given : AnswerKey → Lent N D A Num → Given Num
    key_given key lent = given meaning period carries key.run.progress lent

    abbrev pub key_standing : AnswerKey → Lent N D A Num → List (TakenCopy Num) → List ℕ → Standing Num
    key_standing key lent log page = standing (key_given key lent) key.mark (between key.run lent) log page

abbrev pub key_world : {N D A Num : Type 0} → AnswerKey → Lent N D A Num → World Num
key_world key lent = between key.run lent

abbrev pub fault_of : AnswerKey → Option RunFault
fault_of key = fault_ahead key.mark.ahead

-- the index of the record of the next act, or of the one at which the acts have ended
abbrev pub index_of : AnswerKey → ℕ
index_of key = key.mark.index

module _ {Num : Type 0} where
  -- the copies in the log whose lines wait to be printed
  abbrev pub waiting : Bookmark → List (TakenCopy Num) → List (TakenCopy Num)
  waiting mark log = take mark.lines (drop mark.first log)

  -- acts, of the first of which so many instants are played
  abbrev pub behind : ℕ → List (Act Num) → List (Act Num)
  behind played [] = []
  behind played (Plays budget ∷ acts) = Plays (budget - played) ∷ acts
  behind played (Damages damage ∷ acts) = Damages damage ∷ acts

  abbrev pub acts_left : Bookmark → List (Act Num) → List (Act Num)
  acts_left mark acts = behind mark.played (drop mark.act acts)

  -- an act is a step, and so is each instant of a play
  abbrev pub steps : Act Num → ℕ
  steps (Plays budget) = suc budget
  steps (Damages damage) = 1

abbrev pub ended_at : {Num : Type 0} → World Num → Option KeyRefusal → KeyEnd Num
ended_at world refusal = record { world = world; refusal = refusal }

module _ {Num : Type 0} (worth : Num → ℕ) (acts : List (Act Num)) where
  -- what is left of a key behind the lines that wait
  abbrev pub text_ahead : Ahead → Standing Num → List ℕ
  text_ahead Acts at = key_of at.lent worth at.mark.index (acts_left at.mark acts) at.world
  text_ahead (Refusal fault) at = refusal_line (refusal_at fault at.mark.index)
  text_ahead (Refused fault) at = []

  -- what is left of it
  abbrev pub text_left : Standing Num → List ℕ
  text_left at = copy_lines worth (waiting at.mark at.log) ++ text_ahead at.mark.ahead at

  -- where its run ends, and by which refusal
  abbrev pub end_ahead : Ahead → Standing Num → KeyEnd Num
  end_ahead Acts at = acts_end at.lent at.mark.index (acts_left at.mark acts) at.world
  end_ahead (Refusal fault) at = ended_at at.world (Some (refusal_at fault at.mark.index))
  end_ahead (Refused fault) at = ended_at at.world (Some (refusal_at fault at.mark.index))

  abbrev pub end_of : Standing Num → KeyEnd Num
  end_of at = end_ahead at.mark.ahead at

  -- how many steps it is from there
  abbrev pub steps_ahead : Ahead → Bookmark → ℕ
  steps_ahead Acts mark = suc (sum_by steps (acts_left mark acts))
  steps_ahead (Refusal fault) mark = 1
  steps_ahead (Refused fault) mark = 0

  abbrev pub steps_left : Standing Num → ℕ
  steps_left at = steps_ahead at.mark.ahead at.mark

  -- A portion of so many bytes: they and what is left are what was left before, and what is behind them on the page stays. It ends where
  -- it would have ended, and each portion prints some of it or is a step.
  pub record Printed (old new : Standing Num) (size : ℕ) : Type 0 where
    pub same_lent : new.lent ≡ old.lent
    pub size_fits : size ≤ length old.page
    pub text : take size new.page ++ text_left new ≡ text_left old
    pub page_stays : drop size new.page ≡ drop size old.page
    pub same_end : end_of new ≡ end_of old
    pub goes_on : (0 < size) ⊎ (steps_left new < steps_left old)
    pub few_instants : new.world.instant ≤ old.world.instant + 65536

  -- nothing is left of it
  pub record Whole (old new : Standing Num) : Type 0 where
    pub same : new ≡ old
    pub text : text_left old ≡ []
    pub at_end : end_of old ≡ ended_at old.world (option_map (λ fault. refusal_at fault old.mark.index) (fault_ahead old.mark.ahead))

  -- The page is too short for the next line,
  abbrev pub refusal_short : Ahead → Standing Num → Type 0
  refusal_short Acts at = tried at.lent (length at.log) at.world ≡ Ends LogShort
  refusal_short (Refusal fault) at = length at.page < length (refusal_line (refusal_at fault at.mark.index))
  refusal_short (Refused fault) at = ⊥

  -- or the log for the next instant.
  abbrev pub line_short : List (TakenCopy Num) → Standing Num → Type 0
  line_short [] at = refusal_short at.mark.ahead at
  line_short (copy ∷ copies) at = length at.page < length (copy_line worth copy)

  -- 15, and nothing is altered. A log of 1,024 rows and a page of 43 bytes always have room.
  pub record Short (old new : Standing Num) (fault : RunFault) : Type 0 where
    pub same : new ≡ old
    pub fault_is : fault ≡ NoRoom
    pub short : line_short (waiting old.mark old.log) old
    pub small : (length old.log < 1024) ⊎ (length old.page < 43)

  abbrev pub Portion : Standing Num → Standing Num → Result (Option ℕ) RunFault → Type 0
  Portion old new (Ok (Some size)) = Printed old new size
  Portion old new (Ok None) = Whole old new
  Portion old new (Err fault) = Short old new fault

-- A key as it begins, whatever its acts, and whatever log and page hold: the whole key is left.
abbrev pub BeginsWhole : {Num : Type 0} → (Num → ℕ) → ℕ → Given Num → Bookmark → World Num → Type 0
BeginsWhole {Num} worth index lent mark world =
    (acts : List (Act Num)) (log : List (TakenCopy Num)) (page : List ℕ) → let at = standing lent mark world log page in
    (text_left worth acts at ≡ key_of lent worth index acts world) × (end_of worth acts at ≡ acts_end lent index acts world)

-- The floods of each key settle.
abbrev pub Settling : {Num : Type 0} → ℕ → Given Num → World Num → Type 0
Settling {Num} index lent world = (acts : List (Act Num)) → KeySettles lent index acts world

module _ {N D A Num : Type 0} (meaning : N → Meaning Num) (period : D → ℕ → ℕ → ℕ → ℕ) (carries : A → Carrying) (lent : Lent N D A Num) (index : ℕ) where
  abbrev pub KeyIsWhole : (Num → ℕ) → AnswerKey → Type 0
  KeyIsWhole worth key = BeginsWhole worth index (key_given meaning period carries key lent) key.mark (key_world key lent)

  abbrev pub FloodsOfKeySettle : AnswerKey → Type 0
  FloodsOfKeySettle key = Settling index (key_given meaning period carries key lent) (key_world key lent)
