-- The steps that portions are made of. Assumes nothing.
use Rattle.std.specs.Prelude.{◌≡◌, ℕ, suc, ◌+◌, ◌-◌, ◌<◌, ◌≤◌, cond, List, ◌++◌, length, take, drop, Ok, Err, Result, nat_le}
use Rattle.history.specs.Plays.{Played, copies_in}
use Rattle.history.specs.Worlds.{World}
use Rattle.history.specs.declared.Ending.{Ending}
use Rattle.history.specs.declared.Ending.TheVariants.{BudgetSpent, LogShort, Refused as RefusedNext}
use Rattle.history.specs.declared.TakenCopy.{TakenCopy}
use Rattle.refusal.specs.declared.RunFault.{RunFault}
use Rattle.refusal.specs.declared.RunFault.TheVariants.{NoRoom}
use Rattle.answer_key.specs.Keys.{next_index, refusal_at}
use Rattle.answer_key.specs.Lines.{copy_lines, refusal_line}
use Rattle.answer_key.specs.Portions.{waiting}
use Rattle.answer_key.specs.declared.states.Ahead.TheVariants.{Refusal, Refused}
use Rattle.answer_key.specs.declared.states.Bookmark.{Bookmark}

-- so many lines are printed
abbrev pub lines_on : ℕ → Bookmark → Bookmark
lines_on count mark = record mark { first = mark.first + count; lines = mark.lines - count }

-- the acts end at a refusal
abbrev pub refused_by : RunFault → Bookmark → Bookmark
refused_by fault mark = record mark { ahead = Refusal fault }

-- an act is done
abbrev pub act_on : Bookmark → Bookmark
act_on mark = record mark { act = suc mark.act; index = next_index mark.index; played = 0 }

-- so many instants more of an act are played, and perhaps all of its budget
abbrev pub instants_on : ℕ → ℕ → Bookmark → Bookmark
instants_on instants budget mark = cond (nat_le budget (mark.played + instants)) (act_on mark) (record mark { played = mark.played + instants })

-- a text stands at the front of a page, behind which the page is as it was
pub record Written (text page pages : List ℕ) (size : ℕ) : Type 0 where
  pub size_is : size ≡ length text
  pub fits : length text ≤ length page
  pub page_is : pages ≡ text ++ drop (length text) page

-- it has no room for the text, and is as it was
pub record Unwritten (text page pages : List ℕ) (fault : RunFault) : Type 0 where
  pub fault_is : fault ≡ NoRoom
  pub too_long : length page < length text
  pub page_is : pages ≡ page

module _ {Num : Type 0} (worth : Num → ℕ) where
  -- the first of the lines that wait, at least one
  pub record LinesPrinted (old new : Bookmark) (log : List (TakenCopy Num)) (page pages : List ℕ) (size : ℕ) : Type 0 where
    pub count : ℕ
    pub some : 0 < count
    pub waited : count ≤ length (waiting old log)
    pub mark_is : new ≡ lines_on count old
    pub written : Written (copy_lines worth (take count (waiting old log))) page pages size

  -- not even the first
  pub record LinesUnprinted (old new : Bookmark) (log : List (TakenCopy Num)) (page pages : List ℕ) (fault : RunFault) : Type 0 where
    pub mark_is : new ≡ old
    pub unwritten : Unwritten (copy_lines worth (take 1 (waiting old log))) page pages fault
    -- which a page of 43 bytes has room for
    pub narrow : length page < 43

  abbrev pub PrintsLines : Bookmark → Bookmark → List (TakenCopy Num) → List ℕ → List ℕ → Result ℕ RunFault → Type 0
  PrintsLines old new log page pages (Ok size) = LinesPrinted old new log page pages size
  PrintsLines old new log page pages (Err fault) = LinesUnprinted old new log page pages fault

-- the line of the refusal at which the acts ended
pub record RefusalPrinted (ending : RunFault) (old new : Bookmark) (page pages : List ℕ) (size : ℕ) : Type 0 where
  pub mark_is : new ≡ record old { ahead = Refused ending }
  pub written : Written (refusal_line (refusal_at ending old.index)) page pages size

pub record RefusalUnprinted (ending : RunFault) (old new : Bookmark) (page pages : List ℕ) (fault : RunFault) : Type 0 where
  pub mark_is : new ≡ old
  pub unwritten : Unwritten (refusal_line (refusal_at ending old.index)) page pages fault
  pub narrow : length page < 43

abbrev pub PrintsRefusal : RunFault → Bookmark → Bookmark → List ℕ → List ℕ → Result ℕ RunFault → Type 0
PrintsRefusal ending old new page pages (Ok size) = RefusalPrinted ending old new page pages size
PrintsRefusal ending old new page pages (Err fault) = RefusalUnprinted ending old new page pages fault

-- a damage that is done, or declined
pub record Damaged {Num : Type 0} (old new : Bookmark) (world after : World Num) (result : Result (World Num) RunFault) : Type 0 where
  pub stands : after ≡ elim result [ Ok next ↦ next | Err fault ↦ world ]
  pub mark_is : new ≡ elim result [ Ok next ↦ act_on old | Err fault ↦ refused_by fault old ]

module _ {Num : Type 0} where
  -- how far a key has come by a play that ended so
  abbrev pub played_on : Ending → ℕ → Played Num → Bookmark → Bookmark
  played_on BudgetSpent budget p mark = instants_on p.instants budget (record mark { first = 0; lines = length (copies_in p.events) })
  played_on LogShort budget p mark = instants_on p.instants budget (record mark { first = 0; lines = length (copies_in p.events) })
  played_on (RefusedNext fault) budget p mark = refused_by fault (record mark { first = 0; lines = length (copies_in p.events) })

  pub record PlayedOn (p : Played Num) (budget : ℕ) (old new : Bookmark) (after : World Num) (log logs : List (TakenCopy Num)) : Type 0 where
    pub stands : after ≡ p.world
    pub logs_copies : logs ≡ copies_in p.events ++ drop (length (copies_in p.events)) log
    pub mark_is : new ≡ played_on p.ending budget p old
    pub some : p.ending ≡ LogShort → 0 < p.instants

  -- the log is too short for its first instant
  pub record NotPlayed (p : Played Num) (old new : Bookmark) (world after : World Num) (log logs : List (TakenCopy Num)) (fault : RunFault) : Type 0 where
    pub fault_is : fault ≡ NoRoom
    pub short : p.ending ≡ LogShort
    pub none : p.instants ≡ 0
    pub stands : after ≡ p.world
    pub logs_copies : logs ≡ copies_in p.events ++ drop (length (copies_in p.events)) log
    pub mark_is : new ≡ old

  abbrev pub PlaysOn : Played Num → ℕ → Bookmark → Bookmark → World Num → World Num → List (TakenCopy Num) → List (TakenCopy Num) → Result (Unit {0}) RunFault → Type 0
  PlaysOn p budget old new world after log logs (Ok done) = PlayedOn p budget old new after log logs
  PlaysOn p budget old new world after log logs (Err fault) = NotPlayed p old new world after log logs fault
