-- A loop that plays one instant after another. Assumes nothing.
use Rattle.std.proofs.Common.{◌≡◌, ℕ, ◌+◌, ◌<◌, ◌≤◌, List, ◌++◌, length, take, drop, None, Ok, sym, refl, ap, ◌∙◌, subst, arith, length-append, length-drop}
use Rattle.std.proofs.Math.Seq.{take-append_seam}
use Rattle.std.proofs.lemmas.Slice.{drop-append-drop}
use Rattle.std.specs.Prelude.{◌-◌}
use Rattle.air.specs.Delays.{KeepsPeriods}
use Rattle.field.specs.declared.Stage.TheVariants.{Between}
use Rattle.numbering.specs.Meaning.{KeepsLawful}
use Rattle.vetting.specs.declared.Named.TheVariants.{Nothing}
use Rattle.history.specs.Checks.{checked}
use Rattle.history.specs.Plays.{copies_in, playing, tried}
use Rattle.history.specs.Plays.Tried.{Ends, Done}
use Rattle.history.specs.Worlds.{Lent, World}
use Rattle.history.specs.declared.Ending.{Ending}
use Rattle.history.specs.declared.Ending.TheVariants.{BudgetSpent}
use Rattle.history.specs.declared.TakenCopy.{TakenCopy}
use Rattle.history.proofs.Playing.{PlayedSo, done_passes, logged_so, none_logged, none_played, one_played, play_ends, play_spent, used_within}
use Rattle.run.specs.Plays.{PlayAnswer, WasDone, WasNot, in_front, logged, played_out}

module _ {Num : Type 0} where
  -- copies logged behind others are logged with them
  logged_more :
      (log before copies : List (TakenCopy Num)) (used : ℕ) → length before ≡ used
      → logged (in_front log before) used copies ≡ in_front log (before ++ copies)
  logged_more log before copies used is =
      let rest = drop (length before) log in
      let stands : take used (in_front log before) ≡ before = ap (λ (k : ℕ). take k (in_front log before)) (sym is) ∙ take-append_seam before rest in
      let stays : drop (used + length copies) (in_front log before) ≡ drop (length (before ++ copies)) log =
      drop-append-drop (length before) log before (used + length copies) (omega arith) refl ∙ ap (λ (k : ℕ). drop k log) (ap (λ (k : ℕ). k + length copies) (sym is) ∙ sym (length-append before copies)) in
      rw (stands, stays) refl

  length_front : (log before : List (TakenCopy Num)) → length before ≤ length log → length (in_front log before) ≡ length log
  length_front log before fits = length-append before (drop (length before) log) ∙ omega (arith, length-drop (length before) log)

module _ {Num : Type 0} (lent : Lent Num) (log : List (TakenCopy Num)) (start : World Num) where
  -- so many instants are played: what the log holds, and that the check still passes
  pub record Goes (i : ℕ) (world : World Num) (logs : List (TakenCopy Num)) (used : ℕ) : Type 0 where
    pub so : PlayedSo lent (length log) start i world used
    pub holds : logs ≡ in_front log (logged_so lent (length log) start i)
    pub between : world.position ≡ None
    pub passes : checked lent.field Nothing Between world.rows world.senders ≡ Ok tt

  pub goes_first : start.position ≡ None → checked lent.field Nothing Between start.rows start.senders ≡ Ok tt → Goes 0 start log 0
  goes_first here passes = record { so = none_played lent (length log) start; holds = rw (none_logged lent (length log) start) refl; between = here; passes = passes }

  module _ (i : ℕ) (world : World Num) (logs : List (TakenCopy Num)) (used : ℕ) (goes : Goes i world logs used) where
    same_length : length logs ≡ length log
    same_length = ap length goes.holds ∙ length_front log _ (omega (arith, goes.so.logged, used_within lent (length log) start i world used goes.so))

    pub within_log : used ≤ length logs
    within_log = let fits = used_within lent (length log) start i world used goes.so in omega (arith, fits, same_length)

    same_room : length logs - used ≡ length log - used
    same_room = ap (λ (k : ℕ). k - used) same_length

    -- an instant more
    pub goes_on :
        KeepsLawful lent.field.numbering → KeepsPeriods lent.period
        → (given : Lent Num) → given ≡ lent → (after : World Num) (more : List (TakenCopy Num)) (rows : ℕ) → WasDone given used world after logs more rows
        → Goes (i + 1) after more rows
    goes_on lawful periods given same after more rows had =
        let was = subst (λ (l : Lent Num). WasDone l used world after logs more rows) same had in
        let done : tried lent (length log - used) world ≡ Done was.went = ap (λ (k : ℕ). tried lent k world) (sym same_room) ∙ was.done in
        let one = one_played lent (length log) start i world used goes.so was.went done in
        let stays = done_passes lent lawful periods (length log - used) world was.went goes.between done in
        record {
          so = rw (was.stands, was.counts) one.0;
          holds = was.logs_copies ∙ ap (λ (l : List (TakenCopy Num)). logged l used (copies_in was.went.events)) goes.holds
              ∙ logged_more log (logged_so lent (length log) start i) (copies_in was.went.events) used goes.so.logged
              ∙ ap (in_front log) (sym one.1);
          between = rw was.stands stays.0;
          passes = rw was.stands stays.1;
        }

    -- where play ends, before its budget is spent or as it is
    pub goes_until :
        (budget : ℕ) (ending : Ending) (given : Lent Num) → given ≡ lent → (after : World Num) (more : List (TakenCopy Num)) → i < budget → WasNot given used world after logs more ending
        → ◌≡◌ {A = PlayAnswer Num} (record { instants = i; rows = used; ending = ending; world = after; log = more }) (played_out log (playing lent budget (length log) start))
    goes_until budget ending given same after more h had =
        let was = subst (λ (l : Lent Num). WasNot l used world after logs more ending) same had in
        let ends : tried lent (length log - used) world ≡ Ends ending = ap (λ (k : ℕ). tried lent k world) (sym same_room) ∙ was.ends in
        rw (play_ends lent (length log) start i world used goes.so budget ending h ends, was.stands, was.log_stays, goes.holds, goes.so.logged) refl

    pub goes_to_the_end :
        ◌≡◌ {A = PlayAnswer Num} (record { instants = i; rows = used; ending = BudgetSpent; world = world; log = logs }) (played_out log (playing lent i (length log) start))
    goes_to_the_end = rw (play_spent lent (length log) start i world used goes.so, goes.holds, goes.so.logged) refl
