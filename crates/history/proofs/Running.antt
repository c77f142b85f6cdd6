-- What is told of rows and floods while a run goes on, and that an opening, a copy and an ending keep it. Assumes nothing.
use Rattle.std.proofs.lemmas.Option.{same_Some}
use Rattle.std.proofs.Common.{◌≡◌, ℕ, zero, suc, ◌-◌, ◌<◌, ◌≤◌, Bool, true, false, cond, eqb, List, [], ◌∷◌, set, Some, None, Option, sym, refl, ap, ◌∙◌, subst, arith, eq-eqb, ne_eqb, eqb-true}
use Rattle.std.specs.List.{slice_get}
use Rattle.field.specs.declared.Message.{Message}
use Rattle.field.specs.declared.Row.{Row}
use Rattle.field.specs.declared.Settings.{Settings}
use Rattle.flood.specs.Instants.{row_opened, opened, row_closed, closed}
use Rattle.flood.specs.Sensors.{base_sends, waits}
use Rattle.flood.specs.declared.hearing.Taken.{Taken}
use Rattle.history.specs.Floods.{Flood, accepts, hears, joined}
use Rattle.history.specs.Settled.{BeginsUnmarked, CarryNumber}
use Rattle.history.specs.Worlds.{Field}
use Rattle.history.specs.declared.taking.TakenCopy.{TakenCopy}
use Rattle.history.proofs.Keeping.{RowKept}
use Rattle.history.proofs.Paces.{to_come, within_whole}
use Rattle.history.proofs.Places.{none_is_some, changed_at, at_changed, at_set, at_other}
use Rattle.history.proofs.Rows.{Takes, OtherOpens, other_opens}
use Rattle.history.proofs.Tales.{held_after, Judged, NoneTo, Known, Left}
use Rattle.history.proofs.Told.{EachRow, each_set, Paced, Numbered, paced_closed, numbered_closed, paced_taken, numbered_taken}
use Rattle.numbering.specs.Meaning.{Meaning}

-- one and the same row, since both stand at a place
same_row : {A : Type 0} (xs : List A) (k : ℕ) (x y : A) → slice_get xs k ≡ Some x → slice_get xs k ≡ Some y → x ≡ y
same_row xs k x y e f = same_Some x y (sym e ∙ f)

base_or_other : {P : Type 0} (sensor : ℕ) → (sensor ≡ 0 → P) → ((sensor ≡ 0 → ⊥) → P) → P
base_or_other zero base other = base refl
base_or_other (suc k) base other = other (λ e. absurd (omega arith))

unmarked : (mark : Option ℕ) → ((hop : ℕ) → mark ≡ Some hop → ⊥) → mark ≡ None
unmarked None never = refl
unmarked (Some hop) never = absurd (never hop refl)

module _ {Num : Type 0} (field : Field Num) where
  abbrev m : Meaning Num
  m = field.numbering

  abbrev s : Settings
  s = field.settings

  -- marks and messages keep the pace of the flood
  abbrev pub PacedRows : List (Row Num) → Type 0
  PacedRows rows = (base : Row Num) → slice_get rows 0 ≡ Some base → EachRow s.n (λ sensor row. Paced s base.timer row) rows

  -- marks and messages have its number
  abbrev pub NumberedRows : Num → List (Row Num) → Type 0
  NumberedRows number rows = EachRow s.n (λ sensor row. Numbered number row) rows

  -- The rows as the floods so far have left them: once one began they keep its pace, and once two began they have its number.
  unfoldable pub RowsTell : List (Row Num) → List (Flood Num) → Type 0
  RowsTell rows [] = Unit {0}
  RowsTell rows (flood ∷ []) = PacedRows rows × Left m s.n flood rows
  RowsTell rows (flood ∷ (earlier ∷ floods)) = PacedRows rows × Left m s.n flood rows × NumberedRows flood.number rows

  -- The floods so far: each but the first begins where the one before left the rows, unmarked, and its copies carry its number.
  unfoldable pub FloodsTell : List (Flood Num) → Type 0
  FloodsTell [] = Unit {0}
  FloodsTell (flood ∷ []) = Known m s.n flood
  FloodsTell (flood ∷ (earlier ∷ floods)) =
      Known m s.n flood × Left m s.n earlier flood.before × BeginsUnmarked s.n flood × CarryNumber flood.number flood.copies × FloodsTell (earlier ∷ floods)

  abbrev pub Tell : List (Row Num) → List (Flood Num) → Type 0
  Tell rows floods = RowsTell rows floods × FloodsTell floods

  -- where no flood begins and no copy is taken, floods tell as before
  rows_go_on :
      (rows next : List (Row Num)) → (PacedRows rows → PacedRows next) → ((flood : Flood Num) → Left m s.n flood rows → Left m s.n flood next)
      → ((number : Num) → NumberedRows number rows → NumberedRows number next)
      → (floods : List (Flood Num)) → RowsTell rows floods → RowsTell next floods
  unfolding RowsTell
  rows_go_on rows next paced left numbered [] tell = tt
  rows_go_on rows next paced left numbered (flood ∷ []) tell = (paced tell.0, left flood tell.1)
  rows_go_on rows next paced left numbered (flood ∷ (earlier ∷ floods)) tell = (paced tell.0, left flood tell.1, numbered flood.number tell.2)

  -- An instant opens.
  module _ (period : ℕ → ℕ → ℕ → ℕ) (instant : ℕ) (rows : List (Row Num)) (kept : EachRow s.n (RowKept field) rows) (base : Row Num) (there : slice_get rows 0 ≡ Some base) where
    abbrev next_rows : List (Row Num)
    next_rows = opened m s period instant rows

    abbrev base_now : Row Num
    base_now = row_opened m s period instant 0 base

    base_within : 0 < s.n
    base_within = omega (arith, s.n_least)

    -- so it is of each row, since it is of the base's and of any other's
    each_opened :
        (Q : ℕ → Row Num → Type 0) → Q 0 base_now
        → ((sensor : ℕ) (row next : Row Num) → sensor < s.n → (sensor ≡ 0 → ⊥) → slice_get rows sensor ≡ Some row → OtherOpens row next → Q sensor next)
        → EachRow s.n Q next_rows
    each_opened Q first others sensor next h e =
        let from = changed_at (row_opened m s period instant) s.n sensor rows next h e in
        base_or_other sensor
        (λ zeroth.
        let is_base : from.0 ≡ base = same_row rows 0 from.0 base (subst (λ (k : ℕ). slice_get rows k ≡ Some from.0) zeroth from.1) there in
        let is_now : next ≡ base_now = from.2 ∙ ap (λ (k : ℕ). row_opened m s period instant k from.0) zeroth ∙ ap (row_opened m s period instant 0) is_base in
        subst (λ (k : ℕ). Q k next) (sym zeroth) (subst (Q 0) (sym is_now) first))
        (λ other. others sensor from.0 next h other from.1 (subst (OtherOpens from.0) (sym from.2) (other_opens m s period instant sensor from.0 other)))

    base_next : (next : Row Num) → slice_get next_rows 0 ≡ Some next → next ≡ base_now
    base_next next e = same_Some next base_now (sym e ∙ at_changed (row_opened m s period instant) s.n 0 rows base base_within there)

    base_unmarked : {P : Type 0} (hop : ℕ) → base.mark ≡ Some hop → P
    base_unmarked hop e = absurd (((kept 0 base base_within there).marked hop e).0 refl)

    opens_numbered :
        (number : Num) → ((message : Message Num) → base_now.outgoing ≡ Some message → message.number ≡ number) → base_now.mark ≡ base.mark
        → EachRow s.n (λ sensor row. (hop : ℕ) → row.mark ≡ Some hop → row.held ≡ number) rows
        → NumberedRows number next_rows
    opens_numbered number sends mark marked =
        each_opened (λ sensor row. Numbered number row)
        (record { marked = λ hop f. base_unmarked hop (sym mark ∙ f); sends = sends })
        (λ sensor row later h other at opens. record {
          marked = λ hop f. opens.held ∙ marked sensor row h at hop (opens.marked hop f).0;
          sends = λ message f. (let stood = opens.sends message f in stood.1 ∙ marked sensor row h at message.hop stood.0);
        })

    -- no held number changes but the base's
    opens_left :
        (flood : Flood Num) → base_now.held ≡ flood.number
        → ((sensor : ℕ) (before row : Row Num) → sensor < s.n → (sensor ≡ 0 → ⊥) → slice_get flood.before sensor ≡ Some before → slice_get rows sensor ≡ Some row → row.held ≡ held_after m sensor before.held flood.copies)
        → Left m s.n flood next_rows
    opens_left flood number stood = record {
      held = λ sensor before next h other was e.
          each_opened (λ sensor next. (sensor ≡ 0 → ⊥) → (before : Row Num) → slice_get flood.before sensor ≡ Some before → next.held ≡ held_after m sensor before.held flood.copies)
          (λ wrong before was. absurd (wrong refl))
          (λ sensor row later h other at opens _ before was. opens.held ∙ stood sensor before row h other was at)
          sensor next h e other before was;
      base = λ next e. ap (λ (row : Row Num). row.held) (base_next next e) ∙ number;
    }

    -- The base waits: the flood goes on.
    module _ (late : 1 < base.timer) (is : base_now ≡ waits base) where
      sends_nothing : {P : Type 0} (message : Message Num) → base_now.outgoing ≡ Some message → P
      sends_nothing message e = none_is_some message (ap (λ (row : Row Num). row.outgoing) (sym is) ∙ e)

      waits_paced : PacedRows rows → PacedRows next_rows
      waits_paced paced next e =
          let here : next.timer ≡ base.timer - 1 = ap (λ (row : Row Num). row.timer) (base_next next e ∙ is) in
          each_opened (λ sensor row. Paced s next.timer row)
          (record { marked = λ hop f. base_unmarked hop (ap (λ (row : Row Num). row.mark) (sym is) ∙ f); sends = λ message f. sends_nothing message f })
          (λ sensor row later h other at opens. record {
            marked = λ hop f.
                let stood = opens.marked hop f in
                omega (arith, stood.1, stood.2, (paced base there sensor row h at).marked hop stood.0, here, late);
            sends = λ message f.
                let stood = opens.sends message f in
                omega (arith, stood.2, (paced base there sensor row h at).marked message.hop stood.0, here, late, (kept sensor row h at).timer_least);
          })

      pub wait_tells : (floods : List (Flood Num)) → RowsTell rows floods → RowsTell next_rows floods
      wait_tells =
          rows_go_on rows next_rows waits_paced (λ flood left. opens_left flood (ap (λ (row : Row Num). row.held) is ∙ left.base base there) left.held)
          (λ number numbered. opens_numbered number (λ message f. sends_nothing message f) (ap (λ (row : Row Num). row.mark) is) (λ sensor row h e. (numbered sensor row h e).marked))

    -- The base sends: a flood begins.
    module _ (number : Num) (due : base.timer ≤ 1) (follows : m.next base.held ≡ Some number) (is : base_now ≡ base_sends s base number) where
      abbrev new : Flood Num
      new = record { number = number; before = rows; copies = [] }

      message_is : (message : Message Num) → base_now.outgoing ≡ Some message → message ≡ record { hop = s.hmax; number = number }
      message_is message e = same_Some message (record { hop = s.hmax; number = number }) (sym e ∙ ap (λ (row : Row Num). row.outgoing) is)

      begins_paced : PacedRows next_rows
      begins_paced next e =
          let here : next.timer ≡ s.f = ap (λ (row : Row Num). row.timer) (base_next next e ∙ is) in
          each_opened (λ sensor row. Paced s next.timer row)
          (record {
            marked = λ hop f. base_unmarked hop (ap (λ (row : Row Num). row.mark) (sym is) ∙ f);
            sends = λ message f.
                let most : to_come s.tmax message.hop ≡ to_come s.tmax s.hmax = ap (λ (x : Message Num). to_come s.tmax x.hop) (message_is message f) in
                omega (arith, most, within_whole s.tmax s.hmax s.hmax s.hmax_least (omega arith), here);
          })
          (λ sensor row later h other at opens. record {
            marked = λ hop f.
                let stood = opens.marked hop f in
                let few = ((kept sensor row h at).marked hop stood.0).1 in
                omega (arith, stood.1, (kept sensor row h at).timer_most other, within_whole s.tmax s.hmax hop s.hmax_least few, here);
            sends = λ message f.
                let few = ((kept sensor row h at).marked message.hop (opens.sends message f).0).1 in
                omega (arith, within_whole s.tmax s.hmax message.hop s.hmax_least few, here);
          })

      -- by then all that the flood before had marked is sent
      none_marked : PacedRows rows → BeginsUnmarked s.n new
      none_marked paced sensor row h e = unmarked row.mark λ hop marked.
          omega (arith, (paced base there sensor row h e).marked hop marked, (kept sensor row h e).timer_least, due, s.f_least)

      begins_numbered : PacedRows rows → NumberedRows number next_rows
      begins_numbered paced =
          opens_numbered number (λ message f. ap (λ (x : Message Num). x.number) (message_is message f)) (ap (λ (row : Row Num). row.mark) is)
          (λ sensor row h e hop marked. none_is_some hop (sym (none_marked paced sensor row h e) ∙ marked))

      begins_left : Left m s.n new next_rows
      unfolding held_after
      begins_left =
          opens_left new (ap (λ (row : Row Num). row.held) is) (λ sensor before row h far was e. ap (λ (r : Row Num). r.held) (same_row rows sensor row before e was))

      begins_known : ((sensor : ℕ) → sensor < s.n → (row : Row Num) × (slice_get rows sensor ≡ Some row)) → Known m s.n new
      unfolding Judged NoneTo
      begins_known all = record {
        rows = λ sensor h. (let row = all sensor h in (row.0, row.1, (kept sensor row.0 h row.1).lawful));
        follows = λ row e. ap (λ (r : Row Num). m.next r.held) (same_row rows 0 row base e there) ∙ follows;
        judged = λ sensor row h far e. tt;
        base_deaf = tt;
      }

      pub begin_tells :
          ((sensor : ℕ) → sensor < s.n → (row : Row Num) × (slice_get rows sensor ≡ Some row))
          → (floods : List (Flood Num)) → Tell rows floods → Tell next_rows (new ∷ floods)
      unfolding RowsTell FloodsTell CarryNumber
      begin_tells all [] tells = ((begins_paced, begins_left), begins_known all)
      begin_tells all (flood ∷ []) tells =
          ((begins_paced, begins_left, begins_numbered tells.0.0), (begins_known all, tells.0.1, none_marked tells.0.0, tt, tells.1))
      begin_tells all (flood ∷ (earlier ∷ floods)) tells =
          ((begins_paced, begins_left, begins_numbered tells.0.0), (begins_known all, tells.0.1, none_marked tells.0.0, tt, tells.1))

  -- A copy is taken, from one sensor at another, which is not the base.
  module _
      (rows : List (Row Num)) (from to : ℕ) (sender row : Row Num) (message : Message Num) (sends : slice_get rows from ≡ Some sender) (what : sender.outgoing ≡ Some message)
      (there : slice_get rows to ≡ Some row) (other : to ≡ 0 → ⊥) (from_within : from < s.n) (within : to < s.n) (kept : RowKept field to row)
      (t : Taken Num) (takes : Takes m message row t) (copy : TakenCopy Num) (to_is : copy.to ≡ to) (number_is : copy.number ≡ message.number) (verdict_is : copy.verdict ≡ t.verdict) where
    abbrev rows_then : List (Row Num)
    rows_then = set rows to t.row

    base_stays : (base : Row Num) → slice_get rows_then 0 ≡ Some base → slice_get rows 0 ≡ Some base
    base_stays base e = sym (at_other rows to 0 t.row (λ zeroth. other (sym zeroth))) ∙ e

    takes_paced : PacedRows rows → PacedRows rows_then
    takes_paced paced base e =
        let before = paced base (base_stays base e) in
        each_set s.n (λ sensor row. Paced s base.timer row) rows to t.row
        (paced_taken m s message row t takes base.timer (kept.timer_most other) ((before from sender from_within sends).sends message what) (before to row within there)) before

    takes_numbered : (number : Num) → message.number ≡ number → NumberedRows number rows → NumberedRows number rows_then
    takes_numbered number same numbered =
        each_set s.n (λ sensor row. Numbered number row) rows to t.row (numbered_taken m s message row t takes number same (numbered to row within there)) numbered

    module _ (flood : Flood Num) (left : Left m s.n flood rows) where
      abbrev longer : Flood Num
      longer = record { number = flood.number; before = flood.before; copies = copy ∷ flood.copies }

      receiver_held : (sensor : ℕ) (before : Row Num) → sensor ≡ to → slice_get flood.before sensor ≡ Some before → row.held ≡ held_after m sensor before.held flood.copies
      receiver_held sensor before here was =
          left.held sensor before row (subst (λ (k : ℕ). k < s.n) (sym here) within) (λ zeroth. other (sym here ∙ zeroth)) was (subst (λ (k : ℕ). slice_get rows k ≡ Some row) (sym here) there)

      at_receiver : (sensor : ℕ) (x : Num) → sensor ≡ to → row.held ≡ held_after m sensor x flood.copies → t.row.held ≡ held_after m sensor x (copy ∷ flood.copies)
      unfolding held_after
      at_receiver sensor x here held = rw (eq-eqb copy.to sensor (to_is ∙ sym here), verdict_is, number_is) (takes.held ∙ ap (cond (accepts t.verdict) message.number) held)

      elsewhere : (sensor : ℕ) (x : Num) → (sensor ≡ to → ⊥) → held_after m sensor x flood.copies ≡ held_after m sensor x (copy ∷ flood.copies)
      unfolding held_after
      elsewhere sensor x apart = rw (ne_eqb copy.to sensor (λ e. apart (sym e ∙ to_is))) refl

      takes_left : Left m s.n longer rows_then
      takes_left = record {
        held = λ sensor before now h far was e. by sensor before now h far was e (eqb sensor to) refl;
        base = λ base e. left.base base (base_stays base e);
      }
        where
          by :
              (sensor : ℕ) (before now : Row Num) → sensor < s.n → (sensor ≡ 0 → ⊥) → slice_get flood.before sensor ≡ Some before → slice_get rows_then sensor ≡ Some now
              → (b : Bool) → eqb sensor to ≡ b → now.held ≡ held_after m sensor before.held (copy ∷ flood.copies)
          by sensor before now h far was e true same =
              let here = eqb-true sensor to same in
              let is_t : now ≡ t.row = same_row rows_then to now t.row (subst (λ (k : ℕ). slice_get rows_then k ≡ Some now) here e) (at_set rows to t.row row there) in
              ap (λ (r : Row Num). r.held) is_t ∙ at_receiver sensor before.held here (receiver_held sensor before here was)
          by sensor before now h far was e false apart_b =
              let apart : sensor ≡ to → ⊥ = λ e. (let yes_b = eq-eqb sensor to e in absurd cc) in
              left.held sensor before now h far was (sym (at_other rows to sensor t.row apart) ∙ e) ∙ elsewhere sensor before.held apart

      takes_known : Known m s.n flood → Known m s.n longer
      unfolding Judged NoneTo
      takes_known known = record {
        rows = known.rows;
        follows = known.follows;
        judged = λ sensor before h far was. (
          λ here heard.
              rw (verdict_is, number_is, sym (receiver_held sensor before (sym here ∙ to_is) was)) (takes.judged (ap hears (sym verdict_is) ∙ heard)),
          known.judged sensor before h far was,
        );
        base_deaf = (λ zeroth. other (sym to_is ∙ zeroth), known.base_deaf);
      }

    pub take_tells : (floods : List (Flood Num)) → Tell rows floods → Tell rows_then (joined copy floods)
    unfolding RowsTell FloodsTell CarryNumber
    take_tells [] tells = (tt, tt)
    take_tells (flood ∷ []) tells = ((takes_paced tells.0.0, takes_left flood tells.0.1), takes_known flood tells.0.1 tells.1)
    take_tells (flood ∷ (earlier ∷ floods)) tells =
        let same : message.number ≡ flood.number = (tells.0.2 from sender from_within sends).sends message what in (
          (takes_paced tells.0.0, takes_left flood tells.0.1, takes_numbered flood.number same tells.0.2),
          (takes_known flood tells.0.1 tells.1.0, tells.1.1, tells.1.2, (number_is ∙ same, tells.1.3), tells.1.4),
        )

  -- An instant ends.
  module _ (rows : List (Row Num)) where
    stood_at :
        (sensor : ℕ) (now : Row Num) → sensor < s.n → slice_get (closed s.n rows) sensor ≡ Some now
        → (row : Row Num) × (slice_get rows sensor ≡ Some row) × (now ≡ row_closed row)
    stood_at sensor now = changed_at (λ sensor. row_closed) s.n sensor rows now

    closes_paced : PacedRows rows → PacedRows (closed s.n rows)
    closes_paced before base e sensor now h f =
        let stood = stood_at 0 base (omega (arith, s.n_least)) e in
        let row = stood_at sensor now h f in
        rw (row.2, stood.2) (paced_closed s stood.0.timer row.0 (before stood.0 stood.1 sensor row.0 h row.1))

    closes_left : (flood : Flood Num) → Left m s.n flood rows → Left m s.n flood (closed s.n rows)
    closes_left flood before = record {
      held = λ sensor was now h far e f. (let row = stood_at sensor now h f in ap (λ (r : Row Num). r.held) row.2 ∙ before.held sensor was row.0 h far e row.1);
      base = λ base e. (let row = stood_at 0 base (omega (arith, s.n_least)) e in ap (λ (r : Row Num). r.held) row.2 ∙ before.base row.0 row.1);
    }

    closes_numbered : (number : Num) → NumberedRows number rows → NumberedRows number (closed s.n rows)
    closes_numbered number before sensor now h f = (let row = stood_at sensor now h f in rw row.2 (numbered_closed number row.0 (before sensor row.0 h row.1)))

    pub close_tells : (floods : List (Flood Num)) → RowsTell rows floods → RowsTell (closed s.n rows) floods
    close_tells = rows_go_on rows (closed s.n rows) closes_paced closes_left closes_numbered
