-- Floods settle: what is told of a run at each of its steps, and what follows of its floods. Assumes nothing.
use Rattle.std.proofs.lemmas.Option.{same_Some}
use Rattle.std.proofs.Common.{◌≡◌, ℕ, suc, ◌<◌, ◌⊎◌, inl, inr, ⊎_elim, Bool, true, false, cond, eqb, List, [], ◌∷◌, length, Some, None, sym, refl, ap, ◌∙◌, subst, arith, eqb-true, eq-eqb, ne_eqb}
use Rattle.std.specs.List.{slice_get}
use Rattle.air.specs.Delays.{KeepsPeriods}
use Rattle.field.specs.declared.Message.{Message}
use Rattle.field.specs.declared.Row.{Row}
use Rattle.field.specs.declared.Settings.{Settings}
use Rattle.flood.specs.Instants.{row_opened}
use Rattle.history.specs.Calls.{AfterCopy, comes_through, world_opened, no_number, world_closed, next_taken, copy_taken}
use Rattle.history.specs.Floods.{Flood, through, noted, joined, floods_told, without_first, flood_at}
use Rattle.history.specs.Histories.{Call, history, OnceBegun}
use Rattle.history.specs.Limits.{LinksKeep, InLimits}
use Rattle.history.specs.Plays.{open_events}
use Rattle.history.specs.Plays.Event.{Opens, Begins}
use Rattle.history.specs.Settled.{SettledFloods, Followed, FloodsSettle, SettleWithin, BeginsUnmarked, CarryNumber}
use Rattle.history.specs.Worlds.{Field, Lent, World}
use Rattle.history.proofs.Checks.{opening_gives, links_kept}
use Rattle.history.proofs.Keeping.{RowKept, row_kept}
use Rattle.history.proofs.Kept.{Steps, kept, carried_from}
use Rattle.history.proofs.Limits.{row_at, begun_in_limits, opened_in_limits, taken_in_limits, closed_in_limits, damaged_in_limits, sent_by, link_gives}
use Rattle.history.proofs.Places.{none_is_some, there_is, at_changed}
use Rattle.history.proofs.Rows.{takes, BaseOpens, base_opens}
use Rattle.history.proofs.Rows.BaseOpens.{Waits, Sends}
use Rattle.history.proofs.Running.{RowsTell, FloodsTell, Tell, wait_tells, begin_tells, take_tells, close_tells}
use Rattle.history.proofs.Tales.{Known, Left}
use Rattle.history.proofs.TalesSettle.{flood_within, settled}
use Rattle.history.proofs.Told.{EachRow}
use Rattle.numbering.specs.Meaning.{Meaning, KeepsLawful, Settles}

-- Floods by their places.
module _ {Num : Type 0} where
  flood_none : {P : Type 0} (k : ℕ) (flood : Flood Num) → flood_at [] k ≡ Some flood → P
  unfolding flood_at
  flood_none k flood e = none_is_some flood e

  -- the latest flood, or one before
  flood_cases :
      (latest : Flood Num) (floods : List (Flood Num)) (k : ℕ) (flood : Flood Num) → flood_at (latest ∷ floods) k ≡ Some flood
      → ((k ≡ length floods) × (flood ≡ latest)) ⊎ (flood_at floods k ≡ Some flood)
  unfolding flood_at
  flood_cases latest floods k flood = by (eqb k (length floods)) refl
    where
      by :
          (b : Bool) → eqb k (length floods) ≡ b → cond b (Some latest) (flood_at floods k) ≡ Some flood
          → ((k ≡ length floods) × (flood ≡ latest)) ⊎ (flood_at floods k ≡ Some flood)
      by true here e = inl (eqb-true k (length floods) here, sym (same_Some latest flood e))
      by false before e = inr e

  flood_latest : (latest : Flood Num) (floods : List (Flood Num)) (k : ℕ) → k ≡ length floods → flood_at (latest ∷ floods) k ≡ Some latest
  unfolding flood_at
  flood_latest latest floods k e = rw (eq-eqb k (length floods) e) refl

  flood_before : (latest : Flood Num) (floods : List (Flood Num)) (k : ℕ) (flood : Flood Num) → flood_at floods k ≡ Some flood → flood_at (latest ∷ floods) k ≡ Some flood
  unfolding flood_at
  flood_before latest floods k flood e = rw (ne_eqb k (length floods) (λ same. absurd (let less = flood_within floods k flood e in omega (arith, less, same)))) e

  length_later : (flood : Flood Num) (floods : List (Flood Num)) → length (without_first (flood ∷ floods)) ≡ length floods
  unfolding without_first
  length_later flood [] = refl
  length_later flood (earlier ∷ floods) = ap suc (length_later earlier floods)

  -- the first left out, each place is one less
  flood_later : (floods : List (Flood Num)) (k : ℕ) (flood : Flood Num) → flood_at (without_first floods) k ≡ Some flood → flood_at floods (suc k) ≡ Some flood
  unfolding without_first
  flood_later [] k flood e = flood_none k flood e
  flood_later (only ∷ []) k flood e = flood_none k flood e
  flood_later (latest ∷ (earlier ∷ floods)) k flood e =
      ⊎_elim
      (λ p. rw p.1 (flood_latest latest (earlier ∷ floods) (suc k) (ap suc (p.0 ∙ length_later earlier floods))))
      (λ q. flood_before latest (earlier ∷ floods) (suc k) flood (flood_later (earlier ∷ floods) k flood q))
      (flood_cases latest (without_first (earlier ∷ floods)) k flood e)

module _ {Num : Type 0} (field : Field Num) where
  known_at : (floods : List (Flood Num)) → FloodsTell field floods → (k : ℕ) (flood : Flood Num) → flood_at floods k ≡ Some flood → Known field.numbering field.settings.n flood
  unfolding FloodsTell
  known_at [] tells k flood e = flood_none k flood e
  known_at (latest ∷ []) tells k flood e = ⊎_elim (λ p. rw p.1 tells) (λ q. flood_none k flood q) (flood_cases latest [] k flood e)
  known_at (latest ∷ (earlier ∷ floods)) tells k flood e =
      ⊎_elim (λ p. rw p.1 tells.0) (λ q. known_at (earlier ∷ floods) tells.4 k flood q) (flood_cases latest (earlier ∷ floods) k flood e)

  next_at :
      (floods : List (Flood Num)) → FloodsTell field floods → (k : ℕ) (flood later : Flood Num) → flood_at floods k ≡ Some flood
      → flood_at floods (suc k) ≡ Some later → Left field.numbering field.settings.n flood later.before
  unfolding FloodsTell
  next_at [] tells k flood later e f = flood_none k flood e
  next_at (latest ∷ []) tells k flood later e f = ⊎_elim (λ p. absurd (omega (arith, p.0))) (λ q. flood_none (suc k) later q) (flood_cases latest [] (suc k) later f)
  next_at (latest ∷ (earlier ∷ floods)) tells k flood later e f = by (flood_cases latest (earlier ∷ floods) k flood e) (flood_cases latest (earlier ∷ floods) (suc k) later f) (next_at (earlier ∷ floods) tells.4 k flood later)
    where
      by :
          ((k ≡ suc (length floods)) × (flood ≡ latest)) ⊎ (flood_at (earlier ∷ floods) k ≡ Some flood)
          → ((suc k ≡ suc (length floods)) × (later ≡ latest)) ⊎ (flood_at (earlier ∷ floods) (suc k) ≡ Some later)
          → (flood_at (earlier ∷ floods) k ≡ Some flood → flood_at (earlier ∷ floods) (suc k) ≡ Some later → Left field.numbering field.settings.n flood later.before)
          → Left field.numbering field.settings.n flood later.before
      by (inl p) (inl q) rest = absurd (omega (arith, p.0, q.0))
      by (inl p) (inr q) rest = absurd (let less = flood_within (earlier ∷ floods) (suc k) later q in omega (arith, p.0, less))
      by (inr p) (inl q) rest =
          ⊎_elim (λ here. rw (q.1, here.1) tells.1) (λ before. absurd (let less = flood_within floods k flood before in omega (arith, q.0, less))) (flood_cases earlier floods k flood p)
      by (inr p) (inr q) rest = rest p q

  alone_at :
      (floods : List (Flood Num)) → FloodsTell field floods → (k : ℕ) (flood : Flood Num) → flood_at floods (suc k) ≡ Some flood
      → BeginsUnmarked field.settings.n flood × CarryNumber flood.number flood.copies
  unfolding FloodsTell
  alone_at [] tells k flood e = flood_none (suc k) flood e
  alone_at (latest ∷ []) tells k flood e = ⊎_elim (λ p. absurd (omega (arith, p.0))) (λ q. flood_none (suc k) flood q) (flood_cases latest [] (suc k) flood e)
  alone_at (latest ∷ (earlier ∷ floods)) tells k flood e =
      ⊎_elim (λ p. rw p.1 (tells.2, tells.3)) (λ q. alone_at (earlier ∷ floods) tells.4 k flood q) (flood_cases latest (earlier ∷ floods) (suc k) flood e)

  -- floods so told settle
  told_settle : KeepsLawful field.numbering → (floods : List (Flood Num)) → FloodsTell field floods → SettledFloods field.numbering field.settings.n (without_first floods)
  told_settle lawful floods tells =
      settled field.numbering field.settings.n (without_first floods) lawful
      (record {
        known = λ k flood e. known_at floods tells (suc k) flood (flood_later floods k flood e);
        next = λ k flood later e f. next_at floods tells (suc k) flood later (flood_later floods k flood e) (flood_later floods (suc k) later f);
      })
      (record { alone = λ k flood e. alone_at floods tells k flood (flood_later floods k flood e) })

-- What happens as an instant opens.
module _ {Num : Type 0} (before after : World Num) (row : Row Num) (there : slice_get after.rows 0 ≡ Some row) where
  only_opens : row.outgoing ≡ None → open_events before after ≡ Opens ∷ []
  unfolding open_events
  only_opens none = rw (there, none)

  a_flood_begins : (message : Message Num) → row.outgoing ≡ Some message → open_events before after ≡ Opens ∷ (Begins message.number before.rows ∷ [])
  unfolding open_events
  a_flood_begins message some = rw (there, some)

-- Each step keeps what is told.
module _ {Num : Type 0} (lent : Lent Num) (lawful : KeepsLawful lent.field.numbering) (periods : KeepsPeriods lent.period) (links : LinksKeep lent.field) where
  abbrev m : Meaning Num
  m = lent.field.numbering

  abbrev s : Settings
  s = lent.field.settings

  -- Of a run: it stands within its limits, and its rows and floods tell what they have to.
  Tells : World Num → List (Flood Num) → Type 0
  Tells world floods = InLimits lent.field world × Tell lent.field world.rows floods

  rows_kept : (world : World Num) → InLimits lent.field world → EachRow s.n (RowKept lent.field) world.rows
  rows_kept world limits sensor row h e = row_kept lent.field _ sensor row (row_at lent.field world world.position refl limits sensor row h e)

  module _ (world : World Num) (limits : InLimits lent.field world) (numbered : no_number lent.field world ≡ false) where
    all_there : (sensor : ℕ) → sensor < s.n → (row : Row Num) × (slice_get world.rows sensor ≡ Some row)
    all_there sensor h = there_is world.rows sensor (omega (arith, h, limits.rows_there))

    base : (row : Row Num) × (slice_get world.rows 0 ≡ Some row)
    base = all_there 0 (omega (arith, s.n_least))

    abbrev base_now : Row Num
    base_now = row_opened m s lent.period (suc world.instant) 0 base.0

    opens : BaseOpens m s base.0 base_now
    opens = base_opens m s base.0 (rw (base.1, no_number) at numbered)

    base_there : slice_get (world_opened lent world).rows 0 ≡ Some base_now
    unfolding world_opened
    base_there = at_changed (row_opened m s lent.period (suc world.instant)) s.n 0 world.rows base.0 (omega (arith, s.n_least)) base.1

    open_tells :
        (floods : List (Flood Num)) → Tell lent.field world.rows floods
        → Tell lent.field (world_opened lent world).rows (through noted floods (open_events world (world_opened lent world)))
    unfolding world_opened through
    open_tells floods tells = by base_now opens refl
      where
        by :
            (row : Row Num) → BaseOpens m s base.0 row → base_now ≡ row
            → Tell lent.field (world_opened lent world).rows (through noted floods (open_events world (world_opened lent world)))
        by _ (Waits late) is =
            rw (only_opens world (world_opened lent world) base_now base_there (ap (λ (r : Row Num). r.outgoing) is))
            (wait_tells lent.field lent.period (suc world.instant) world.rows (rows_kept world limits) base.0 base.1 late is floods tells.0, tells.1)
        by _ (Sends number due follows) is =
            rw (a_flood_begins world (world_opened lent world) base_now base_there (record { hop = s.hmax; number = number }) (ap (λ (r : Row Num). r.outgoing) is))
            (begin_tells lent.field lent.period (suc world.instant) world.rows (rows_kept world limits) base.0 base.1 number due follows is all_there floods tells)

  copy_tells :
      (world : World Num) (position : ℕ) (next : AfterCopy Num) (floods : List (Flood Num)) → InLimits lent.field world → world.position ≡ Some position → next_taken lent world ≡ Some next
      → Tell lent.field world.rows floods → Tell lent.field next.world.rows (joined next.copy floods)
  unfolding copy_taken
  copy_tells world position next floods limits within e tells =
      let f = carried_from lent world position next within e in
      let ends = link_gives lent.field links f.place f.link f.there in
      let sender = sent_by world.rows f.link f.message f.goes in
      let kept = rows_kept world limits f.link.to f.row ends.1 f.comes in
      let done = copy_taken lent world f.place f.link f.message f.row in
      subst (λ (c : AfterCopy Num). Tell lent.field c.world.rows (joined c.copy floods)) f.taken
      (take_tells lent.field world.rows f.link.from f.link.to sender.0 f.row f.message sender.1 sender.2 f.comes ends.2 ends.0 ends.1 kept _ (takes m f.message f.row (comes_through lent world f.link)) done.copy refl refl refl floods tells)

  tells_kept : Steps lent noted Tells
  unfolding Tells RowsTell FloodsTell world_closed
  tells_kept = record {
    opens = λ world next floods tells between e.
        let gives = opening_gives lent world next e in (
          opened_in_limits lent lawful periods world next between e tells.0,
          subst (λ (w : World Num). Tell lent.field w.rows (through noted floods (open_events world w))) (sym gives.0) (open_tells world tells.0 gives.1 floods tells.1),
        );
    takes = λ world position next floods tells within e. (
      taken_in_limits lent links world position next within e tells.0,
      copy_tells world position next floods tells.0 within e tells.1,
    );
    closes = λ world position floods tells within e. (
      closed_in_limits lent world tells.0,
      (close_tells lent.field world.rows floods tells.1.0, tells.1.1),
    );
    damages = λ world next damage floods tells between e. (damaged_in_limits lent damage world next between e tells.0, (tt, tt));
  }

  history_tells : (world : World Num) → InLimits lent.field world → (calls : List (Call Num)) → FloodsTell lent.field (floods_told (history lent calls world).events)
  unfolding Tells RowsTell FloodsTell
  history_tells world limits calls = (kept lent noted Tells tells_kept calls world [] (limits, (tt, tt))).1.1

pub floods_settle : {Num : Type 0} (field : Field Num) → KeepsLawful field.numbering → OnceBegun field FloodsSettle
unfolding FloodsSettle
floods_settle field lawful rows senders world e period carries periods calls =
    let lent : Lent _ = record { field = field; period = period; carries = carries } in
    told_settle field lawful (floods_told (history lent calls world).events)
    (history_tells lent lawful periods (links_kept field rows senders world e) world (begun_in_limits field rows senders world e) calls)

-- of a settling numbering's own figures
pub settle_within : {Num : Type 0} (G : ℕ) (C : Num → Num → ℕ) (field : Field Num) → Settles field.numbering G C → (start : World Num) → FloodsSettle field start → SettleWithin G C field start
unfolding FloodsSettle SettleWithin
settle_within G C field settles start settle period carries periods calls sensor first own source is_sensor begins own_there source_there =
    let settled = settle period carries periods calls in
    let followed : Followed field.numbering field.settings.n _ G C sensor =
    record { settles = settles; is_sensor = is_sensor; first = first; begins = begins; own = own; base = source; own_there = own_there; base_there = source_there } in
    (settled.holds_latest G C sensor followed, settled.accepts_first G C sensor followed)
