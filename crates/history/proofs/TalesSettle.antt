-- Floods that follow one another as told settle. Assumes nothing.
use Rattle.std.proofs.lemmas.Option.{same_Some}
use Rattle.std.proofs.Common.{◌≡◌, ℕ, zero, suc, ◌+◌, ◌<◌, ◌≤◌, Bool, true, false, cond, ◌&&◌, ◌||◌, inl, inr, List, [], ◌∷◌, length, Some, unwrap_or, sym, refl, ap, ◌∙◌, subst, arith, eqb-true, ne_eqb}
use Rattle.std.proofs.lemmas.Bool.{eqb-false}
use Rattle.std.specs.Prelude.{◌==◌}
use Rattle.std.specs.List.{slice_get, list_any}
use Rattle.field.specs.declared.Row.{Row}
use Rattle.flood.specs.declared.hearing.Verdict.{Verdict}
use Rattle.flood.specs.declared.hearing.Verdict.TheVariants.{Lost, Refused, Accepted, Forwards}
use Rattle.history.specs.Floods.{hears_copy, Flood, hears, accepts, flood_at, verdicts_of, heard_by}
use Rattle.history.specs.Settled.{AcceptsFirst, CarryNumber, PassUnheard, NoneMissed, LatestHeard, SettledFloods}
use Rattle.history.specs.declared.taking.TakenCopy.{TakenCopy}
use Rattle.history.proofs.Places.{none_is_some}
use Rattle.history.proofs.Sequences.{OnePasses, NonePass, searched, Course, InStep, passes, settles_down}
use Rattle.history.proofs.Tales.{held_after, Judged, NoneTo, Known, Left, Tale, Alone}
use Rattle.numbering.specs.Meaning.{Meaning, Lawful, KeepsLawful, Settles}

some_of : {A : Type 0} → List A → Bool
some_of [] = false
some_of (x ∷ xs) = true

-- is a copy among these heard by a sensor?
abbrev one_heard : {Num : Type 0} → ℕ → List (TakenCopy Num) → Bool
one_heard sensor = list_any (hears_copy sensor)

-- copies with one number, at a sensor that held x before them
module _ {Num : Type 0} (m : Meaning Num) (number x : Num) where
  -- what they come to: whether one was heard, what is held after them, and the verdicts on those that were heard
  record Turned (heard : Bool) (held : Num) (verdicts : List Verdict) : Type 0 where
    holds : held ≡ cond (heard && m.fresh number x) number x
    firsts : m.fresh number x ≡ true → AcceptsFirst verdicts
    some : heard ≡ some_of verdicts

  module _ (itself : m.fresh number number ≡ false) where
    -- with the number that it now holds, or refused before, a copy is refused
    again : (fresh : Bool) (held : Num) → m.fresh number x ≡ fresh → held ≡ cond fresh number x → m.fresh number held ≡ false
    again true held e h = rw h itself
    again false held e h = rw h e

    one_more :
        (verdict : Verdict) (heard : Bool) (held : Num) (verdicts : List Verdict)
        → Turned heard held verdicts → hears verdict ≡ true → accepts verdict ≡ m.fresh number held → Turned true (cond (accepts verdict) number held) (verdict ∷ verdicts)
    unfolding some_of AcceptsFirst
    one_more verdict heard held [] t hears_it judged =
        let own : held ≡ x = t.holds ∙ rw t.some in
        let first : accepts verdict ≡ m.fresh number x = judged ∙ rw own in
        record { holds = rw (first, own); firsts = λ new. first ∙ new; some = refl }
    one_more verdict heard held (earlier ∷ verdicts) t hears_it judged =
        let same : held ≡ cond (m.fresh number x) number x = t.holds ∙ rw t.some in
        let refused : accepts verdict ≡ false = judged ∙ again (m.fresh number x) held refl same in
        record { holds = rw refused same; firsts = λ new. (rw (hears_it, refused) refl, t.firsts new); some = refl }

    at_copy :
        (here : Bool) (verdict : Verdict) (heard : Bool) (held : Num) (verdicts : List Verdict)
        → Turned heard held verdicts → (here ≡ true → hears verdict ≡ true → accepts verdict ≡ m.fresh number held)
        → Turned ((here && hears verdict) || heard) (cond (here && accepts verdict) number held) (cond (here && hears verdict) (verdict ∷ verdicts) verdicts)
    at_copy false verdict heard held verdicts t judged = t
    at_copy true Lost heard held verdicts t judged = t
    at_copy true Refused heard held verdicts t judged = one_more Refused heard held verdicts t refl (judged refl refl)
    at_copy true Accepted heard held verdicts t judged = one_more Accepted heard held verdicts t refl (judged refl refl)
    at_copy true Forwards heard held verdicts t judged = one_more Forwards heard held verdicts t refl (judged refl refl)

    turned :
        (sensor : ℕ) (copies : List (TakenCopy Num)) → CarryNumber number copies → Judged m sensor x copies
        → Turned (one_heard sensor copies) (held_after m sensor x copies) (verdicts_of sensor copies)
    unfolding some_of AcceptsFirst CarryNumber Judged held_after verdicts_of
    turned sensor [] carry judged = record { holds = refl; firsts = λ new. tt; some = refl }
    turned sensor (copy ∷ copies) carry judged =
        let earlier = turned sensor copies carry.1 judged.1 in
        rw carry.0 (at_copy (copy.to == sensor) copy.verdict (one_heard sensor copies) (held_after m sensor x copies) (verdicts_of sensor copies) earlier
        (λ here heard. rw carry.0 at (judged.0 (eqb-true copy.to sensor here) heard)))

module _ {Num : Type 0} where
  -- the k-th flood is there where k is less than how many there are, and not else
  pub flood_within : (floods : List (Flood Num)) (k : ℕ) (flood : Flood Num) → flood_at floods k ≡ Some flood → k < length floods
  unfolding flood_at
  flood_within [] k flood e = none_is_some flood e
  flood_within (latest ∷ floods) k flood e = by (flood_within floods k flood) (k == length floods) refl
    where
      by : (flood_at floods k ≡ Some flood → k < length floods) → (b : Bool) → (k == length floods) ≡ b → k < suc (length floods)
      by rest true f = let same = eqb-true k (length floods) f in omega arith
      by rest false f = let less = rest (rw f at e) in omega arith

  flood_there : (floods : List (Flood Num)) (other : Flood Num) (k : ℕ) → k < length floods → flood_at floods k ≡ Some (unwrap_or (flood_at floods k) other)
  unfolding flood_at
  flood_there [] other k h = absurd (omega arith)
  flood_there (latest ∷ floods) other k h = by (flood_there floods other k) (k == length floods) refl
    where
      by :
          (k < length floods → flood_at floods k ≡ Some (unwrap_or (flood_at floods k) other)) → (b : Bool) → (k == length floods) ≡ b
          → flood_at (latest ∷ floods) k ≡ Some (unwrap_or (flood_at (latest ∷ floods) k) other)
      by rest true f = rw f
      by rest false f = let apart = eqb-false k (length floods) f in rw f (rest (omega arith))

  -- copies that go elsewhere are not heard
  deaf : (m : Meaning Num) (sensor : ℕ) (copies : List (TakenCopy Num)) → NoneTo m sensor copies → one_heard sensor copies ≡ false
  unfolding NoneTo
  deaf m sensor [] none = refl
  deaf m sensor (copy ∷ copies) none = rw (ne_eqb copy.to sensor none.0) (deaf m sensor copies none.1)

module _
    {Num : Type 0} (m : Meaning Num) (n : ℕ) (floods : List (Flood Num)) (keeps : KeepsLawful m) (tale : Tale m n floods) (alone : Alone m n floods)
    (G : ℕ) (C : Num → Num → ℕ) (settles : Settles m G C) where
  -- in step just before a flood, a sensor accepts its first copy
  abbrev Fine : ℕ → ℕ → Flood Num → Type 0
  Fine sensor to flood =
      ((row : Row Num) → slice_get flood.before sensor ≡ Some row → LatestHeard floods sensor to row.held) × AcceptsFirst (verdicts_of sensor flood.copies)

  row_lawful : (flood : Flood Num) (sensor : ℕ) (row : Row Num) → Known m n flood → sensor < n → slice_get flood.before sensor ≡ Some row → Lawful m row.held
  row_lawful flood sensor row known less e =
      let stands = known.rows sensor less in
      subst (λ (r : Row Num). Lawful m r.held) (same_Some stands.0 row (sym stands.1 ∙ e)) stands.2

  -- a sensor that is not the base, from the first flood on up to another
  module _
      (sensor : ℕ) (here : sensor < n) (away : sensor ≡ 0 → ⊥) (first : Flood Num) (own base : Row Num)
      (at_first : flood_at floods 0 ≡ Some first) (at_own : slice_get first.before sensor ≡ Some own) (at_base : slice_get first.before 0 ≡ Some base)
      (to : ℕ) (last : Flood Num) (at_last : flood_at floods to ≡ Some last) where
    -- of each flood what was told of it, with the first for one that there is not
    abbrev flood_of : ℕ → Flood Num
    flood_of k = unwrap_or (flood_at floods k) first

    abbrev row_of : ℕ → Row Num
    row_of k = unwrap_or (slice_get (flood_of k).before sensor) own

    abbrev base_at : ℕ → Num
    base_at zero = base.held
    base_at (suc k) = (flood_of k).number

    abbrev held_at : ℕ → Num
    held_at k = (row_of k).held

    abbrev heard_at : ℕ → Bool
    heard_at k = heard_by sensor (flood_of k)

    is_flood : (k : ℕ) (flood : Flood Num) → flood_at floods k ≡ Some flood → flood_of k ≡ flood
    is_flood k flood e = rw e

    is_row : (k : ℕ) (flood : Flood Num) (row : Row Num) → flood_at floods k ≡ Some flood → slice_get flood.before sensor ≡ Some row → row_of k ≡ row
    is_row k flood row e f = rw (is_flood k flood e, f)

    there : (k : ℕ) → k ≤ to → flood_at floods k ≡ Some (flood_of k)
    there k h = let within = flood_within floods to last at_last in flood_there floods first k (omega arith)

    known : (k : ℕ) → k ≤ to → Known m n (flood_of k)
    known k h = tale.known k (flood_of k) (there k h)

    left : (k : ℕ) → k < to → Left m n (flood_of k) (flood_of (suc k)).before
    left k h = tale.next k (flood_of k) (flood_of (suc k)) (there k (omega arith)) (there (suc k) h)

    row_there : (k : ℕ) → k ≤ to → slice_get (flood_of k).before sensor ≡ Some (row_of k)
    row_there k h =
        let row = (known k h).rows sensor here in
        row.1 ∙ ap (λ (r : Row Num). Some r) (sym (is_row k (flood_of k) row.0 (there k h) row.1))

    base_there : slice_get (flood_of 0).before 0 ≡ Some base
    base_there = rw (is_flood 0 first at_first) at_base

    number_itself : (k : ℕ) → k ≤ to → m.fresh (flood_of k).number (flood_of k).number ≡ false
    number_itself k h =
        let row = (known k h).rows 0 (omega arith) in
        settles.itself (flood_of k).number (keeps row.0.held (flood_of k).number row.2 ((known k h).follows row.0 row.1))

    turned_at :
        (k : ℕ) → k ≤ to
        → Turned m (flood_of k).number (held_at k) (heard_at k) (held_after m sensor (held_at k) (flood_of k).copies) (verdicts_of sensor (flood_of k).copies)
    unfolding heard_by
    turned_at k h =
        turned m (flood_of k).number (held_at k) (number_itself k h) sensor (flood_of k).copies (alone.alone k (flood_of k) (there k h)).1
        ((known k h).judged sensor (row_of k) here away (row_there k h))

    pass_unheard : (from to : ℕ) → NonePass heard_at from to → PassUnheard floods sensor from to
    pass_unheard from to none k flood low high e = rw (is_flood k flood e) at (none k low high)

    next : (k : ℕ) → k ≤ to → m.next (base_at k) ≡ Some (base_at (suc k))
    next zero h = (known 0 h).follows base base_there
    next (suc k) h = let row = (known (suc k) h).rows 0 (omega arith) in rw ((left k h).base row.0 row.1) at ((known (suc k) h).follows row.0 row.1)

    hears_one : NoneMissed floods sensor G to → (k : ℕ) → k + G ≤ to → OnePasses heard_at k (k + G)
    hears_one missed k h = elim (searched heard_at k G) [ inl one ↦ one | inr none ↦ absurd (missed k h (pass_unheard k (k + G) none)) ]

    course : NoneMissed floods sensor G to → Course m G base_at held_at heard_at to
    course missed = record {
      base_lawful = row_lawful (flood_of 0) 0 base (known 0 (omega arith)) (omega arith) base_there;
      held_lawful = row_lawful (flood_of 0) sensor (row_of 0) (known 0 (omega arith)) here (row_there 0 (omega arith));
      next = next;
      holds = λ k h. (left k h).held sensor (row_of k) (row_of (suc k)) here away (row_there k (omega arith)) (row_there (suc k) h) ∙ (turned_at k (omega arith)).holds;
      hears = hears_one missed;
    }

    latest_heard : InStep m G base_at held_at heard_at to → (row : Row Num) → slice_get last.before sensor ≡ Some row → LatestHeard floods sensor to row.held
    latest_heard s row e = (
      s.latest,
      flood_of s.latest,
      s.before,
      there s.latest (omega arith),
      s.was_heard,
      sym s.is_held ∙ ap (λ (r : Row Num). r.held) (is_row to last row at_last e),
      pass_unheard (suc s.latest) to s.since,
    )

    settles_there : C own.held base.held ≤ to → NoneMissed floods sensor G to → Fine sensor to last
    settles_there h missed =
        let full = subst (λ (r : Row Num). C r.held base.held ≤ to) (sym (is_row 0 first own at_first at_own)) h in
        let s = settles_down m G base_at held_at heard_at keeps C settles to (course missed) full in
        let new = passes m G base_at held_at heard_at keeps C settles to (course missed) to (omega arith) s in
        (latest_heard s, rw (is_flood to last at_last) at ((turned_at to (omega arith)).firsts new))

  all_settle :
      (sensor : ℕ) (first : Flood Num) (own base : Row Num)
      → sensor < n → flood_at floods 0 ≡ Some first → slice_get first.before sensor ≡ Some own → slice_get first.before 0 ≡ Some base
      → (to : ℕ) (last : Flood Num) → flood_at floods to ≡ Some last → C own.held base.held ≤ to → NoneMissed floods sensor G to → Fine sensor to last
  unfolding heard_by
  -- the base hears nothing
  all_settle zero first own base here at_first at_own at_base to last at_last full missed =
      let known = tale.known 0 first at_first in
      let enough = settles.enough own.held base.held (row_lawful first 0 own known here at_own) (row_lawful first 0 base known here at_base) in
      absurd (missed 0 (omega arith) (λ k flood low high e. deaf m 0 flood.copies (tale.known k flood e).base_deaf))
  all_settle (suc sensor) first own base here at_first at_own at_base to last at_last full missed =
      settles_there (suc sensor) here (λ e. absurd (omega arith)) first own base at_first at_own at_base to last at_last full missed

pub settled : {Num : Type 0} (m : Meaning Num) (n : ℕ) (floods : List (Flood Num)) → KeepsLawful m → Tale m n floods → Alone m n floods → SettledFloods m n floods
settled m n floods keeps tale alone = record {
  alone = alone.alone;
  holds_latest = λ G C sensor f missed last row at_last at_row.
      (all_settle m n floods keeps tale alone G C f.settles sensor f.first f.own f.base f.is_sensor f.begins f.own_there f.base_there (C f.own.held f.base.held) last at_last (omega arith) missed).0 row at_row;
  accepts_first = λ G C sensor f to last full at_last missed.
      (all_settle m n floods keeps tale alone G C f.settles sensor f.first f.own f.base f.is_sensor f.begins f.own_there f.base_there to last at_last full missed).1;
}
