-- That floods settle bites: the theorem at what a run comes to by computation. Assumes nothing.
use Rattle.std.proofs.lemmas.Bool.{cases_lt, le-leb}
use Rattle.std.proofs.lemmas.Option.{same_Some}
use Rattle.std.proofs.Common.{◌≡◌, ℕ, zero, suc, ◌+◌, ◌%◌, ◌<◌, ◌≤◌, Bool, true, false, true≢false, inl, inr, List, [], ◌∷◌, map, None, Some, Ok, slice_get, refl, sym, ap, ◌∙◌, subst, arith}
use Rattle.std.proofs.Math.Nat.{mod-lt}
use Rattle.air.specs.Delays.{slowest_period}
use Rattle.field.specs.declared.Row.{Row}
use Rattle.flood.specs.declared.hearing.Verdict.TheVariants.{Refused}
use Rattle.history.specs.Bites.{Run, Bites, Reached, TightCount, TightPatience, SettlingBites, floods, hearings, in_circular, in_differentiated, lent, rows, start, two_missed}
use Rattle.history.specs.Calls.{begun}
use Rattle.history.specs.Floods.{Flood, flood_at, heard_by, verdicts_of}
use Rattle.history.specs.Histories.Call.{Play}
use Rattle.history.specs.Settled.{AcceptsAfter, AcceptsFirst, FloodsSettle, Followed, HoldsLatest, LatestHeard, NoneMissed, PassUnheard, SettledFloods}
use Rattle.history.specs.Worked.{senders}
use Rattle.history.proofs.Computing.{runs}
use Rattle.history.proofs.Floods.{floods_settle}
use Rattle.history.proofs.Worked.{OneHeard, none_missed, slowest_keeps}
use Rattle.numbering.specs.Four.{circular_catch_up, circular_fresh, differs, half, ring}
use Rattle.numbering.specs.Meaning.{KeepsLawful, Settles}
use Rattle.numbering.specs.RingSettles.{circular_settles, differentiated_settles}

ring_keeps_lawful : (smax : ℕ) (fresh : ℕ → ℕ → Bool) → KeepsLawful (ring smax fresh)
ring_keeps_lawful smax fresh s t lawful e =
    let below : (s + 1) % (smax + 1) < smax + 1 = mod-lt (s + 1) {m = smax + 1} (omega arith) in
    le-leb t smax (subst (λ (u : ℕ). u ≤ smax) (same_Some _ t e) (omega (arith, below)))

-- What sensor 1 heard of floods, where some of them are known.
module _ (floods : List (Flood ℕ)) where
  abbrev Latest : ℕ → ℕ → Type 0
  Latest = LatestHeard floods 1

  module _ (k : ℕ) (flood : Flood ℕ) (there : flood_at floods k ≡ Some flood) where
    -- the latest is one that was just heard
    just_heard : heard_by 1 flood ≡ true → Latest (suc k) flood.number
    just_heard heard = (k, flood, omega arith, there, heard, refl, λ i later low high e. absurd (omega arith))

    -- or what it was before one that was not
    still : heard_by 1 flood ≡ false → (number : ℕ) → Latest k number → Latest (suc k) number
    still unheard number before = (before.0, before.1, omega (arith, before.2), before.3, before.4, before.5, since)
      where
        since : PassUnheard floods 1 (suc before.0) (suc k)
        since i later low high e =
            elim (cases_lt i k) [
              | inl less ↦ before.6 i later low less e
              | inr more ↦ (
                  let here : k ≡ i = omega arith in
                  subst (λ (f : Flood ℕ). heard_by 1 f ≡ false) (same_Some flood later (sym there ∙ ap (flood_at floods) here ∙ e)) unheard
                  )
            ]

  same_place : (to x y : ℕ) (p : Latest to x) (q : Latest to y) → p.0 ≡ q.0
  same_place to x y p q =
      let first : p.0 < q.0 → ⊥ = λ less. true≢false (sym q.4 ∙ p.6 q.0 q.1 less q.2 q.3) in
      let last : q.0 < p.0 → ⊥ = λ less. true≢false (sym p.4 ∙ q.6 p.0 p.1 less p.2 p.3) in
      omega (arith, first, last)

  same_number : (to x y : ℕ) → Latest to x → Latest to y → x ≡ y
  same_number to x y p q =
      let flood = same_Some p.1 q.1 (sym p.3 ∙ ap (flood_at floods) (same_place to x y p q) ∙ q.3) in
      sym p.5 ∙ ap (λ (f : Flood ℕ). f.number) flood ∙ q.5

  -- a flood at a place, by computation
  reached_at :
      (G k : ℕ) (flood : Flood ℕ) (row : Row ℕ) → flood_at floods k ≡ Some flood → slice_get flood.before 1 ≡ Some row
      → NoneMissed floods 1 G k → Reached floods G k
  reached_at G k flood row there row_there none = record {
    none_missed = none;
    flood = flood;
    row = row;
    there = there;
    row_there = row_there;
  }

settle_floods : (run : Run) → KeepsLawful run.numbering → begun (lent run).field (rows run) senders ≡ Ok (start run) → SettledFloods run.numbering 3 (floods run)
unfolding FloodsSettle floods
settle_floods run lawful begins =
    floods_settle (lent run).field lawful (rows run) senders (start run) begins slowest_period (lent run).carries slowest_keeps (Play run.instants 100 ∷ [])

-- The theorem at a run, of what it comes to by computation.
bites :
    (run : Run) (G : ℕ) (C : ℕ → ℕ → ℕ) (k : ℕ) → KeepsLawful run.numbering → Settles run.numbering G C
    → begun (lent run).field (rows run) senders ≡ Ok (start run)
    → (first : Flood ℕ) (own base : Row ℕ) → flood_at (floods run) 0 ≡ Some first → slice_get first.before 1 ≡ Some own
    → slice_get first.before 0 ≡ Some base → C own.held base.held ≡ k
    → (reached : Reached (floods run) G k) → map (λ row. row.mark) reached.flood.before ≡ None ∷ None ∷ None ∷ []
    → map (λ copy. copy.number) reached.flood.copies ≡ map (λ copy. reached.flood.number) reached.flood.copies
    → (latest : LatestHeard (floods run) 1 k reached.row.held)
    → Bites run G C (record {
      own = own.held;
      base = base.held;
      heard = hearings (floods run);
      count = k;
      held = reached.row.held;
      latest = latest.0;
      verdicts = verdicts_of 1 reached.flood.copies;
    })
bites run G C k lawful settles begins first own base first_there own_there base_there count reached marks numbers latest =
    let followed : Followed run.numbering 3 (floods run) G C 1 = record {
      settles = settles;
      is_sensor = omega arith;
      first = first;
      begins = first_there;
      own = own;
      base = base;
      own_there = own_there;
      base_there = base_there;
    } in
    let settled = settle_floods run lawful begins in
    let holds_latest = subst (HoldsLatest (floods run) 1 G) count (settled.holds_latest G C 1 followed) in
    let accepts_after = subst (AcceptsAfter (floods run) 1 G) count (settled.accepts_first G C 1 followed) in
    let says = holds_latest reached.none_missed reached.flood reached.row reached.there reached.row_there in
    record {
      begins = begins;
      periods_keep = slowest_keeps;
      heard = refl;
      asked = record {
        followed = followed;
        none_missed = subst (NoneMissed (floods run) 1 G) (sym count) reached.none_missed;
        late = omega (arith, count);
        none_missed_since = reached.none_missed;
        flood = reached.flood;
        row = reached.row;
        there = reached.there;
        row_there = reached.row_there;
        heard = refl;
      };
      own = refl;
      base = refl;
      count = count;
      holds = refl;
      marks = marks;
      numbers = numbers;
      settled = settled;
      holds_latest = holds_latest;
      accepts_after = accepts_after;
      alone = settled.alone k reached.flood reached.there;
      latest = says;
      accepts_first = accepts_after k reached.flood (omega arith) reached.there reached.none_missed;
      latest_at = same_place (floods run) k reached.row.held reached.row.held says latest;
    }

-- of each two in a row sensor 1 hears one
circular_heard : (k : ℕ) → k + 2 ≤ 5 → OneHeard (floods in_circular) 2 k
unfolding runs floods
circular_heard zero h = (1, _, omega arith, omega arith, refl, refl)
circular_heard (suc zero) h = (1, _, omega arith, omega arith, refl, refl)
circular_heard (suc (suc zero)) h = (2, _, omega arith, omega arith, refl, refl)
circular_heard (suc (suc (suc zero))) h = (4, _, omega arith, omega arith, refl, refl)
circular_heard (suc (suc (suc (suc k)))) h = absurd (omega arith)

differentiated_missed : NoneMissed (floods in_differentiated) 1 2 2
unfolding runs floods
differentiated_missed = none_missed (floods in_differentiated) 2 2 (λ k h. (1, _, omega arith, omega arith, refl, refl))

circular_missed : (to : ℕ) → to ≤ 5 → NoneMissed (floods in_circular) 1 2 to
circular_missed to few = none_missed (floods in_circular) 2 to (λ k h. circular_heard k (omega arith))

-- the floods that are read off
circular_at_C : Reached (floods in_circular) 2 5
unfolding runs floods
circular_at_C = reached_at (floods in_circular) 2 5 _ _ refl refl (circular_missed 5 (omega arith))

circular_before_C : Reached (floods in_circular) 2 4
unfolding runs floods
circular_before_C = reached_at (floods in_circular) 2 4 _ _ refl refl (circular_missed 4 (omega arith))

differentiated_at_C : Reached (floods in_differentiated) 2 2
unfolding runs floods
differentiated_at_C = reached_at (floods in_differentiated) 2 2 _ _ refl refl differentiated_missed

two_missed_at_C : Reached (floods two_missed) 3 2
unfolding runs floods
two_missed_at_C = reached_at (floods two_missed) 3 2 _ _ refl refl (λ k h pass. absurd (omega arith))

tight_count : TightCount
unfolding runs floods reached_at circular_before_C
tight_count =
    let heard = still (floods in_circular) 3 _ refl refl 3 (just_heard (floods in_circular) 2 _ refl refl) in
    let another = λ (latest : LatestHeard (floods in_circular) 1 4 4). absurd (let same = same_number (floods in_circular) 4 4 3 latest heard in omega (arith, same)) in
    record {
      reached = circular_before_C;
      holds = refl;
      heard = heard;
      another = another;
      tight = λ says. another (says circular_before_C.none_missed circular_before_C.flood circular_before_C.row circular_before_C.there circular_before_C.row_there);
    }

tight_patience : TightPatience
unfolding runs floods reached_at two_missed_at_C AcceptsFirst
tight_patience =
    let refuses = λ (first : AcceptsFirst (Refused ∷ Refused ∷ [])). true≢false (sym first.1) in
    record {
      own = refl;
      base = refl;
      reached = two_missed_at_C;
      heard = refl;
      none_missed = none_missed (floods two_missed) 3 3 (λ k h. (2, two_missed_at_C.flood, omega arith, omega arith, two_missed_at_C.there, refl));
      refuses = refuses;
      tight = λ says. refuses (says 2 two_missed_at_C.flood (omega arith) two_missed_at_C.there two_missed_at_C.none_missed);
    }

pub settling_bites : SettlingBites
unfolding runs floods just_heard reached_at circular_at_C differentiated_at_C
settling_bites = record {
  circular =
      bites in_circular (half 4) (λ x b. circular_catch_up 4) 5 (ring_keeps_lawful 4 (circular_fresh 4)) (circular_settles 4 (omega arith)) refl _ _ _ refl refl refl refl
      circular_at_C refl refl (just_heard (floods in_circular) 4 _ refl refl);
  differentiated =
      bites in_differentiated 2 (λ x b. 2) 2 (ring_keeps_lawful 2 differs) (differentiated_settles 2 (omega arith)) refl _ _ _ refl refl refl refl
      differentiated_at_C refl refl (just_heard (floods in_differentiated) 1 _ refl refl);
  tight_count = tight_count;
  tight_patience = tight_patience;
}
