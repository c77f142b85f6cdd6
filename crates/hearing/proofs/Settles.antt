-- A sensor that hears every flood settles. Assumes nothing.
use Rattle.std.proofs.Common.{◌≡◌, ℕ, zero, suc, ◌+◌, ◌-◌, ◌≤◌, true, ◌⊎◌, List, [], is_some, Some, None, Option, sym, refl, ap, ◌∙◌, subst, inl, inr, ⊎_elim, suc-add, zero-add, arith}
use Rattle.std.proofs.lemmas.Grind.{common_steps}
use Rattle.std.proofs.lemmas.Option.{none-some}
use Rattle.std.specs.List.{slice_get}
use Rattle.numbering.specs.Meaning.{Meaning, Lawful, KeepsLawful, follow, after, Settles}
use Rattle.hearing.specs.declared.Heard.{Heard}
use Rattle.hearing.specs.declared.Verdict.TheVariants.{Accepted}
use Rattle.hearing.specs.Hearing.{heard, hearing, Settled}
use Rattle.hearing.proofs.Hears.{hearing_none, hearing_more}

-- nothing stands in an empty list
none_there : {X : Type 0} {P : Type 0} (xs : List X) (k : ℕ) (x : X) → xs ≡ [] → slice_get xs k ≡ Some x → P
none_there xs k x e f = absurd (none-some x (rw e at f))

module _ {Num : Type 0} (m : Meaning Num) where
  -- the numbers after what follows c are those after c, one later
  after_shift : (i : ℕ) (c s : Num) → m.next c ≡ Some s → after m (suc i) c ≡ after m i s
  after_shift zero c s e = e
  after_shift (suc i) c s e = ap (follow m) (after_shift i c s e)

  followed : (o : Option Num) → is_some (follow m o) ≡ true → is_some o ≡ true
  followed None e = e
  followed (Some s) e = refl

  -- where a later number exists, so does an earlier one
  after_below : (i j : ℕ) (b : Num) → is_some (after m (j + i) b) ≡ true → is_some (after m i b) ≡ true
  after_below i zero b e = rw zero-add at e
  after_below i (suc j) b e = after_below i j b (followed (after m (j + i) b) (rw suc-add at e))

  -- Whatever holds of the first flood, and of a later one if it holds once the first is heard, holds of each.
  each_heard :
      (P : ℕ → Num → Num → Heard Num → Type 0)
      → ((held base s : Num) → m.next base ≡ Some s → P 0 held base (heard m held s))
      → ((k : ℕ) (held base s : Num) (flood : Heard Num) → m.next base ≡ Some s → P k (heard m held s).held s flood → P (suc k) held base flood)
      → (n k : ℕ) (held base : Num) (flood : Heard Num) → slice_get (hearing m n held base) k ≡ Some flood → P k held base flood
  each_heard P first later zero k held base flood e = none_there [] k flood refl e
  each_heard P first later (suc n) k held base flood e = by (each_heard P first later n) (m.next base) refl k e
    where
      by : ((k : ℕ) (held base : Num) (flood : Heard Num) → slice_get (hearing m n held base) k ≡ Some flood → P k held base flood) → (o : Option Num) → m.next base ≡ o → (k : ℕ) → slice_get (hearing m (suc n) held base) k ≡ Some flood → P k held base flood
      by rest None none k f = none_there (hearing m (suc n) held base) k flood (hearing_none m (suc n) held base none) f
      by rest (Some s) some zero f =
          let same : heard m held s ≡ flood = (let g = rw (hearing_more m n held base s some) at f in cc) in
          subst (P 0 held base) same (first held base s some)
      by rest (Some s) some (suc k) f =
          later k held base s flood some (rest k (heard m held s).held s flood (rw (hearing_more m n held base s some) at f))

  -- a flood that is heard has a number
  numbered : (n k : ℕ) (held base : Num) (flood : Heard Num) → slice_get (hearing m n held base) k ≡ Some flood → is_some (after m (suc k) base) ≡ true
  numbered =
      each_heard (λ k held base flood. is_some (after m (suc k) base) ≡ true)
      (λ held base s e. ap is_some e)
      (λ k held base s flood e h. ap is_some (after_shift (suc k) base s e) ∙ h)

  -- the number is fresh, so it is held
  heard_fresh : (held s : Num) → m.fresh s held ≡ true → ((heard m held s).held ≡ s) × ((heard m held s).verdict ≡ Accepted)
  heard_fresh held s e = (rw e, rw e)

  -- what is heard is held, or nothing changes
  turns : (held s : Num) → ((heard m held s).held ≡ s) ⊎ ((heard m held s).held ≡ held)
  turns held s = grind (arith, common_steps)

  heard_number : (held s : Num) → (heard m held s).number ≡ s
  heard_number held s = grind (arith, common_steps)

module _ {Num : Type 0} (m : Meaning Num) (keeps : KeepsLawful m) (G : ℕ) (C : Num → Num → ℕ) (settles : Settles m G C) where
  next_fresh : (c s : Num) → Lawful m c → m.next c ≡ Some s → m.fresh s c ≡ true
  next_fresh c s l e = settles.patience c s 1 l (omega arith) settles.least e

  abbrev Fine : Heard Num → Type 0
  Fine flood = (flood.held ≡ flood.number) × (flood.verdict ≡ Accepted)

  fine : (held s : Num) → m.fresh s held ≡ true → Fine (heard m held s)
  fine held s e = ((heard_fresh m held s e).0 ∙ sym (heard_number m held s), (heard_fresh m held s e).1)

  -- the number q floods after the next is fresh against x, or x
  abbrev Reaches : Num → ℕ → Num → Type 0
  Reaches x q base = (t : Num) → after m (suc q) base ≡ Some t → (m.fresh t x ≡ true) ⊎ (t ≡ x)

  -- from flood q on in step
  abbrev OnTime : ℕ → ℕ → Heard Num → Type 0
  OnTime q k flood = (q ≤ k → flood.held ≡ flood.number) × (suc q ≤ k → flood.verdict ≡ Accepted)

  -- A sensor in step stays so; one that holds x is in step from the number on that reaches x.
  abbrev InStep : Num → ℕ → Num → Num → Heard Num → Type 0
  InStep x k held base flood =
      Lawful m base → (held ≡ base → Fine flood) × (held ≡ x → (q : ℕ) → Reaches x q base → OnTime q k flood)

  -- a number that reaches x is held once it is heard
  arrives : (x s : Num) → (m.fresh s x ≡ true) ⊎ (s ≡ x) → (heard m x s).held ≡ s
  arrives x s (inl e) = (heard_fresh m x s e).0
  arrives x s (inr e) = ⊎_elim (λ h. h) (λ h. h ∙ sym e) (turns m x s)

  first_in_step : (x held base s : Num) → m.next base ≡ Some s → InStep x 0 held base (heard m held s)
  first_in_step x held base s e l = (
    λ same. fine held s (subst (λ (h : Num). m.fresh s h ≡ true) (sym same) (next_fresh base s l e)),
    λ own q reach. (
      λ low.
          let none : q ≡ 0 = omega arith in
          let now = subst (λ (i : ℕ). Reaches x i base) none reach in
          subst (λ (h : Num). (heard m h s).held ≡ s) (sym own) (arrives x s (now s e)) ∙ sym (heard_number m held s),
      λ none. absurd (omega arith),
    ),
  )

  later_in_step : (x : Num) (k : ℕ) (held base s : Num) (flood : Heard Num) → m.next base ≡ Some s → InStep x k (heard m held s).held s flood → InStep x (suc k) held base flood
  later_in_step x k held base s flood e rest l =
      let on = rest (keeps base s l e) in (
        λ same. on.0 (heard_fresh m held s (subst (λ (h : Num). m.fresh s h ≡ true) (sym same) (next_fresh base s l e))).0,
        λ own q reach. caught on own q reach (turns m held s),
      )
    where
      caught :
          ((heard m held s).held ≡ s → Fine flood) × ((heard m held s).held ≡ x → (q : ℕ) → Reaches x q s → OnTime q k flood)
          → held ≡ x → (q : ℕ) → Reaches x q base → ((heard m held s).held ≡ s) ⊎ ((heard m held s).held ≡ held) → OnTime q (suc k) flood
      caught on own q reach (inl in_step) = let f = on.0 in_step in (λ h. f.0, λ h. f.1)
      caught on own zero reach (inr same) =
          let f = on.0 (subst (λ (h : Num). (heard m h s).held ≡ s) (sym own) (arrives x s (reach s e))) in
          (λ h. f.0, λ h. f.1)
      caught on own (suc q) reach (inr same) =
          let f = on.1 (same ∙ own) q (λ t g. reach t (after_shift m (suc q) base s e ∙ g)) in
          (λ h. f.0 (omega arith), λ h. f.1 (omega arith))

  pub settled : (x b : Num) → Lawful m x → Lawful m b → Settled m x b (C x b)
  unfolding Settled
  settled x b lx lb n k flood e =
      let there = numbered m n k x b flood e in
      let step = (each_heard m (InStep x) (first_in_step x) (later_in_step x) n k x b flood e lb).1 refl in
      let spot : C x b ≤ suc k → (j : ℕ) × (suc j ≤ C x b) × Reaches x j b = λ h. caught_up (within (suc k - C x b) (omega arith) there) in (
        λ h. let p = spot (omega arith) in (step p.0 p.2).0 (omega (arith, p.1)),
        λ h. let p = spot (omega arith) in (step p.0 p.2).1 (omega (arith, p.1)),
      )
    where
      within : (d : ℕ) → suc k ≡ d + C x b → is_some (after m (suc k) b) ≡ true → is_some (after m (C x b) b) ≡ true
      within d same there = after_below m (C x b) d b (subst (λ (i : ℕ). is_some (after m i b) ≡ true) same there)

      caught_up : is_some (after m (C x b) b) ≡ true → (j : ℕ) × (suc j ≤ C x b) × Reaches x j b
      caught_up there =
          let p = settles.catch_up x b lx lb there in
          (p.0, omega (arith, p.1, settles.least), λ t g. p.2 (suc p.0) t (omega arith) (omega (arith, settles.least)) g)
