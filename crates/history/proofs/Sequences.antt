-- A sensor that hears one of each G floods in a row settles: the argument on numbers in a row. Assumes nothing.
use Rattle.std.proofs.Common.{◌≡◌, ℕ, zero, suc, ◌+◌, ◌-◌, ◌<◌, ◌≤◌, Bool, true, false, true≢false, cond, ◌&&◌, ◌⊎◌, inl, inr, is_some, Some, sym, refl, ap, ◌∙◌, subst, arith}
use Rattle.std.proofs.lemmas.Bool.{and_parts, cases_lt}
use Rattle.numbering.specs.Meaning.{Meaning, Lawful, KeepsLawful, follow, after, Settles}

-- of the places from one on and before another, one passes a test, or none does
abbrev pub OnePasses : (ℕ → Bool) → ℕ → ℕ → Type 0
OnePasses test from to = (i : ℕ) × (from ≤ i) × (i < to) × (test i ≡ true)

abbrev pub NonePass : (ℕ → Bool) → ℕ → ℕ → Type 0
NonePass test from to = (i : ℕ) → from ≤ i → i < to → test i ≡ false

nor_next : (test : ℕ → Bool) (from to : ℕ) → NonePass test from to → test to ≡ false → NonePass test from (suc to)
nor_next test from to none e i low high = elim (cases_lt i to) [ inl less ↦ none i low less | inr more ↦ subst (λ (j : ℕ). test j ≡ false) (omega arith) e ]

pub searched : (test : ℕ → Bool) (from n : ℕ) → OnePasses test from (from + n) ⊎ NonePass test from (from + n)
searched test from zero = inr (λ i low high. absurd (omega arith))
searched test from (suc n) = by (searched test from n) (test (from + n)) refl
  where
    by : OnePasses test from (from + n) ⊎ NonePass test from (from + n) → (b : Bool) → test (from + n) ≡ b → OnePasses test from (from + suc n) ⊎ NonePass test from (from + suc n)
    by (inl one) b e = inl (one.0, one.1, omega arith, one.3)
    by (inr none) true e = inl (from + n, omega arith, omega arith, e)
    by (inr none) false e = inr (subst (NonePass test from) (omega arith) (nor_next test from (from + n) none e))

alike : {A : Type 0} (b : Bool) (x y : A) → y ≡ x → cond b x y ≡ x
alike true x y e = refl
alike false x y e = e

-- `base` and `held` are what the base and a sensor hold just before each flood, so flood k carries base (suc k); `heard` is whether
-- the sensor hears a copy of it.
module _ {Num : Type 0} (m : Meaning Num) (G : ℕ) (base held : ℕ → Num) (heard : ℕ → Bool) where
  -- how they go on up to a flood, where of each G floods before it one is heard
  pub record Course (to : ℕ) : Type 0 where
    pub base_lawful : Lawful m (base 0)
    pub held_lawful : Lawful m (held 0)
    pub next : (k : ℕ) → k ≤ to → m.next (base k) ≡ Some (base (suc k))
    pub holds : (k : ℕ) → k < to → held (suc k) ≡ cond (heard k && m.fresh (base (suc k)) (held k)) (base (suc k)) (held k)
    pub hears : (k : ℕ) → k + G ≤ to → OnePasses heard k (k + G)

  -- it holds the number of the latest flood that it heard
  pub record InStep (k : ℕ) : Type 0 where
    pub latest : ℕ
    pub before : latest < k
    pub was_heard : heard latest ≡ true
    pub is_held : held k ≡ base (suc latest)
    pub since : NonePass heard (suc latest) k

  module _ (keeps : KeepsLawful m) (C : Num → Num → ℕ) (settles : Settles m G C) (to : ℕ) (course : Course to) where
    lawful : (k : ℕ) → k ≤ suc to → Lawful m (base k)
    lawful zero h = course.base_lawful
    lawful (suc k) h = keeps (base k) (base (suc k)) (lawful k (omega arith)) (course.next k (omega arith))

    later : (k i j : ℕ) → k + i ≡ j → j ≤ suc to → after m i (base k) ≡ Some (base j)
    later k zero j e h = ap (λ (j : ℕ). Some (base j)) (omega arith)
    later k (suc i) j e h = ap (follow m) (later k i (k + i) refl (omega arith)) ∙ course.next (k + i) (omega arith) ∙ ap (λ (j : ℕ). Some (base j)) (omega arith)

    -- in step, the next number is fresh
    pub passes : (k : ℕ) → k ≤ to → InStep k → m.fresh (base (suc k)) (held k) ≡ true
    passes k h s =
        let far : suc s.latest + G ≤ k → ⊥ = λ long. missed long (course.hears (suc s.latest) (omega arith)) in
        let near : k ≤ s.latest + G = omega (arith, far) in
        let own = lawful (suc s.latest) (omega arith) in
        let number = later (suc s.latest) (k - s.latest) (suc k) (omega arith) (omega arith) in
        rw s.is_held (settles.patience (base (suc s.latest)) (base (suc k)) (k - s.latest) own (omega arith) (omega arith) number)
      where
        missed : suc s.latest + G ≤ k → OnePasses heard (suc s.latest) (suc s.latest + G) → ⊥
        missed long one = true≢false (sym one.3 ∙ s.since one.0 one.1 (omega arith))

    -- a flood that is heard, and whose number is held then
    now : (k : ℕ) → heard k ≡ true → held (suc k) ≡ base (suc k) → InStep (suc k)
    now k e f = record { latest = k; before = omega arith; was_heard = e; is_held = f; since = λ i low high. absurd (omega arith) }

    accepted : (k : ℕ) → k < to → heard k ≡ true → m.fresh (base (suc k)) (held k) ≡ true → InStep (suc k)
    accepted k h e f = now k e (course.holds k h ∙ rw (e, f))

    stays : (k : ℕ) → k < to → InStep k → InStep (suc k)
    stays k h s = by (heard k) refl
      where
        by : (b : Bool) → heard k ≡ b → InStep (suc k)
        by true e = accepted k h e (passes k (omega arith) s)
        by false e = record {
          latest = s.latest;
          before = omega (arith, s.before);
          was_heard = s.was_heard;
          is_held = course.holds k h ∙ rw e s.is_held;
          since = nor_next heard (suc s.latest) k s.since e;
        }

    stays_to : (k i : ℕ) → i + k ≡ to → InStep i → InStep to
    stays_to zero i h s = subst InStep (omega arith) s
    stays_to (suc k) i h s = stays_to k (suc i) (omega arith) (stays i (omega arith) s)

    -- out of step, it holds what it held at first
    waits : (k : ℕ) → k ≤ to → InStep k ⊎ (held k ≡ held 0)
    waits zero h = inr refl
    waits (suc k) h = by (waits k (omega arith)) (heard k && m.fresh (base (suc k)) (held k)) refl
      where
        by : InStep k ⊎ (held k ≡ held 0) → (b : Bool) → (heard k && m.fresh (base (suc k)) (held k)) ≡ b → InStep (suc k) ⊎ (held (suc k) ≡ held 0)
        by (inl s) b e = inl (stays k (omega arith) s)
        by (inr own) true e = let both = and_parts (heard k) (m.fresh (base (suc k)) (held k)) e in inl (accepted k (omega arith) both.0 both.1)
        by (inr own) false e = inr (course.holds k (omega arith) ∙ rw e own)

    -- the number of a flood, which is fresh against what it held at first, or the same
    abbrev Reaches : Num → Type 0
    Reaches t = (m.fresh t (held 0) ≡ true) ⊎ (t ≡ held 0)

    -- heard, such a number brings it in step
    caught : (i : ℕ) → i < to → heard i ≡ true → Reaches (base (suc i)) → InStep (suc i)
    caught i h e = by (waits i (omega arith))
      where
        by : InStep i ⊎ (held i ≡ held 0) → Reaches (base (suc i)) → InStep (suc i)
        by (inl s) reach = stays i h s
        by (inr own) (inl new) = accepted i h e (rw own new)
        by (inr own) (inr same) = now i e (course.holds i h ∙ alike (heard i && m.fresh (base (suc i)) (held i)) (base (suc i)) (held i) (own ∙ sym same))

    -- after the first C floods it is in step
    pub settles_down : C (held 0) (base 0) ≤ to → InStep to
    settles_down h =
        let whole = ap is_some (later 0 (C (held 0) (base 0)) (C (held 0) (base 0)) (omega arith) (omega arith)) in
        window (settles.catch_up (held 0) (base 0) course.held_lawful course.base_lawful whole)
      where
        window :
            (j : ℕ) × (j + G ≤ C (held 0) (base 0)) × ((i : ℕ) (t : Num) → j < i → i ≤ j + G → after m i (base 0) ≡ Some t → Reaches t)
            → InStep to
        window law =
            let one = course.hears law.0 (omega arith) in
            let number = later 0 (suc one.0) (suc one.0) (omega arith) (omega arith) in
            let reach = law.2 (suc one.0) (base (suc one.0)) (omega arith) (omega arith) number in
            stays_to (to - suc one.0) (suc one.0) (omega arith) (caught one.0 (omega arith) one.3 reach)
