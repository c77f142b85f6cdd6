-- Circular and differentiated settle: both count steps round the ring. Assumes nothing.
use Rattle.std.specs.Prelude.{◌≡◌, ℕ, zero, suc, ◌+◌, ◌-◌, ◌%◌, ◌<◌, ◌≤◌, Bool, true, false, not, ◌&&◌, ◌⊎◌, Some, nat_le, refl}
use Rattle.std.proofs.lemmas.Bool.Decides.{nat_tests}
use Rattle.std.proofs.Common.{sym, ap, subst, ◌∙◌, inl, inr, mod-eq_of_lt, arith, leb-true, leb-false, eq-eqb, ne_eqb}
use Rattle.std.proofs.Math.Nat.{mod-add-mod, add-mod_right}
use Rattle.numbering.specs.Four.{ring, distance, half, circular, circular_fresh, circular_catch_up, differs, differentiated}
use Rattle.numbering.specs.Meaning.{after, Settles}
use Rattle.numbering.specs.After.{after_at}

-- the number k steps ahead of s
abbrev ahead : ℕ → ℕ → ℕ → ℕ
ahead smax s k = (s + k) % (smax + 1)

module _ (smax : ℕ) where
  at_itself : (s : ℕ) → s ≤ smax → s ≡ ahead smax s 0
  at_itself s l =
      let h : s + 0 < smax + 1 = omega arith in
      sym (mod-eq_of_lt h ∙ omega arith)

  ring_after : (fresh : ℕ → ℕ → Bool) (s i t : ℕ) → s ≤ smax → after (ring smax fresh) i s ≡ Some t → t ≡ ahead smax s i
  ring_after fresh s i t l =
      after_at (ring smax fresh) s (ahead smax s) (at_itself s l)
      (λ k u e. let step : (ahead smax s k + 1) % (smax + 1) ≡ u = cc in
      sym step ∙ mod-add-mod (s + k) (smax + 1) 1 ∙ ap (λ (n : ℕ). n % (smax + 1)) (omega arith)) i t

  distance_ahead : (s k : ℕ) → s ≤ smax → k ≤ smax → distance smax (ahead smax s k) s ≡ k
  distance_ahead s k l h =
      let own : s % (smax + 1) ≡ s = mod-eq_of_lt (omega arith) in
      let short : k < smax + 1 = omega arith in
      let whole : s + k + (smax + 1 - s % (smax + 1)) ≡ k + (smax + 1) = omega (arith, own) in
      mod-add-mod (s + k) (smax + 1) (smax + 1 - s % (smax + 1)) ∙ ap (λ (n : ℕ). n % (smax + 1)) whole ∙ add-mod_right k (smax + 1) ∙ mod-eq_of_lt short

  distance_itself : (s : ℕ) → s ≤ smax → distance smax s s ≡ 0
  distance_itself s l = subst (λ (t : ℕ). distance smax t s ≡ 0) (sym (at_itself s l)) (distance_ahead s 0 l (omega arith))

  -- from b, some d steps on, one goes as from x
  meets : (x b : ℕ) → x ≤ smax → b ≤ smax → (d : ℕ) × (d ≤ smax) × ((i : ℕ) → d ≤ i → ahead smax b i ≡ ahead smax x (i - d))
  meets x b lx lb = by (nat_le b x) refl
    where
      by : (c : Bool) → nat_le b x ≡ c → (d : ℕ) × (d ≤ smax) × ((i : ℕ) → d ≤ i → ahead smax b i ≡ ahead smax x (i - d))
      by true e =
          let h = leb-true b x e in
          (x - b, omega arith, λ i l. ap (λ (n : ℕ). n % (smax + 1)) (omega arith))
      by false e =
          let h = leb-false b x e in (
            x + (smax + 1) - b,
            omega arith,
            λ i l.
                let lap : b + i ≡ x + (i - (x + (smax + 1) - b)) + (smax + 1) = omega arith in
                ap (λ (n : ℕ). n % (smax + 1)) lap ∙ add-mod_right (x + (i - (x + (smax + 1) - b))) (smax + 1),
          )

  circular_ahead : (s k : ℕ) → s ≤ smax → 1 ≤ k → k ≤ half smax → circular_fresh smax (ahead smax s k) s ≡ true
  circular_ahead s k l low high =
      let d = distance_ahead s k l (omega arith) in grind (arith, nat_tests)

  circular_near : (x k : ℕ) → x ≤ smax → k ≤ half smax → (circular_fresh smax (ahead smax x k) x ≡ true) ⊎ (ahead smax x k ≡ x)
  circular_near x zero l h = inr (sym (at_itself x l))
  circular_near x (suc k) l h = inl (circular_ahead x (suc k) l (omega arith) h)

pub circular_settles : (smax : ℕ) → 2 ≤ smax → Settles (circular smax) (half smax) (λ x b. circular_catch_up smax)
circular_settles smax least = record {
  itself = λ s l. ap (λ (d : ℕ). nat_le 1 d && nat_le d (half smax)) (distance_itself smax s (leb-true s smax l));
  least = omega arith;
  patience = λ s t i l low high e.
      let on = leb-true s smax l in
      subst (λ (u : ℕ). circular_fresh smax u s ≡ true) (sym (ring_after smax (circular_fresh smax) s i t on e)) (circular_ahead smax s i on low high);
  enough = λ x b lx lb. omega arith;
  catch_up = λ x b lx lb there.
      let on = leb-true x smax lx in
      let from = leb-true b smax lb in
      let met = meets smax x b on from in (
        met.0 - 1,
        omega (arith, met.1),
        λ i t low high e.
            let here : t ≡ ahead smax x (i - met.0) = ring_after smax (circular_fresh smax) b i t from e ∙ met.2 i (omega arith) in
            subst (λ (u : ℕ). (circular_fresh smax u x ≡ true) ⊎ (u ≡ x)) (sym here) (circular_near smax x (i - met.0) on (omega arith)),
      );
}

-- a number differs, or is the same
differs_or_same : (t x : ℕ) → (differs t x ≡ true) ⊎ (t ≡ x)
differs_or_same t x = grind (arith, nat_tests)

pub differentiated_settles : (smax : ℕ) → 2 ≤ smax → Settles (differentiated smax) smax (λ x b. smax)
differentiated_settles smax least = record {
  itself = λ s l. ap not (eq-eqb s s refl);
  least = omega arith;
  patience = λ s t i l low high e.
      let on = leb-true s smax l in
      let steps : distance smax t s ≡ i = ap (λ (u : ℕ). distance smax u s) (ring_after smax differs s i t on e) ∙ distance_ahead smax s i on high in
      ap not (ne_eqb t s (λ same. let none : i ≡ 0 = sym steps ∙ ap (λ (u : ℕ). distance smax u s) same ∙ distance_itself smax s on in omega arith));
  enough = λ x b lx lb. omega arith;
  catch_up = λ x b lx lb there. (0, omega arith, λ i t low high e. differs_or_same t x);
}
