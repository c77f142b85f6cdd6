-- Past the losses of a file that passes, each record is a play or a damage. Assumes nothing.
use Rattle.std.proofs.Common.{◌≡◌, ℕ, zero, suc, ◌+◌, ◌-◌, ◌<◌, ◌≤◌, Bool, true, false, not, ◌&&◌, ◌||◌, eqb, leb, List, sym, refl, ap, ◌∙◌, arith, ne_eqb, leb-false, leb-true}
use Rattle.std.proofs.lemmas.Bool.{or_parts}
use Rattle.std.proofs.lemmas.Bool.Decides.{nat_tests}
use Rattle.records.specs.declared.Kind.{Kind}
use Rattle.records.specs.declared.Kind.TheVariants.{Field, Sensor, Link, Loss, Play}
use Rattle.records.specs.Records.{records, is_kind}
use Rattle.sections.specs.Parts.{past_rows, past_links, act_records}
use Rattle.checking.proofs.Passes.{Passed}
use Rattle.loading.specs.Kept.{Bytes}
use Rattle.loading.proofs.Cuts.{placed}
use Rattle.loading.proofs.Parted.{n, L, X, A, leading_is, after_rows, after_links, act_section, counted, kind_same}

-- what does not hold at a place, nor behind a place where it does not, holds nowhere from there on
none_from : (holds : ℕ → Bool) (start end : ℕ) → (start < end → holds start ≡ false) → ((k : ℕ) → start ≤ k → suc k < end → holds k ≡ false → holds (suc k) ≡ false) → (k : ℕ) → start ≤ k → k < end → holds k ≡ false
none_from holds start end first next zero low h = let here : zero ≡ start = omega arith in ap holds here ∙ first (omega arith)
none_from holds start end first next (suc k) low h = by (leb start k) refl (λ there. none_from holds start end first next k there (omega arith))
  where
    by : (b : Bool) → leb start k ≡ b → (start ≤ k → holds k ≡ false) → holds (suc k) ≡ false
    by true e before = let there = leb-true start k e in next k there h (before there)
    by false e before = let past = leb-false start k e in let here : suc k ≡ start = omega arith in ap holds here ∙ first (omega arith)

-- behind what is no link there is no link, and no loss unless behind a loss
behind : (field link loss link_before loss_before : Bool) → (field || ((link && not link_before) || (loss && not (link_before || loss_before)))) ≡ false → link_before ≡ false → (link ≡ false) × (loss_before ≡ false → loss ≡ false)
behind field link loss link_before loss_before e none = (grind (arith, nat_tests), λ h. grind (arith, nat_tests))

-- the last of five kinds
left : (field sensor link loss play : Bool) → (not field && (not sensor && (not link && (not loss && not play)))) ≡ false → field ≡ false → link ≡ false → loss ≡ false → play ≡ false → sensor ≡ true
left field sensor link loss play e no_field no_link no_loss no_play = grind (arith, nat_tests)

module _ (file : List ℕ) (ok : Passed file) (fits : Bytes file) where
  abbrev is : Kind → ℕ → Bool
  is kind k = is_kind file k kind

  abbrev acts_start : ℕ
  acts_start = 1 + n file + L file + X file

  follows : (k : ℕ) → n file < k → suc k < records file → is Link k ≡ false → (is Link (suc k) ≡ false) × (is Loss k ≡ false → is Loss (suc k) ≡ false)
  follows k low high =
      let later : eqb (suc k) (n file + 1) ≡ false = ne_eqb (suc k) (n file + 1) (λ e. omega arith) in
      let before : suc k - 1 ≡ k = omega arith in
      let here = placed file ok (suc k) (omega arith) high in
      behind (is Field (suc k)) (is Link (suc k)) (is Loss (suc k)) (is Link k) (is Loss k) (rw (later, before) at here)

  -- past the links there is none, and past the losses no loss
  pub no_link : (k : ℕ) → 1 + n file + L file ≤ k → k < records file → is Link k ≡ false
  no_link = none_from (is Link) (1 + n file + L file) (records file) first (λ k low high e. (follows k (omega arith) high e).0)
    where
      first : 1 + n file + L file < records file → is Link (1 + n file + L file) ≡ false
      first h =
          let s = after_rows file ok fits in
          let many = counted file s in
          sym (kind_same file s (L file) (omega arith) Link) ∙ (leading_is (past_rows file) Link).ends (omega arith)

  no_loss : (k : ℕ) → acts_start ≤ k → k < records file → is Loss k ≡ false
  no_loss = none_from (is Loss) acts_start (records file) first (λ k low high e. (follows k (omega arith) high (no_link k (omega arith) (omega arith))).1 e)
    where
      first : acts_start < records file → is Loss acts_start ≡ false
      first h =
          let s = after_links file ok fits in
          let many = counted file s in
          sym (kind_same file s (X file) (omega arith) Loss) ∙ (leading_is (past_links file) Loss).ends (omega arith)

  -- so what is no play there is a sensor's
  pub damage_is : (i : ℕ) → i < A file → is_kind (act_records file) i Play ≡ false → is_kind (act_records file) i Sensor ≡ true
  damage_is i h play =
      let s = act_section file ok fits in
      let k = acts_start + i in
      let no_field = (or_parts (is Field k) _ (placed file ok k (omega arith) (omega arith))).0 in
      let no_play = sym (kind_same file s i h Play) ∙ play in
      kind_same file s i h Sensor ∙ left (is Field k) (is Sensor k) (is Link k) (is Loss k) (is Play k) (ok.known k (omega arith)) no_field (no_link k (omega arith) (omega arith)) (no_loss k (omega arith) (omega arith)) no_play
