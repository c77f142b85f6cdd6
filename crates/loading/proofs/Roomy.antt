-- What is known where buffers are long enough. Assumes nothing.
use Rattle.std.proofs.Common.{◌≡◌, ◌≤◌, Bool, true, false, cond, ◌&&◌, leb, is_ok, Ok, Err, Result, refl, leb-true}
use Rattle.refusal.specs.declared.RunFault.{RunFault}
use Rattle.checking.proofs.Passes.{false_true}
use Rattle.loading.specs.declared.counts.Counts.{Counts}
use Rattle.loading.specs.Loads.{within, roomy}
use Rattle.std.proofs.lemmas.Bool.{and_parts}

cond_ok : (b : Bool) (counts : Counts) (fault : RunFault) → is_ok {T = Counts} (cond {A = Result Counts RunFault} b (Ok counts) (Err fault)) ≡ true → b ≡ true
cond_ok true counts fault e = refl
cond_ok false counts fault e = false_true e

module _ (counts room : Counts) where
  pub record Roomy : Type 0 where
    pub rows : counts.rows ≤ room.rows
    pub links : counts.links ≤ room.links
    pub losses : counts.losses ≤ room.losses
    pub acts : counts.acts ≤ room.acts

  pub is_roomy : is_ok (roomy counts room) ≡ true → Roomy
  is_roomy e =
      let fit = cond_ok (within counts room) counts _ e in
      let halves = and_parts (leb counts.rows room.rows && leb counts.links room.links) _ fit in
      let first = and_parts (leb counts.rows room.rows) _ halves.0 in
      let second = and_parts (leb counts.losses room.losses) _ halves.1 in
      record {
        rows = leb-true counts.rows room.rows first.0;
        links = leb-true counts.links room.links first.1;
        losses = leb-true counts.losses room.losses second.0;
        acts = leb-true counts.acts room.acts second.1;
      }

-- what is answered where there is room
pub fit_same : (counts room answered : Counts) → Ok answered ≡ roomy counts room → answered ≡ counts
fit_same counts room answered e = by (within counts room) refl
  where
    by : (b : Bool) → within counts room ≡ b → answered ≡ counts
    by true w = (let f = rw w at e in cc)
    by false w = (let f = rw w at e in absurd cc)
