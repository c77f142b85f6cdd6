-- Buffers that are as long as what fills them. Assumes nothing.
use Rattle.std.proofs.Common.{◌≡◌, ℕ, true, List, ◌++◌, length, take, drop, Ok, Result, replicate, sym, refl, ap, ◌∙◌, arith}
use Rattle.std.proofs.Math.Seq.{take-append_seam}
use Rattle.std.proofs.lemmas.Bool.{and_from, le-leb}
use Rattle.std.proofs.lemmas.List.{length-replicate}
use Rattle.std.specs.Prelude.{◌≤◌}
use Rattle.loading.specs.Loads.{if_filled, lent, roomy, within}
use Rattle.loading.specs.declared.counts.Counts.{Counts}
use Rattle.refusal.specs.declared.RunFault.{RunFault}

-- buffers of these lengths have room for as many
module _ {A B C D : Type 0} (counts : Counts) (rows : List A) (links : List B) (losses : List C) (acts : List D) (row : A) (link : B) (loss : C) (act : D)
    (rows_are : rows ≡ replicate counts.rows row) (links_are : links ≡ replicate counts.links link) (losses_are : losses ≡ replicate counts.losses loss) (acts_are : acts ≡ replicate counts.acts act) where
  long : {E : Type 0} (n : ℕ) (xs : List E) (x : E) → xs ≡ replicate n x → n ≤ length xs
  long n xs x is = omega (arith, ap length is, length-replicate n x)

  fits : within counts (lent rows links losses acts) ≡ true
  fits =
      and_from _ _
      (and_from _ _ (le-leb counts.rows (length rows) (long counts.rows rows row rows_are)) (le-leb counts.links (length links) (long counts.links links link links_are)))
      (and_from _ _ (le-leb counts.losses (length losses) (long counts.losses losses loss losses_are)) (le-leb counts.acts (length acts) (long counts.acts acts act acts_are)))

  pub has_room : roomy counts (lent rows links losses acts) ≡ Ok counts
  has_room = rw fits refl

-- a vector whose buffer was filled is what it was filled with
pub vector_filled :
    {A : Type 0} (result : Result Counts RunFault) (counts : Counts) → result ≡ Ok counts → (fill : List A → List A) (new old items blanks : List A) (len : ℕ)
    → new ≡ if_filled result (fill old) old → length new ≡ length old → old ≡ items → items ≡ blanks → length items ≡ len
    → take len (new ++ drop (length new) items) ≡ fill blanks
vector_filled result counts granted fill new old items blanks len is long same blank count =
    let filled : new ≡ fill old = is ∙ ap (λ (r : Result Counts RunFault). if_filled r (fill old) old) granted in
    ap (λ (k : ℕ). take k (new ++ drop (length new) items)) (let e : len ≡ length new = sym (long ∙ ap length same ∙ count) in e)
    ∙ take-append_seam new (drop (length new) items) ∙ filled ∙ ap fill (same ∙ blank)
