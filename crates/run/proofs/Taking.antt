-- The next copy is the one over the link at its place. Assumes nothing.
use Rattle.std.proofs.Common.{◌≡◌, ℕ, ◌+◌, Some, None, Ok, Option, add-one, refl, sym, ap}
use Rattle.flood.specs.Copies.{next_copy}
use Rattle.history.specs.Calls.{AfterCopy, copy_over, copy_taken, next_taken}
use Rattle.history.specs.Worlds.{Lent, World, told_links}
use Rattle.history.specs.declared.TakenCopy.{TakenCopy}
use Rattle.run.specs.Answers.{Answered, answered, onward, taken_on}

module _ {Num : Type 0} (lent : Lent Num) (world : World Num) where
  abbrev at : ℕ → World Num
  at position = record world { position = Some position }

  -- the copy over a link is the same from wherever the links are gone over
  over_at : (place : ℕ) (o : Option ℕ) → copy_over lent (record world { position = o }) place ≡ copy_over lent world place
  unfolding copy_taken
  over_at place o = refl

  next_over : (position place : ℕ) → next_copy world.rows (told_links lent.field) position ≡ Some place → next_taken lent (at position) ≡ copy_over lent (at position) place
  unfolding next_taken
  next_over position place e = rw (e, next_taken) refl

  next_none : (position : ℕ) → next_copy world.rows (told_links lent.field) position ≡ None → next_taken lent (at position) ≡ None
  unfolding next_taken
  next_none position e = rw (e, next_taken) refl

  -- where a run stands behind a place, where a copy went over it, and else as before
  abbrev pub onward_or : ℕ → ℕ → Option (TakenCopy Num) → ℕ
  onward_or position place None = position
  onward_or position place (Some copy) = place + 1

  -- so taking the next copy is taking the one over its link
  pub taken_over :
      (position place : ℕ) → Some place ≡ next_copy world.rows (told_links lent.field) position
      → (r : Option (TakenCopy Num)) (after : World Num)
      → answered (Ok r) (record after { position = Some (onward place r) }) ≡ taken_on (at place) (Ok (copy_over lent (at place) place))
      → answered (Ok r) (record after { position = Some (onward_or position place r) }) ≡ taken_on (at position) (Ok (next_taken lent (at position)))
  taken_over position place next r after e = rw (next_over position place (sym next)) (by (copy_over lent world place) r (over_at place (Some position)) (over_at place (Some place)) e)
    where
      by :
          (o : Option (AfterCopy Num)) (r : Option (TakenCopy Num)) → copy_over lent (at position) place ≡ o → copy_over lent (at place) place ≡ o
          → answered (Ok r) (record after { position = Some (onward place r) }) ≡ taken_on (at place) (Ok (copy_over lent (at place) place))
          → answered (Ok r) (record after { position = Some (onward_or position place r) }) ≡ taken_on (at position) (Ok (copy_over lent (at position) place))
      by None None here there e =
          let same = rw there at e in
          rw here (ap (λ (a : Answered Num (Option (TakenCopy Num))). answered (Ok None) (record a.world { position = Some position })) same)
      by (Some next) (Some copy) here there e = rw (here, add-one) (rw there at e)
      by None (Some copy) here there e = let f = rw there at e in let g = ap (λ (a : Answered Num (Option (TakenCopy Num))). a.answer) f in absurd cc
      by (Some next) None here there e = let f = rw there at e in let g = ap (λ (a : Answered Num (Option (TakenCopy Num))). a.answer) f in absurd cc
