-- What the limits of a row say of its timer and its mark. Assumes nothing.
use Rattle.std.proofs.Common.{◌≡◌, ℕ, ◌≤◌, true, not, Some, None, Option, subst}
use Rattle.std.proofs.lemmas.Bool.{and_parts, leb-true, eqb-false, ne_eqb, not-true}
use Rattle.std.specs.Prelude.{◌==◌}
use Rattle.field.specs.declared.Row.{Row}
use Rattle.field.specs.declared.Stage.{Stage}
use Rattle.field.specs.Rows.{mark_keeps}
use Rattle.history.specs.Worlds.{Field}
use Rattle.history.proofs.RowLimits.{Keeps}
use Rattle.numbering.specs.Meaning.{Lawful}

marks : (hmax sensor : ℕ) (mark : Option ℕ) → mark_keeps hmax sensor mark ≡ true → (hop : ℕ) → mark ≡ Some hop → (sensor ≡ 0 → ⊥) × (hop ≤ hmax)
marks hmax sensor None e hop f = absurd cc
marks hmax sensor (Some h) e hop f =
    let parts = and_parts (not (sensor == 0)) _ e in
    let same : h ≡ hop = cc in
    (eqb-false sensor 0 (not-true _ parts.0), subst (λ (x : ℕ). x ≤ hmax) same (leb-true h hmax parts.1))

module _ {Num : Type 0} (field : Field Num) where
  -- a sensor's row, at any stage
  pub record RowKept (sensor : ℕ) (row : Row Num) : Type 0 where
    pub timer_least : 1 ≤ row.timer
    pub timer_most : (sensor ≡ 0 → ⊥) → row.timer ≤ field.settings.tmax
    pub marked : (hop : ℕ) → row.mark ≡ Some hop → (sensor ≡ 0 → ⊥) × (hop ≤ field.settings.hmax)
    pub lawful : Lawful field.numbering row.held

  pub row_kept : (stage : Stage) (sensor : ℕ) (row : Row Num) → Keeps field stage sensor row → RowKept sensor row
  row_kept stage sensor row keeps = record {
    timer_least = keeps.least;
    timer_most = λ other. (let most = keeps.most in rw (ne_eqb sensor 0 other) at most);
    marked = marks field.settings.hmax sensor row.mark keeps.mark;
    lawful = keeps.held;
  }
