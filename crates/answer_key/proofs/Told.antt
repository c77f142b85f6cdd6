-- The lines of copies, one more. Assumes nothing.
use Rattle.std.proofs.Common.{◌≡◌, ℕ, zero, suc, ◌<◌, List, [], ◌∷◌, ◌++◌, length, get_or, take, append_assoc, append-nil, sym, refl, ◌∙◌, arith}
use Rattle.history.specs.declared.taking.TakenCopy.{TakenCopy}
use Rattle.answer_key.specs.Lines.{copy_line, copy_lines}

pub lines_more : {Num : Type 0} (worth : Num → ℕ) (i : ℕ) (copies : List (TakenCopy Num)) (copy d : TakenCopy Num) → i < length copies → copy ≡ get_or copies i d → copy_lines worth (take (suc i) copies) ≡ copy_lines worth (take i copies) ++ copy_line worth copy
unfolding copy_lines
lines_more worth i [] copy d h e = absurd (omega arith)
lines_more worth zero (first ∷ copies) copy d h e = append-nil (copy_line worth first) ∙ rw e refl
lines_more worth (suc i) (first ∷ copies) copy d h e = rw (lines_more worth i copies copy d (omega arith) e) (sym (append_assoc (copy_line worth first) _ _))
