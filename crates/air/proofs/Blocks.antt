-- Whether one of a list's items passes a test, block by block. Assumes nothing.
use Rattle.std.proofs.Common.{◌≡◌, ℕ, ◌≤◌, Bool, true, false, ◌||◌, List, [], ◌∷◌, ◌++◌, length, take, drop, sym, ap, ◌∙◌, refl, arith}
use Rattle.std.proofs.Math.Seq.{take-add}
use Rattle.std.specs.Prelude.{◌-◌, ◌==◌}
use Rattle.std.specs.List.{list_any}
use Rattle.std.proofs.lemmas.List.{length-drop, take-append-drop, take_all}
use Rattle.std.proofs.lemmas.List.Folds.{list_any-append}
use Rattle.field.specs.declared.Link.{Link}
use Rattle.air.specs.Airs.{drowned}

module _ {A : Type 0} (p : A → Bool) (xs : List A) where
  abbrev among : ℕ → ℕ → List A
  among from to = take (to - from) (drop from xs)

  in_two : (ys : List A) (k : ℕ) → list_any p ys ≡ list_any p (take k ys) || list_any p (drop k ys)
  in_two ys k = ap (list_any p) (sym (take-append-drop k ys)) ∙ list_any-append p (take k ys) (drop k ys)

  -- none of the first, and none of those up to another place
  pub none_up_to : (from to : ℕ) → from ≤ to → list_any p (take from xs) ≡ false → list_any p (among from to) ≡ false → list_any p (take to xs) ≡ false
  none_up_to from to onward none next =
      let parts : take to xs ≡ take from xs ++ among from to = ap (λ (k : ℕ). take k xs) (omega arith) ∙ take-add from (to - from) xs in
      ap (list_any p) parts ∙ list_any-append p (take from xs) (among from to) ∙ rw (none, next) refl

  -- one of those between two places
  pub one_among : (from to : ℕ) → list_any p (among from to) ≡ true → list_any p xs ≡ true
  one_among from to one = in_two xs from ∙ rw (in_two (drop from xs) (to - from), one) (by (list_any p (take from xs)))
    where
      by : (a : Bool) → a || true ≡ true
      by true = refl
      by false = refl

  -- and where none of the first passes, those behind them decide
  pub rest_decides : (from : ℕ) → list_any p (take from xs) ≡ false → list_any p xs ≡ list_any p (among from (length xs))
  rest_decides from none =
      let rest : among from (length xs) ≡ drop from xs = take_all (length xs - from) (drop from xs) (omega (arith, length-drop from xs)) in
      in_two xs from ∙ rw (none, rest) refl

-- where no link can go into the receiver, no other sensor sends into it
pub none_reach :
    (link : Link) (senders : List ℕ) (links : List Link) → list_any (λ other. other.from == 255 || (other.to == link.to || other.label == 255)) links ≡ false
    → drowned link links senders ≡ false
none_reach link senders [] none = refl
none_reach link senders (other ∷ links) none = by (other.from == 255) (other.to == link.to) (other.label == 255) refl refl refl (λ rest. none_reach link senders links rest)
  where
    Rest : Bool
    Rest = list_any (λ (o : Link). o.from == 255 || (o.to == link.to || o.label == 255)) links

    by :
        (a b c : Bool) → other.from == 255 ≡ a → other.to == link.to ≡ b → other.label == 255 ≡ c → (Rest ≡ false → drowned link links senders ≡ false)
        → drowned link (other ∷ links) senders ≡ false
    by true b c ea eb ec later = let f = rw ea at none in absurd cc
    by false true c ea eb ec later = let f = rw (ea, eb) at none in absurd cc
    by false false true ea eb ec later = let f = rw (ea, eb, ec) at none in absurd cc
    by false false false ea eb ec later = rw eb (later (let f = rw (ea, eb, ec) at none in f))
