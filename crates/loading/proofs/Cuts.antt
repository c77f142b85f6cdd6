-- What a file that passes has in each of its records. Assumes nothing.
use Rattle.std.proofs.Common.{◌≡◌, ℕ, ◌-◌, ◌*◌, ◌%◌, ◌<◌, ◌≤◌, Bool, true, false, cond, not, ◌&&◌, eqb, ltb, leb, List, length, arith, ne_eqb, eqb-true, le-leb, leb-false}
use Rattle.records.specs.declared.Kind.{Kind}
use Rattle.records.specs.declared.Kind.TheVariants.{Field, Sensor, Link, Loss, Play}
use Rattle.records.specs.Records.{records, byte, four_bytes, is_kind}
use Rattle.records.specs.Kinds.{letter}
use Rattle.filed.specs.Codes.{lawful_value}
use Rattle.checking.specs.Cases.{clock_at, number_at, file_n, file_code, file_smax, zero_tail, not_zero, misplaced}
use Rattle.checking.proofs.Passes.{Passed}
use Rattle.std.proofs.lemmas.Bool.Decides.{nat_tests}
use Rattle.std.proofs.lemmas.Bool.{and_parts, lt-leb, not-false, or_parts}

last_part : (a b c : Bool) → (a && not (b && c)) ≡ false → a ≡ true → c ≡ true
last_part a b c e h = grind (arith, nat_tests)

module _ (file : List ℕ) (k : ℕ) where
  abbrev Is : Kind → Type 0
  Is kind = is_kind file k kind ≡ true

  pub kind_is : (kind : Kind) → Is kind → byte file k 0 ≡ letter kind
  kind_is kind e = eqb-true (byte file k 0) (letter kind) e

  pub record ZeroTail : Type 0 where
    pub eight : byte file k 8 ≡ 0
    pub nine : byte file k 9 ≡ 0
    pub ten : byte file k 10 ≡ 0
    pub eleven : byte file k 11 ≡ 0

  tail_zeroed : zero_tail file k ≡ true → ZeroTail
  tail_zeroed all = record { eight = grind (arith, nat_tests); nine = grind (arith, nat_tests); ten = grind (arith, nat_tests); eleven = grind (arith, nat_tests) }

  -- a number in the middle, with zeros around it
  pub record MiddleZeroed : Type 0 where
    pub three : byte file k 3 ≡ 0
    pub tail : ZeroTail

  -- where the bytes are zero that must be, by the record's kind
  module _ (right : not_zero file k ≡ false) where
    pub sensor_zeroed : Is Sensor → (byte file k 3 ≡ 0) × (byte file k 6 ≡ 0) × (byte file k 7 ≡ 0)
    sensor_zeroed is = (grind (arith, nat_tests), grind (arith, nat_tests), grind (arith, nat_tests))

    pub link_zeroed : Is Link → (byte file k 4 ≡ 0) × (byte file k 5 ≡ 0) × (byte file k 6 ≡ 0) × (byte file k 7 ≡ 0) × ZeroTail
    link_zeroed is = (grind (arith, nat_tests), grind (arith, nat_tests), grind (arith, nat_tests), grind (arith, nat_tests), tail_zeroed (grind (arith, nat_tests)))

    pub loss_zeroed : Is Loss → MiddleZeroed
    loss_zeroed is = record { three = grind (arith, nat_tests); tail = tail_zeroed (grind (arith, nat_tests)) }

    pub play_zeroed : Is Play → (byte file k 1 ≡ 0) × (byte file k 2 ≡ 0) × MiddleZeroed
    play_zeroed is = (grind (arith, nat_tests), grind (arith, nat_tests), record { three = grind (arith, nat_tests); tail = tail_zeroed (grind (arith, nat_tests)) })

module _ (file : List ℕ) (ok : Passed file) where
  pub whole : length file ≡ 12 * records file
  whole =
      let even = eqb-true (length file % 12) 0 (not-false _ ((or_parts (ltb 48000 (length file)) _ ok.length_right).1)) in
      omega arith

  pub rows_there : file_n file < records file
  rows_there =
      let none : leb (records file) (records file) ≡ true = le-leb (records file) (records file) (omega arith) in
      let all = ok.ordered (records file) (omega arith) in
      leb-false (records file) (file_n file) (rw none at all)

  pub head_is : byte file 0 0 ≡ 70
  head_is =
      let rows = rows_there in
      let here : leb (records file) 0 ≡ false = lt-leb (records file) 0 (omega arith) in
      let all = ok.ordered 0 (omega arith) in
      eqb-true (byte file 0 0) 70 (not-false (is_kind file 0 Field) (rw here at all))

  -- records past the first are rows up to n, in their order, and then stand where they may
  past_head : (k : ℕ) → 1 ≤ k → k < records file → cond (leb k (file_n file)) (not (is_kind file k Sensor && eqb (byte file k 1) (k - 1))) (misplaced file k) ≡ false
  past_head k low high =
      let here : leb (records file) k ≡ false = lt-leb (records file) k high in
      let later : eqb k 0 ≡ false = ne_eqb k 0 (λ e. omega arith) in
      let all = ok.ordered k (omega arith) in
      rw (here, later) at all

  pub row_is : (k : ℕ) → 1 ≤ k → k ≤ file_n file → (is_kind file k Sensor ≡ true) × (byte file k 1 ≡ k - 1)
  row_is k low high =
      let rows = rows_there in
      let row : leb k (file_n file) ≡ true = le-leb k (file_n file) high in
      let both = and_parts (is_kind file k Sensor) (eqb (byte file k 1) (k - 1)) (not-false _ (rw row at (past_head k low (omega arith)))) in
      (both.0, eqb-true (byte file k 1) (k - 1) both.1)

  pub placed : (k : ℕ) → file_n file < k → k < records file → misplaced file k ≡ false
  placed k low high =
      let past : leb k (file_n file) ≡ false = lt-leb k (file_n file) low in
      rw past at (past_head k (omega arith) high)

  -- a sensor's number, a row's or a damage's, is the value of a lawful one
  pub number_lawful : (k : ℕ) → k < records file → is_kind file k Sensor ≡ true → lawful_value (file_code file) (file_smax file) (four_bytes file k 8) ≡ true
  number_lawful k h is = last_part (is_kind file k Sensor) (clock_at file k) (number_at file k) (ok.rows_keep k h) is
