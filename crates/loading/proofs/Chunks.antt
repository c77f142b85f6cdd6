-- The bytes of a record, one by one, and numbers cut into bytes again. Assumes nothing.
use Rattle.std.proofs.Common.{◌≡◌, ℕ, zero, suc, ◌+◌, ◌*◌, ◌/◌, ◌%◌, ◌<◌, ◌≤◌, Bool, true, false, cond, eqb, List, [], ◌∷◌, length, get_or, take, drop, Some, None, sym, refl, ap, ◌∙◌, add-zero, arith, eqb-true}
use Rattle.std.proofs.lemmas.List.{drop_more}
use Rattle.records.specs.Records.{byte, two_bytes, four_bytes, is_kind}
use Rattle.checking.specs.Cases.{mark_at, link_at, not_zero}
use Rattle.reading.specs.Items.{loss_at}
use Rattle.records.specs.declared.Kind.{Kind}
use Rattle.records.specs.declared.Kind.TheVariants.{Sensor, Link, Loss, Play}
use Rattle.records.specs.Kinds.{letter}
use Rattle.field.specs.declared.Settings.{Settings}
use Rattle.field.specs.Making.{HasSettings}
use Rattle.loading.specs.Kept.{Bytes}
use Rattle.recording.specs.Records.{with_two, with_four, mark_byte, head_record, sensor_record, link_record, loss_record, middle_record, play_record}
use Rattle.loading.proofs.Cuts.{MiddleZeroed, kind_is, sensor_zeroed, link_zeroed, loss_zeroed, play_zeroed}

-- n bytes from place d + i on
abbrev pub bytes_at : ℕ → ℕ → ℕ → List ℕ → List ℕ
bytes_at zero d i xs = []
bytes_at (suc n) d i xs = get_or xs (d + i) 0 ∷ bytes_at n d (suc i) xs

taken : (n d i : ℕ) (xs : List ℕ) → d + i + n ≤ length xs → take n (drop (d + i) xs) ≡ bytes_at n d i xs
taken zero d i xs h = refl
taken (suc n) d i xs h =
    let next : d + i + 1 ≡ d + suc i = omega arith in
    let more : d + suc i + n ≤ length xs = omega arith in
    ap (take (suc n)) (drop_more xs (d + i) 0 (omega arith)) ∙ ap (λ (ys : List ℕ). get_or xs (d + i) 0 ∷ ys) (ap (λ (k : ℕ). take n (drop k xs)) next ∙ taken n d (suc i) xs more)

-- record k is its 12 bytes
abbrev pub chunk : ℕ → List ℕ → List ℕ
chunk k file = take 12 (drop (12 * k) file)

pub chunk_bytes : (k : ℕ) (file : List ℕ) → 12 * k + 12 ≤ length file → chunk k file ≡ bytes_at 12 (12 * k) 0 file
chunk_bytes k file h =
    let here : 12 * k + 0 + 12 ≤ length file = omega arith in
    ap (λ (d : ℕ). take 12 (drop d file)) (sym (add-zero (12 * k))) ∙ taken 12 (12 * k) 0 file here

two_back : (a b : ℕ) (rest : List ℕ) → b < 256 → with_two (256 * a + b) rest ≡ a ∷ b ∷ rest
two_back a b rest h =
    let high : (256 * a + b) / 256 ≡ a = omega arith in
    let low : (256 * a + b) % 256 ≡ b = omega arith in
    rw (high, low)

four_back : (a b c d : ℕ) (rest : List ℕ) → b < 256 → c < 256 → d < 256 → with_four (65536 * (256 * a + b) + (256 * c + d)) rest ≡ a ∷ b ∷ c ∷ d ∷ rest
four_back a b c d rest hb hc hd =
    let high : (65536 * (256 * a + b) + (256 * c + d)) / 65536 ≡ 256 * a + b = omega arith in
    let low : (65536 * (256 * a + b) + (256 * c + d)) % 65536 ≡ 256 * c + d = omega arith in
    rw (high, low) (rw (two_back c d rest hd) (two_back a b (c ∷ d ∷ rest) hb))

mark_back : (b : ℕ) → mark_byte (cond (eqb b 255) None (Some b)) ≡ b
mark_back b = by (eqb b 255) refl
  where
    by : (t : Bool) → eqb b 255 ≡ t → mark_byte (cond t None (Some b)) ≡ b
    by true e = sym (eqb-true b 255 e)
    by false e = refl

module _ (file : List ℕ) (k : ℕ) (fits : Bytes file) (there : 12 * k + 12 ≤ length file) where
  abbrev b : ℕ → ℕ
  b at = byte file k at

  small : (at : ℕ) → b at < 256
  small at = fits (12 * k + at)

  chunked : bytes_at 12 (12 * k) 0 file ≡ chunk k file
  chunked = sym (chunk_bytes k file there)

  pub head_back : (s : Settings) → HasSettings (b 2) (b 3) (b 4) (two_bytes file k 6) (four_bytes file k 8) s → b 0 ≡ 70 → head_record (b 1) (b 5) s ≡ chunk k file
  head_back s has kind =
      let seed = four_back (b 8) (b 9) (b 10) (b 11) [] (small 9) (small 10) (small 11) in
      let period = two_back (b 6) (b 7) (b 8 ∷ b 9 ∷ b 10 ∷ b 11 ∷ []) (small 7) in
      rw (has.n_is, has.hmax_is, has.tmax_is, has.f_is, has.seed_is) (rw seed (rw period (rw kind at chunked)))

  -- the records of the other kinds, by the bytes that must be zero in them
  module _ (right : not_zero file k ≡ false) where
    pub sensor_back : is_kind file k Sensor ≡ true → sensor_record (b 1) (mark_at file k) (two_bytes file k 4) (four_bytes file k 8) ≡ chunk k file
    sensor_back is =
        let zeros = sensor_zeroed file k right is in
        let number = four_back (b 8) (b 9) (b 10) (b 11) [] (small 9) (small 10) (small 11) in
        let timer = two_back (b 4) (b 5) (0 ∷ 0 ∷ b 8 ∷ b 9 ∷ b 10 ∷ b 11 ∷ []) (small 5) in
        rw (mark_back (b 2)) (rw number (rw timer (rw (kind_is file k Sensor is, zeros.0, zeros.1, zeros.2) at chunked)))

    pub link_back : is_kind file k Link ≡ true → link_record (link_at file k) ≡ chunk k file
    link_back is =
        let zeros = link_zeroed file k right is in
        let tail = zeros.4 in
        rw (kind_is file k Link is, zeros.0, zeros.1, zeros.2, zeros.3, tail.eight, tail.nine, tail.ten, tail.eleven) at chunked

    middle_back : (kind : Kind) → is_kind file k kind ≡ true → MiddleZeroed file k → middle_record (letter kind) (b 1) (b 2) (four_bytes file k 4) ≡ chunk k file
    middle_back kind is zeros =
        let tail = zeros.tail in
        let number = four_back (b 4) (b 5) (b 6) (b 7) (0 ∷ 0 ∷ 0 ∷ 0 ∷ []) (small 5) (small 6) (small 7) in
        rw number (rw (kind_is file k kind is, zeros.three, tail.eight, tail.nine, tail.ten, tail.eleven) at chunked)

    pub loss_back : is_kind file k Loss ≡ true → loss_record (loss_at file k) ≡ chunk k file
    loss_back is = middle_back Loss is (loss_zeroed file k right is)

    pub play_back : is_kind file k Play ≡ true → play_record (four_bytes file k 4) ≡ chunk k file
    play_back is =
        let zeros = play_zeroed file k right is in
        let same = middle_back Play is zeros.2 in
        rw (zeros.0, zeros.1) at same
