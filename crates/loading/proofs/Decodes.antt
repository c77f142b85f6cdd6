-- What is read in a record that was written. Assumes nothing.
use Rattle.std.proofs.Common.{◌≡◌, ℕ, ◌+◌, ◌/◌, ◌%◌, ◌≤◌, true, cond, not, eqb, leb, List, Some, None, Option, sym, refl, arith, ne_eqb, leb-true}
use Rattle.std.proofs.lemmas.Bool.{and_parts, cond-false}
use Rattle.records.specs.Records.{byte, two_bytes, four_bytes}
use Rattle.checking.specs.Cases.{mark_at, link_at}
use Rattle.reading.specs.Items.{loss_at}
use Rattle.field.specs.declared.Link.{Link}
use Rattle.field.specs.declared.Loss.{Loss}
use Rattle.field.specs.declared.Settings.{Settings}
use Rattle.field.specs.Making.{HasSettings}
use Rattle.field.specs.Rows.{clock_keeps, longest, mark_keeps}
use Rattle.field.specs.SettingLimits.{within}
use Rattle.recording.specs.Records.{mark_byte, head_record, sensor_record, link_record, middle_record, loss_record, play_record}
use Rattle.loading.proofs.Joins.{Stands}

-- a mark up to 15 is no 255
mark_read : (hmax sensor : ℕ) (mark : Option ℕ) → hmax ≤ 15 → mark_keeps hmax sensor mark ≡ true → cond (eqb (mark_byte mark) 255) None (Some (mark_byte mark)) ≡ mark
mark_read hmax sensor None h keeps = refl
mark_read hmax sensor (Some hop) h keeps =
    let most = leb-true hop hmax ((and_parts (not (eqb sensor 0)) (leb hop hmax) keeps).1) in
    cond-false (eqb hop 255) None (Some hop) (ne_eqb hop 255 (λ e. omega arith))

module _ (file : List ℕ) (k : ℕ) where
  two_read : (at n : ℕ) → byte file k at ≡ n / 256 → byte file k (at + 1) ≡ n % 256 → two_bytes file k at ≡ n
  two_read at n high low = rw (high, low) (omega arith)

  four_read : (at n : ℕ) → two_bytes file k at ≡ n / 65536 → two_bytes file k (at + 2) ≡ n % 65536 → four_bytes file k at ≡ n
  four_read at n high low = rw (high, low) (omega arith)

  pub record ReadSensor (mark : Option ℕ) (timer value : ℕ) : Type 0 where
    pub mark_is : mark_at file k ≡ mark
    pub timer_is : two_bytes file k 4 ≡ timer
    pub value_is : four_bytes file k 8 ≡ value

  pub sensor_read : (s : Settings) (sensor : ℕ) (mark : Option ℕ) (timer value : ℕ) → clock_keeps s.hmax s.tmax s.f sensor timer mark ≡ true → Stands file k (sensor_record sensor mark timer value) → ReadSensor mark timer value
  sensor_read s sensor mark timer value keeps there =
      let b = there.bytes in
      let marked = (and_parts (within 1 (longest s.tmax s.f sensor) timer) (mark_keeps s.hmax sensor mark) keeps).1 in
      record {
        mark_is = rw (b 2 (omega arith)) (mark_read s.hmax sensor mark s.hmax_most marked);
        timer_is = two_read 4 timer (b 4 (omega arith)) (b 5 (omega arith));
        value_is = four_read 8 value (two_read 8 (value / 65536) (b 8 (omega arith)) (b 9 (omega arith))) (two_read 10 (value % 65536) (b 10 (omega arith)) (b 11 (omega arith)));
      }

  pub link_read : (x : Link) → Stands file k (link_record x) → link_at file k ≡ x
  link_read x there = let b = there.bytes in rw (b 1 (omega arith), b 2 (omega arith), b 3 (omega arith)) refl

  middle_read : (letter first second n : ℕ) → Stands file k (middle_record letter first second n) → four_bytes file k 4 ≡ n
  middle_read letter first second n there =
      let b = there.bytes in
      four_read 4 n (two_read 4 (n / 65536) (b 4 (omega arith)) (b 5 (omega arith))) (two_read 6 (n % 65536) (b 6 (omega arith)) (b 7 (omega arith)))

  pub loss_read : (x : Loss) → Stands file k (loss_record x) → loss_at file k ≡ x
  loss_read x there = let b = there.bytes in rw (b 1 (omega arith), b 2 (omega arith), middle_read 88 x.from x.to x.instant there) refl

  pub play_read : (budget : ℕ) → Stands file k (play_record budget) → four_bytes file k 4 ≡ budget
  play_read budget there = middle_read 80 0 0 budget there

  pub head_read : (code smax : ℕ) (s : Settings) → Stands file k (head_record code smax s) → HasSettings (byte file k 2) (byte file k 3) (byte file k 4) (two_bytes file k 6) (four_bytes file k 8) s
  head_read code smax s there =
      let b = there.bytes in
      record {
        n_is = sym (b 2 (omega arith));
        hmax_is = sym (b 3 (omega arith));
        tmax_is = sym (b 4 (omega arith));
        f_is = sym (two_read 6 s.f (b 6 (omega arith)) (b 7 (omega arith)));
        seed_is = sym (four_read 8 s.seed (two_read 8 (s.seed / 65536) (b 8 (omega arith)) (b 9 (omega arith))) (two_read 10 (s.seed % 65536) (b 10 (omega arith)) (b 11 (omega arith))));
      }
