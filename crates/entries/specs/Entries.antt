-- The record that a line of a listing stands for. Assumes nothing.
use Rattle.std.specs.Prelude.{ℕ, List}
use Rattle.recording.specs.Records.{head_bytes, sensor_bytes, link_record, loss_record, play_record}
use Rattle.entries.specs.declared.entry.Entry.{Entry}
use Rattle.entries.specs.declared.entry.Entry.TheVariants.{Field, Row, Link, Loss, Play, Damage}

abbrev pub entry_bytes : Entry → List ℕ
entry_bytes (Field head) = head_bytes head
entry_bytes (Row sensor) = sensor_bytes sensor
entry_bytes (Link link) = link_record link
entry_bytes (Loss loss) = loss_record loss
entry_bytes (Play budget) = play_record budget
entry_bytes (Damage sensor) = sensor_bytes sensor
