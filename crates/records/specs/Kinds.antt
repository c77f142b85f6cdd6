-- The kinds of records, by their letters. Assumes nothing.
use Rattle.std.specs.Prelude.{ℕ, cond, Ok, Err, Result, ◌==◌}
use Rattle.records.specs.declared.kind.Kind.{Kind}
use Rattle.records.specs.declared.kind.Kind.TheVariants.{Field, Sensor, Link, Loss, Play}
use Rattle.records.specs.declared.kind.UnknownLetter.{UnknownLetter}

-- the kind byte is a letter
abbrev pub letter : Kind → ℕ
letter Field = 70
letter Sensor = 83
letter Link = 76
letter Loss = 88
letter Play = 80

-- the kind whose letter a byte is, or that none has it
abbrev pub kind_of : ℕ → Result Kind UnknownLetter
kind_of b =
    cond (b == letter Field) (Ok Field)
    (cond (b == letter Sensor) (Ok Sensor)
    (cond (b == letter Link) (Ok Link)
    (cond (b == letter Loss) (Ok Loss)
    (cond (b == letter Play) (Ok Play) (Err (record { 0 = b }))))))
