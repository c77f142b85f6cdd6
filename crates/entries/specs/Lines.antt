-- What a line of a listing says. Assumes nothing.
use Rattle.std.specs.Prelude.{ℕ, ◌^◌, cond, ◌&&◌, List, length, slice_index_or, codes, [], ◌∷◌, Some, None, Option, ◌==◌, bytes_eq}
use Rattle.std.specs.Borrow.{Bor}
use Rattle.field.specs.declared.Link.{Link}
use Rattle.field.specs.declared.Loss.{Loss}
use Rattle.words.specs.Numbers.{number_in, below_in}
use Rattle.entries.specs.declared.entry.Entry.{Entry}
use Rattle.entries.specs.declared.entry.Entry.TheVariants.{Field as FieldLine, Row as RowLine, Link as LinkLine, Loss as LossLine, Play as PlayLine, Damage as DamageLine}
use Rattle.recording.specs.declared.Head.{Head}
use Rattle.recording.specs.declared.Sensor.{Sensor}

-- the words of a line
abbrev pub Words : Type 0
Words = List (Bor (List ℕ))

-- the text of word i, which is empty past the end
abbrev pub word : Words → ℕ → List ℕ
word words i = (slice_index_or words i (record { ref_ptr = (0, 0); now = [] })).now

-- the number that word i writes
abbrev pub byte : Words → ℕ → Option ℕ
byte words i = below_in (2 ^ 8) (word words i)

abbrev pub two_bytes : Words → ℕ → Option ℕ
two_bytes words i = below_in (2 ^ 16) (word words i)

abbrev pub four_bytes : Words → ℕ → Option ℕ
four_bytes words i = number_in (word words i)

-- the code of a numbering's name
abbrev pub code_in : List ℕ → Option ℕ
code_in name =
    cond (bytes_eq name (codes "free")) (Some 0)
    (cond (bytes_eq name (codes "linear")) (Some 1)
    (cond (bytes_eq name (codes "circular")) (Some 2)
    (cond (bytes_eq name (codes "differentiated")) (Some 3) None)))

-- a mark, or the word for none; 255 is no hop count, since its byte stands for none
abbrev pub mark_in : List ℕ → Option (Option ℕ)
mark_in name = cond (bytes_eq name (codes "none")) (Some None) (elim (below_in (2 ^ 8) name) [ None ↦ None | Some hop ↦ cond (hop == 255) None (Some (Some hop)) ])

-- what stands after the first word of each line:

-- NUMBERING smax S sensors N hmax H tmax T f F seed D
abbrev pub head_in : Words → Option Head
head_in words =
    cond (length words == 13 && (bytes_eq (word words 1) (codes "smax") && (bytes_eq (word words 3) (codes "sensors") && (bytes_eq (word words 5) (codes "hmax") && (bytes_eq (word words 7) (codes "tmax") && (bytes_eq (word words 9) (codes "f") && bytes_eq (word words 11) (codes "seed")))))))
    (elim (code_in (word words 0)) [ None ↦ None | Some code ↦ elim (byte words 2) [ None ↦ None | Some smax ↦ elim (byte words 4) [ None ↦ None | Some n ↦ elim (byte words 6) [ None ↦ None | Some hmax ↦ elim (byte words 8) [ None ↦ None | Some tmax ↦ elim (two_bytes words 10) [ None ↦ None | Some f ↦ elim (four_bytes words 12) [ None ↦ None | Some seed ↦ Some (record { code = code; smax = smax; n = n; hmax = hmax; tmax = tmax; f = f; seed = seed }) ] ] ] ] ] ] ]) None

-- K timer T holds V mark M
abbrev pub sensor_in : Words → Option Sensor
sensor_in words =
    cond (length words == 7 && (bytes_eq (word words 1) (codes "timer") && (bytes_eq (word words 3) (codes "holds") && bytes_eq (word words 5) (codes "mark"))))
    (elim (byte words 0) [ None ↦ None | Some k ↦ elim (two_bytes words 2) [ None ↦ None | Some t ↦ elim (four_bytes words 4) [ None ↦ None | Some v ↦ elim (mark_in (word words 6)) [ None ↦ None | Some m ↦ Some (record { sensor = k; timer = t; value = v; mark = m }) ] ] ] ]) None

-- A to B label P
abbrev pub link_in : Words → Option Link
link_in words =
    cond (length words == 5 && (bytes_eq (word words 1) (codes "to") && bytes_eq (word words 3) (codes "label")))
    (elim (byte words 0) [ None ↦ None | Some a ↦ elim (byte words 2) [ None ↦ None | Some b ↦ elim (byte words 4) [ None ↦ None | Some p ↦ Some (record { from = a; to = b; label = p }) ] ] ]) None

-- A to B at I
abbrev pub loss_in : Words → Option Loss
loss_in words =
    cond (length words == 5 && (bytes_eq (word words 1) (codes "to") && bytes_eq (word words 3) (codes "at")))
    (elim (byte words 0) [ None ↦ None | Some a ↦ elim (byte words 2) [ None ↦ None | Some b ↦ elim (four_bytes words 4) [ None ↦ None | Some i ↦ Some (record { from = a; to = b; instant = i }) ] ] ]) None

-- B
abbrev pub budget_in : Words → Option ℕ
budget_in words = cond (length words == 1) (four_bytes words 0) None

-- one entry, of what the words after the first say
abbrev pub as_entry : {A : Type 0} → (A → Entry) → Option A → Option Entry
as_entry make None = None
as_entry make (Some x) = Some (make x)

-- the first word says which line it is
abbrev pub entry_in : Words → Option Entry
entry_in [] = None
entry_in (first ∷ words) =
    cond (bytes_eq first.now (codes "field")) (as_entry FieldLine (head_in words))
    (cond (bytes_eq first.now (codes "sensor")) (as_entry RowLine (sensor_in words))
    (cond (bytes_eq first.now (codes "link")) (as_entry LinkLine (link_in words))
    (cond (bytes_eq first.now (codes "loss")) (as_entry LossLine (loss_in words))
    (cond (bytes_eq first.now (codes "play")) (as_entry PlayLine (budget_in words))
    (cond (bytes_eq first.now (codes "damage")) (as_entry DamageLine (sensor_in words)) None)))))
