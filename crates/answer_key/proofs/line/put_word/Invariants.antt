use Rattle.std.proofs.Common.{◌≡◌, ◌+◌, ◌++◌, take}
use Rattle.answer_key.proofs.line.put_word.Given as goal

abbrev pub invariant-loop-byte : goal.invariant-loop-byte
invariant-loop-byte l = record { place : l.end ≡ l.at + l.byte-index; text : take l.end l.line ≡ take l.at l.initial.line ++ take l.byte-index l.word }
