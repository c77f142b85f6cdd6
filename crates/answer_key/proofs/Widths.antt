-- How long the lines of a key are at most. Assumes nothing.
use Rattle.std.proofs.Common.{ℕ, ◌^◌, ◌<◌, ◌≤◌, length, length-append, lit<, lit≤, arith}
use Rattle.std.proofs.lemmas.Fmt.{length-decimal-le}
use Rattle.std.specs.Prelude.{decimal}
use Rattle.flood.specs.declared.hearing.Verdict.{Verdict}
use Rattle.flood.specs.declared.hearing.Verdict.TheVariants.{Lost, Refused, Accepted, Forwards}
use Rattle.history.specs.declared.taking.TakenCopy.{TakenCopy}
use Rattle.answer_key.specs.declared.lines.KeyRefusal.{KeyRefusal}
use Rattle.answer_key.specs.Lines.{verdict_word, copy_line, refusal_line}

pub byte_width : (n : ℕ) → n < 2 ^ 8 → length (decimal n) ≤ 3
byte_width n h = length-decimal-le 3 n (lit< tt) (omega arith) (omega arith)

pub word_width : (n : ℕ) → n < 2 ^ 32 → length (decimal n) ≤ 10
word_width n h = length-decimal-le 10 n (lit< tt) (omega arith) (omega arith)

pub index_width : (n : ℕ) → n < 2 ^ 64 → length (decimal n) ≤ 20
index_width n h = length-decimal-le 20 n (lit< tt) (omega arith) h

pub verdict_width : (verdict : Verdict) → length (verdict_word verdict) ≤ 8
verdict_width Lost = lit≤ tt
verdict_width Refused = lit≤ tt
verdict_width Accepted = lit≤ tt
verdict_width Forwards = lit≤ tt

pub copy_width : {Num : Type 0} (worth : Num → ℕ) (copy : TakenCopy Num) → copy.instant < 2 ^ 32 → copy.from < 2 ^ 8 → copy.to < 2 ^ 8 → copy.hop < 2 ^ 8 → worth copy.number < 2 ^ 32 → length (copy_line worth copy) ≤ 43
unfolding copy_line
copy_width worth copy instant from to hop number =
    let a = word_width copy.instant instant in
    let b = byte_width copy.from from in
    let c = byte_width copy.to to in
    let d = byte_width copy.hop hop in
    let e = word_width (worth copy.number) number in
    let f = verdict_width copy.verdict in
    simp length-append (omega arith)

pub refusal_width : (refusal : KeyRefusal) → refusal.number < 2 ^ 8 → refusal.index < 2 ^ 64 → length (refusal_line refusal) ≤ 43
unfolding refusal_line
refusal_width refusal number index =
    let a = byte_width refusal.number number in
    let b = index_width refusal.index index in
    simp length-append (omega arith)
