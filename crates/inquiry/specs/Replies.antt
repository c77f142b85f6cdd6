-- The text of a reply. Assumes nothing.
use Rattle.std.specs.Prelude.{ℕ, List}
use Rattle.numbering.specs.Four.{linear, ring, circular_fresh, differs}
use Rattle.inquiry.specs.Written.{free_text, report_text}
use Rattle.inquiry.specs.declared.replies.Answer.{Answer}
use Rattle.inquiry.specs.declared.replies.Answer.TheVariants.{Free, Linear, Circular, Differentiated}
use Rattle.inquiry.specs.declared.replies.Reply.{Reply}

-- the text of an answer in each of the four numberings
abbrev pub answer_text : Answer → List ℕ
answer_text Free = free_text
answer_text (Linear report) = report_text (λ m. linear) (λ x. x) report
answer_text (Circular report) = report_text (λ m. ring m.ring.smax (circular_fresh m.ring.smax)) (λ x. x) report
answer_text (Differentiated report) = report_text (λ m. ring m.ring.smax differs) (λ x. x) report

abbrev pub reply_text : Reply → List ℕ
reply_text reply = answer_text reply.answer
