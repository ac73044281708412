use Rattle.std.proofs.Common.{◌≡◌, ℕ, ◌≤◌, List, length, Result, sym, ap, ◌∙◌, subst, arith, append_assoc}
use Rattle.book.specs.declared.answer.Answer.{Answer}
use Rattle.text_buffer.specs.TextBuffer.{put_behind}
use Rattle.text_buffer.proofs.TextBufferLemmas.{behind_behind}
use Rattle.protocol.specs.Words.{words, reply_to}
use Rattle.protocol.specs.declared.fault.Fault.{Fault}
use Rattle.protocol.proofs.Lengths.{answer_short, line_short}
use Rattle.protocol.proofs.outcome.put_reply.Goals as goal
use Rattle.protocol.proofs.outcome.put_reply.Goals.{in-Ok, in-Err}

-- the words of equal outcomes
same-words : {o p : Result Answer Fault} → o ≡ p → words (reply_to p) ≡ words (reply_to o)
same-words e = sym (ap (λ (o : Result Answer Fault). words (reply_to o)) e)

pub returns : goal.returns
returns c =
    let ws = words (reply_to c.args.outcome) in
    let done : (c.match-outcome.out ≡ put_behind c.put.new.self ws) × (length ws ≤ 16) =
    elim c.match-outcome.branch [
      | in-Ok w ↦
          let same = same-words w.in-Ok.is in (
            w.out-is ∙ w.put_all.ensures ∙ ap (put_behind c.put.new.self) (w.as_bytes.ensures.value ∙ w.name.ensures ∙ same),
            subst (λ (xs : List ℕ). length xs ≤ 16) same (answer_short w.in-Ok.answer),
          )
      | in-Err w ↦
          let same = same-words w.in-Err.is in (
            cc (w.out-is, w.put_fault.ensures.puts),
            subst (λ (xs : List ℕ). length xs ≤ 16) same w.put_fault.ensures.short,
          )
    ] in
    record {
      puts = rw (c.put-2.ensures, done.0, c.put.ensures, c.put_number.ensures) (simp (behind_behind, append_assoc));
      short = line_short c.args.number ws (omega arith) done.1;
    }
