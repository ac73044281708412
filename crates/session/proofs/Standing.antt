-- Where a console stands after a line, and after bytes of one.
use Rattle.std.proofs.Common.{◌≡◌, ℕ, suc, ◌<◌, cond, ltb, List, [], ◌++◌, take, Result, sym, ap, ◌∙◌, subst, arith}
use Rattle.std.proofs.lemmas.List.{append-nil}
use Rattle.std.proofs.lemmas.Bool.Decides.{nat_tests}
use Rattle.text_buffer.proofs.TextBufferLemmas.{take_cut}
use Rattle.uses.specs.Relations.{Relations}
use Rattle.model.specs.State.{State}
use Rattle.model.specs.Recalling.{Order}
use Rattle.model.specs.declared.report.ReportEntry.{ReportEntry}
use Rattle.model.specs.declared.state.Detection.{Detection}
use Rattle.model.specs.declared.report.Report.{Report}
use Rattle.book.specs.declared.answer.Answer.{Answer}
use Rattle.protocol.specs.Words.{Reply, reply_to, printed, recalled_entries, woken_entries}
use Rattle.protocol.specs.declared.fault.Fault.{Fault}
use Rattle.session.specs.Inputs.{Lines, more, count}
use Rattle.session.specs.Transcript.{Gives, Turn, is_read, is_past, AnswersLines, then_line}
use Rattle.session.specs.History.{Position, HasAnswered}
use Rattle.session.proofs.Responding.{Printable}
use Rattle.session.proofs.Kept.{gives_same}
use Rattle.session.proofs.Naming.{recalled_filled, woken_filled}

-- before the last line the lines are counted
counted_below : (answered n : ℕ) → answered ≡ cond (ltb n 1000000) n 1000000 → answered < 1000000 → answered ≡ n
counted_below answered n is below = grind (arith, nat_tests, is, below)

-- a line more is counted
counted_more : (answered n : ℕ) → answered ≡ cond (ltb n 1000000) n 1000000 → answered < 1000000 → suc answered ≡ cond (ltb (suc n) 1000000) (suc n) 1000000
counted_more answered n is below = grind (arith, nat_tests, is, below)

-- at the last line counting has ended
counted_last : (answered n : ℕ) → answered ≡ cond (ltb n 1000000) n 1000000 → answered ≡ 1000000 → (1000000 < suc n) × (answered ≡ cond (ltb (suc n) 1000000) (suc n) 1000000)
counted_last answered n is last = (grind (arith, nat_tests, is, last), grind (arith, nat_tests, is, last))

module _ (u : Relations) (o : Order) (detection : Detection) where
  -- a line was answered, before a line that has begun
  line_answered : (ended : Lines) (first line rest text now : List ℕ) (before after : Position) (number : ℕ) (reply : Reply) (recalls wakes : List ReportEntry) → take 33 first ≡ take 33 line → HasAnswered u o detection ended rest text before → before.answered < 1000000 → number ≡ suc before.answered → Gives u o number before.state first reply recalls wakes after.state → now ≡ printed number reply recalls wakes → after.answered ≡ number → after.line ≡ before.line → HasAnswered u o detection (more ended line) rest (text ++ now) after
  line_answered ended first line rest text now before after number reply recalls wakes same h below next gives prints counts anew = record {
    answered = then_line h.answered turn;
    counted = counts ∙ (next ∙ counted_more before.answered (count ended) h.counted below);
    kept = anew ∙ h.kept;
  }
    where
      given : Gives u o number before.state line reply recalls wakes after.state
      given = gives_same u o number before.state first line reply recalls wakes after.state same gives

      turn : Turn u o (suc (count ended)) before.state line now after.state
      turn = subst (λ (n : ℕ). Turn u o n before.state line now after.state) (next ∙ ap suc (counted_below before.answered (count ended) h.counted below))
          (subst (λ (t : List ℕ). Turn u o number before.state line t after.state) (sym prints) (is_read (omega (arith, next, below)) given))

  -- a line was responded to, and the response was printed
  pub response_printed : (ended : Lines) (first line rest text now : List ℕ) (before after : Position) (number : ℕ) (outcome : Result Answer Fault) (r : Report) → take 33 first ≡ take 33 line → HasAnswered u o detection ended rest text before → before.answered < 1000000 → number ≡ suc before.answered → Printable u o number first before.state outcome r after.state → now ≡ printed number (reply_to outcome) (recalled_entries r) (woken_entries r) → after.answered ≡ number → after.line ≡ before.line → HasAnswered u o detection (more ended line) rest (text ++ now) after
  response_printed ended first line rest text now before after number outcome r same h below next done prints counts anew =
      line_answered ended first line rest text now before after number (reply_to outcome) done.recalls done.wakes same h below next done.gives
      (prints ∙ named) counts anew
    where
      recalled : recalled_entries r ≡ done.recalls
      recalled = ap (λ (x : Report). recalled_entries x) done.reported ∙ recalled_filled done.recalls done.wakes done.fits

      woken : woken_entries r ≡ done.wakes
      woken = ap (λ (x : Report). woken_entries x) done.reported ∙ woken_filled done.recalls done.wakes done.fits

      named : printed number (reply_to outcome) (recalled_entries r) (woken_entries r) ≡ printed number (reply_to outcome) done.recalls done.wakes
      named = ap (λ (xs : List ReportEntry). printed number (reply_to outcome) xs (woken_entries r)) recalled ∙ ap (λ (ys : List ReportEntry). printed number (reply_to outcome) done.recalls ys) woken

  -- a line came after the last one that is read
  pub line_passed : (ended : Lines) (line rest text now : List ℕ) (p : Position) → HasAnswered u o detection ended rest text p → p.answered ≡ 1000000 → now ≡ [] → HasAnswered u o detection (more ended line) rest (text ++ now) p
  line_passed ended line rest text now p h last prints = record {
    answered = then_line h.answered turn;
    counted = past.1;
    kept = h.kept;
  }
    where
      past : (1000000 < suc (count ended)) × (p.answered ≡ cond (ltb (suc (count ended)) 1000000) (suc (count ended)) 1000000)
      past = counted_last p.answered (count ended) h.counted last

      turn : Turn u o (suc (count ended)) p.state line now p.state
      turn = subst (λ (t : List ℕ). Turn u o (suc (count ended)) p.state line t p.state) (sym prints) (is_past past.0)

-- a cut that is made again
pub take_again : (n : ℕ) (xs : List ℕ) → take n (take n xs) ≡ take n xs
take_again n xs = ap (take n) (sym (append-nil (take n xs))) ∙ (take_cut n xs [] ∙ ap (take n) (append-nil xs))

-- the first 33 of a text that grows
pub kept_more : (xs rest bytes : List ℕ) → xs ≡ take 33 rest → take 33 (xs ++ bytes) ≡ take 33 (rest ++ bytes)
kept_more xs rest bytes is = ap (λ (ys : List ℕ). take 33 (ys ++ bytes)) is ∙ take_cut 33 rest bytes

-- bytes of a line were kept
pub bytes_kept : (u : Relations) (o : Order) (detection : Detection) (ended : Lines) (rest text bytes : List ℕ) (before after : Position) → HasAnswered u o detection ended rest text before → after.state ≡ before.state → after.answered ≡ before.answered → after.line ≡ take 33 (before.line ++ bytes) → HasAnswered u o detection ended (rest ++ bytes) text after
bytes_kept u o detection ended rest text bytes before after h same counts keeps = record {
  answered = subst (λ (s : State). AnswersLines u o detection ended text s) (sym same) h.answered;
  counted = counts ∙ h.counted;
  kept = keeps ∙ kept_more before.line rest bytes h.kept;
}
