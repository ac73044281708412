-- Some input was read, and reading goes on.
use Rattle.std.proofs.Common.{◌≡◌, ℕ, suc, ◌<◌, false, eqb, List, [], ◌++◌, take, drop, Result, sym, refl, ◌∙◌, subst, take-append-drop, arith}
use Rattle.std.proofs.Math.Logic.{∥∥₁_elim, ∥∥₁_map}
use Rattle.std.proofs.Props.{props}
use Rattle.std.proofs.lemmas.Bool.Decides.{nat_tests}
use Rattle.uses.specs.Relations.{Relations}
use Rattle.model.specs.State.{State}
use Rattle.model.specs.Search.{member}
use Rattle.model.specs.Recalling.{Order}
use Rattle.model.specs.declared.state.Detection.{Detection}
use Rattle.model.specs.declared.report.Report.{Report}
use Rattle.model.proofs.Anys.{any_append}
use Rattle.book.specs.declared.answer.Answer.{Answer}
use Rattle.protocol.specs.Words.{reply_to, printed, recalled_entries, woken_entries}
use Rattle.protocol.specs.declared.fault.Fault.{Fault}
use Rattle.session.specs.Inputs.{Lines, more, joined_lines, IsUnbroken}
use Rattle.session.specs.Transcript.{AnswersLines}
use Rattle.session.specs.History.{Position, HasAnswered, HasHistory}
use Rattle.session.specs.Stands.{position_of, StandsAfter, AfterInput}
use Rattle.session.specs.declared.console.Console.{Console}
use Rattle.session.proofs.Cutting.{cut_more}
use Rattle.session.proofs.Responding.{Printable}
use Rattle.session.proofs.Standing.{bytes_kept, response_printed}

-- the first bytes of what has no byte 10 have none
unbroken_front : (n : ℕ) (bytes : List ℕ) → IsUnbroken bytes → IsUnbroken (take n bytes)
unbroken_front n bytes whole = let e = any_append (λ m. eqb m 10) (take n bytes) (drop n bytes) in let all : member 10 (take n bytes ++ drop n bytes) ≡ false = rw (take-append-drop n bytes) whole in grind (arith, nat_tests, e, all)

module _ (u : Relations) (o : Order) where
  -- bytes of the line that has begun were kept
  pub history_kept : (bytes : List ℕ) (before after : Position) → IsUnbroken bytes → after.state ≡ before.state → after.answered ≡ before.answered → after.line ≡ take 33 (before.line ++ bytes) → HasHistory u o before → HasHistory u o after
  history_kept bytes before after whole same counts keeps some =
      ∥∥₁_map some
      (λ h.
      let was = h.3 in (
        h.0,
        h.1 ++ bytes,
        h.2,
        record {
          ended = was.ended;
          rest = was.rest ++ bytes;
          cut = cut_more h.1 was.ended was.rest bytes was.cut whole;
          stands = bytes_kept u o h.0 was.ended was.rest h.2 bytes before after was.stands same counts keeps;
        },
      ))

  -- a line was answered, before the one that has begun
  pub history_answered : (line text : List ℕ) (before after : Position) → IsUnbroken line → ((detection : Detection) (ended : Lines) (rest printed : List ℕ) → HasAnswered u o detection ended rest printed before → HasAnswered u o detection (more ended line) rest (printed ++ text) after) → HasHistory u o before → HasHistory u o after
  history_answered line text before after whole answers some =
      ∥∥₁_map some
      (λ h.
      let was = h.3 in (
        h.0,
        joined_lines (more was.ended line) ++ was.rest,
        h.2 ++ text,
        record {
          ended = more was.ended line;
          rest = was.rest;
          cut = record { made = refl; lines_unbroken = (was.cut.lines_unbroken, whole); rest_unbroken = was.cut.rest_unbroken };
          stands = answers h.0 was.ended was.rest h.2 was.stands;
        },
      ))

  -- a line was responded to, before the one that has begun
  pub history_responded : (line : List ℕ) (number : ℕ) (outcome : Result Answer Fault) (r : Report) (before after : Position) → IsUnbroken line → before.answered < 1000000 → number ≡ suc before.answered → Printable u o number line before.state outcome r after.state → after.answered ≡ number → after.line ≡ before.line → HasHistory u o before → HasHistory u o after
  history_responded line number outcome r before after whole below next done counts anew =
      history_answered line (printed number (reply_to outcome) (recalled_entries r) (woken_entries r)) before after whole (λ detection ended rest text h. response_printed u o detection ended line line rest text _ before after number outcome r refl h below next done refl counts anew)

  -- the line that has begun was put aside
  pub history_anew : (before after : Position) → after.state ≡ before.state → after.answered ≡ before.answered → after.line ≡ [] → HasHistory u o before → HasHistory u o after
  history_anew before after same counts anew some =
      ∥∥₁_map some
      (λ h.
      let was = h.3 in (
        h.0,
        joined_lines was.ended ++ [],
        h.2,
        record {
          ended = was.ended;
          rest = [];
          cut = record { made = refl; lines_unbroken = was.cut.lines_unbroken; rest_unbroken = refl };
          stands = record {
            answered = subst (λ (s : State). AnswersLines u o h.0 was.ended h.2 s) (sym same) was.stands.answered;
            counted = counts ∙ was.stands.counted;
            kept = anew;
          };
        },
      ))

  -- no byte 10 is in the bytes that are kept
  pub line_unbroken : (p : Position) → HasHistory u o p → IsUnbroken p.line
  line_unbroken p some =
      let one : IsProp (IsUnbroken p.line) = hlevel (props) in
      ∥∥₁_elim some one (λ h. subst IsUnbroken (sym h.3.stands.kept) (unbroken_front 33 h.3.rest h.3.cut.rest_unbroken))

module _ {T O : Type 0} {tm om : _} (m : T → Relations) (p : O → Order) (c : Console T O tm om) where
  -- what holds of every input that a console may have read holds of one that it has read
  pub after_input : (Fact : Detection → List ℕ → List ℕ → Type 0) → HasHistory (m c.book.policy.table) (p c.book.policy.order) (position_of c) → ((detection : Detection) (input printed : List ℕ) → StandsAfter m p c detection input printed c → Fact detection input printed) → AfterInput m p c Fact
  after_input Fact some every = record { every = every; some = ∥∥₁_map some (λ h. (h.0, h.1, h.2, h.3, every h.0 h.1 h.2 h.3)) }

  -- what follows from a fact holds after the input too
  pub after_also : (Fact Other : Detection → List ℕ → List ℕ → Type 0) → AfterInput m p c Fact → ((detection : Detection) (input printed : List ℕ) → StandsAfter m p c detection input printed c → Fact detection input printed → Other detection input printed) → AfterInput m p c Other
  after_also Fact Other a goes = record {
    every = λ detection input printed h. goes detection input printed h (a.every detection input printed h);
    some = ∥∥₁_map a.some (λ h. (h.0, h.1, h.2, h.3, goes h.0 h.1 h.2 h.3 h.4));
  }
