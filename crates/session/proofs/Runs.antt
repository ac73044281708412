-- The calls of an input are a run that keeps the law.
use Rattle.std.proofs.Common.{◌≡◌, ℕ, suc, List, refl, ap, arith}
use Rattle.uses.specs.Relations.{Relations, UseLaws}
use Rattle.orders.specs.Laws.{OrderLaws}
use Rattle.model.specs.State.{State}
use Rattle.model.specs.Recalling.{Order}
use Rattle.model.specs.Calls.{step}
use Rattle.model.specs.Runs.{Run, start, next, at}
use Rattle.model.specs.declared.state.Detection.{Detection}
use Rattle.protocol.specs.declared.fault.Fault.TheVariants.{TooManyLines}
use Rattle.model.proofs.LawHolds.{law}
use Rattle.session.specs.Inputs.{Lines, more, count}
use Rattle.session.specs.Transcript.{too_many, faulty, carried, Turn, is_read, is_past, AnswersLines, nothing, then_line}
use Rattle.session.specs.Lawful as lawfully
use Rattle.session.specs.Lawful.{RunOf, LawfulRun}
use Rattle.session.specs.Theorems.{TranscriptLawful}

module _ (u : Relations) (o : Order) (detection : Detection) where
  -- the lines are the calls of a run to the state
  abbrev Ran : Lines → State → Type 0
  Ran ls s = (r : Run) × RunOf detection ls r × (at u o r ≡ s)

  -- a line more
  ran_more : {ls : Lines} {s t : State} {line text : List ℕ} → Ran ls s → Turn u o (suc (count ls)) s line text t → Ran (more ls line) t
  ran_more r (is_read _ (faulty f reads)) = (r.0, lawfully.then_line r.1 (lawfully.by_none f reads), r.2)
  ran_more r (is_read _ (carried c reads)) = (next r.0 c, lawfully.then_line r.1 (lawfully.by_call c reads), ap (λ (x : State). (step u o x c).state) r.2)
  ran_more r (is_past above) = (r.0, lawfully.then_line r.1 (lawfully.by_none TooManyLines (too_many (omega (arith, above)))), r.2)

  -- lines that are answered are the calls of a run to the state that is left
  ran : {ls : Lines} {s : State} {text : List ℕ} → AnswersLines u o detection ls text s → Ran ls s
  ran nothing = (start detection, lawfully.nothing, refl)
  ran (then_line before now) = ran_more (ran before) now

  -- so the lines of a transcript are
  pub lawful_run : UseLaws u → OrderLaws o → {ls : Lines} {s : State} {text : List ℕ} → AnswersLines u o detection ls text s → LawfulRun u o detection ls s
  lawful_run laws lawful answered =
      let r = ran answered in
      record { run = r.0; of_lines = r.1; leads = r.2; lawful = law u laws o lawful r.0 }

pub transcript_lawful : TranscriptLawful
transcript_lawful u laws o lawful detection input text t = record { transcript = t; runs = lawful_run u o detection laws lawful t.answered }
