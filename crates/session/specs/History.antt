-- Where a console stands once an input, or a part of one, has been read. `u` is the meaning of the
-- use table, `o` that of the recall order.
use Rattle.std.specs.Prelude.{◌≡◌, ℕ, if◌then◌else◌, List, [], take, nat_lt}
use Rattle.uses.specs.Relations.{Relations}
use Rattle.model.specs.State.{State}
use Rattle.model.specs.Recalling.{Order}
use Rattle.model.specs.declared.state.Detection.{Detection}
use Rattle.session.specs.Inputs.{Lines, count, Cut, with_rest}
use Rattle.session.specs.Transcript.{AnswersLines}
use Rattle.session.specs.Lawful.{LawfulTranscript}
use Rattle.session.specs.declared.limits.TheConstants.{LAST_LINE, KEPT}

-- where a console stands: the state of its book, how many lines it has answered, and the first
-- bytes of the line that has begun
pub record Position : Type 0 where
  pub state : State
  pub answered : ℕ
  pub line : List ℕ

-- the position of these parts
abbrev pub position_of_parts : State → ℕ → List ℕ → Position
position_of_parts state answered line = record { state = state; answered = answered; line = line }

-- how many of so many lines are answered
abbrev pub answered_of : ℕ → ℕ
answered_of lines = if nat_lt lines LAST_LINE then lines else LAST_LINE

module _ (u : Relations) (o : Order) where
  module _ (detection : Detection) where
    -- the ended lines were answered by the text, and the first bytes of the line that has begun
    -- are kept
    pub record HasAnswered (ended : Lines) (rest text : List ℕ) (p : Position) : Type 0 where
      pub answered : AnswersLines u o detection ended text p.state
      pub counted : p.answered ≡ answered_of (count ended)
      pub kept : p.line ≡ take KEPT rest

    -- the input was read, however it was cut, and the text is what was printed so far
    pub record HasRead (input text : List ℕ) (p : Position) : Type 0 where
      pub ended : Lines
      pub rest : List ℕ
      pub cut : Cut input ended rest
      pub stands : HasAnswered ended rest text p

    -- the input was read to its end, and the text is its transcript, whose calls are a run that
    -- keeps the law: the state is the one left, every line is counted, and none has begun
    pub record HasFinished (input text : List ℕ) (p : Position) : Type 0 where
      pub done : LawfulTranscript u o detection input text
      pub left : p.state ≡ done.transcript.left
      pub counted :
          p.answered ≡ answered_of (count (with_rest done.transcript.ended done.transcript.rest))
      pub none_begun : p.line ≡ []

  -- some input was read and answered so; which one is not kept
  abbrev pub HasHistory : Position → Type 0
  HasHistory p =
      ∥ ((detection : Detection) × (input : List ℕ) × (text : List ℕ)
      × HasRead detection input text p) ∥₁
