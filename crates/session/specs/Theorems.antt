-- The theorems on transcripts.
use Rattle.std.specs.Prelude.{◌≡◌, ℕ, List, ◌++◌, Some}
use Rattle.uses.specs.Relations.{Relations, UseLaws}
use Rattle.orders.specs.Laws.{OrderLaws}
use Rattle.model.specs.Recalling.{Order}
use Rattle.model.specs.Runs.{Run}
use Rattle.model.specs.declared.state.Detection.{Detection}
use Rattle.session.specs.Inputs.{Lines}
use Rattle.session.specs.Transcript.{Transcript}
use Rattle.session.specs.Lawful.{RunOf, LawfulTranscript}
use Rattle.session.specs.History.{Position, HasRead}
use Rattle.session.specs.Stands.{table_of, order_of, StandsAfter, Serves, BreaksOff}
use Rattle.session.specs.declared.console.Console.{Console}

-- an input has one transcript
abbrev pub TranscriptUnique : Type 0
TranscriptUnique =
    (u : Relations) (o : Order) (detection : Detection) (input one other : List ℕ)
    → Transcript u o detection input one → Transcript u o detection input other → one ≡ other

-- lines are the calls of one run
abbrev pub RunUnique : Type 0
RunUnique =
    (detection : Detection) (lines : Lines) (one other : Run)
    → RunOf detection lines one → RunOf detection lines other → one ≡ other

-- the calls of an input that has a transcript are a run that keeps the law
abbrev pub TranscriptLawful : Type 0
TranscriptLawful =
    (u : Relations) → UseLaws u → (o : Order) → OrderLaws o
    → (detection : Detection) (input text : List ℕ)
    → Transcript u o detection input text → LawfulTranscript u o detection input text

-- what is printed while the first bytes of an input are read is the front of its transcript
abbrev pub PrintedIsFront : Type 0
PrintedIsFront =
    (u : Relations) (o : Order) (detection : Detection) (input printed : List ℕ) (p : Position)
    → HasRead u o detection input printed p → (bytes all : List ℕ)
    → Transcript u o detection (input ++ bytes) all → (later : List ℕ) × (all ≡ printed ++ later)

-- here `u` and `o` give the meaning of each table and of each order; a console that stood as
-- `before` serves a reader that had these bytes, and stands as `after`
module _ {T O : Type 0} {tm om : _} (u : T → Relations) (o : O → Order)
    (before after : Console T O tm om) where
  -- what a writer was given goes on with what was printed before, to the transcript of the whole
  -- input, whose calls are a run that keeps the law
  abbrev pub ServedIsTranscript : Type 0
  ServedIsTranscript =
      (had was is : List ℕ) → Serves u o before after (Some had) (Some was) (Some is)
      → (detection : Detection) (input printed : List ℕ)
      → StandsAfter u o before detection input printed before
      → (text : List ℕ) × (is ≡ was ++ text)
      × LawfulTranscript (u (table_of before)) (o (order_of before)) detection
      (input ++ had) (printed ++ text)

  -- what a writer was given until an error came is the front of what it should have been given
  abbrev pub ServedIsFront : Type 0
  ServedIsFront =
      (had was is : List ℕ) → BreaksOff u o before after (Some had) (Some was) (Some is)
      → (detection : Detection) (input printed all : List ℕ)
      → StandsAfter u o before detection input printed before
      → Transcript (u (table_of before)) (o (order_of before)) detection (input ++ had) all
      → (text : List ℕ) × (lost : List ℕ) × (is ≡ was ++ text) × (all ≡ printed ++ (text ++ lost))
