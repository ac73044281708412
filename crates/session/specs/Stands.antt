-- What a console's calls promise: where it stands once bytes have been read, or the whole input.
use Rattle.std.specs.Prelude.{◌≡◌, ℕ, Bool, List, [], ◌++◌, take, ◌⊎◌, IfSome, Option, nat_le}
use Rattle.std.specs.Io.KnownBytes.{Appends}
use Rattle.uses.specs.Relations.{Relations}
use Rattle.model.specs.Recalling.{Order}
use Rattle.model.specs.declared.state.Detection.{Detection}
use Rattle.book.specs.Book.{state_of, table_of as table_of_book, order_of as order_of_book}
use Rattle.book.specs.declared.policy.Policy.{Policy}
use Rattle.session.specs.Inputs.{Lines, more, count, with_rest}
use Rattle.session.specs.History.{Position, position_of_parts, HasAnswered, HasRead, HasFinished}
use Rattle.session.specs.declared.console.Console.{Console}
use Rattle.session.specs.declared.limits.TheConstants.{LAST_LINE, KEPT}

-- here `c` is a console
module _ {T O : Type 0} {tm om : _} (c : Console T O tm om) where
  -- where it stands
  abbrev pub position_of : Position
  position_of = position_of_parts (state_of c.book) c.answered c.line

  -- its use table
  abbrev pub table_of : T
  table_of = table_of_book c.book

  -- its recall order
  abbrev pub order_of : O
  order_of = order_of_book c.book

  -- its use table and its recall order
  abbrev pub policy_of : Policy T O
  policy_of = c.book.policy

-- the first bytes of the text were written
abbrev pub WritesFront : Option (List ℕ) → Option (List ℕ) → List ℕ → Type 0
WritesFront was is text =
    (front : List ℕ) × (lost : List ℕ) × (text ≡ front ++ lost) × Appends was is front

-- here `u` and `o` give the meaning of each table and of each order
module _ {T O : Type 0} {tm om : _} (u : T → Relations) (o : O → Order) where
  -- by the table and the order of a console: what a console has answered
  abbrev pub Stands : Console T O tm om
      → Detection → Lines → List ℕ → List ℕ → Console T O tm om → Type 0
  Stands c detection ended rest text d =
      HasAnswered (u (table_of c)) (o (order_of c)) detection ended rest text
      (position_of d)

  -- by the table and the order of a console: what a console has read
  abbrev pub StandsAfter : Console T O tm om
      → Detection → List ℕ → List ℕ → Console T O tm om → Type 0
  StandsAfter c detection input text d =
      HasRead (u (table_of c)) (o (order_of c)) detection input text (position_of d)

  -- by the table and the order of a console: a console has answered a whole input by its transcript
  abbrev pub StandsAtEnd : Console T O tm om
      → Detection → List ℕ → List ℕ → Console T O tm om → Type 0
  StandsAtEnd c detection input text d =
      HasFinished (u (table_of c)) (o (order_of c)) detection input text
      (position_of d)

  -- the fact holds of every input that the console may have read, with the text printed for it;
  -- and it has read some input, of which the fact holds
  pub record AfterInput (c : Console T O tm om)
      (Fact : Detection → List ℕ → List ℕ → Type 0) : Type 0 where
    pub every :
        (detection : Detection) (input printed : List ℕ)
        → StandsAfter c detection input printed c → Fact detection input printed
    pub some :
        ∥ ((detection : Detection) × (input : List ℕ) × (printed : List ℕ)
        × StandsAfter c detection input printed c × Fact detection input printed) ∥₁

  -- a line that begins with these bytes was answered by the text, where no line had begun
  abbrev pub AnswersLine : Console T O tm om → Console T O tm om → List ℕ → List ℕ → Type 0
  AnswersLine before after first text =
      (detection : Detection) (ended : Lines) (line printed : List ℕ)
      → take KEPT first ≡ take KEPT line
      → Stands before detection ended [] printed before
      → Stands before detection (more ended line) [] (printed ++ text) after

  -- the line that has begun ended with these bytes and was answered by the text
  abbrev pub EndsLine : Console T O tm om → Console T O tm om → List ℕ → List ℕ → Type 0
  EndsLine before after bytes text =
      (detection : Detection) (ended : Lines) (rest printed : List ℕ)
      → Stands before detection ended rest printed before
      → Stands before detection (more ended (rest ++ bytes)) [] (printed ++ text) after

  -- the console has read the bytes too, and printed the text for them
  abbrev pub Reads : Console T O tm om → Console T O tm om → List ℕ → List ℕ → Type 0
  Reads before after bytes text =
      AfterInput before (λ detection input printed.
      StandsAfter before detection (input ++ bytes) (printed ++ text) after)

  -- the console has read a whole piece, and put what it printed for it behind what was there
  abbrev pub ReadsAll : Console T O tm om
      → Console T O tm om → List ℕ → List ℕ → List ℕ → Type 0
  ReadsAll before after piece was out =
      (text : List ℕ) × (out ≡ was ++ text) × Reads before after piece text

  -- the console has read the first bytes of a piece, and all that it printed for them stands
  -- behind what was there but the last answer, which is lost
  pub record LosesAnswer (before after : Console T O tm om)
      (piece was out : List ℕ) : Type 0 where
    pub bytes : List ℕ
    pub rest : List ℕ
    pub text : List ℕ
    pub lost : List ℕ
    pub front : piece ≡ bytes ++ rest
    pub put : out ≡ was ++ text
    pub read : Reads before after bytes (text ++ lost)

  -- with the bytes the input has ended, and with the text, what the console has printed is its
  -- transcript
  abbrev pub Finishes : Console T O tm om → Console T O tm om → List ℕ → List ℕ → Type 0
  Finishes before after bytes text =
      AfterInput before (λ detection input printed.
      StandsAtEnd before detection (input ++ bytes) (printed ++ text) after)

  -- the line that had begun, if there was one, was answered by the text, and no line has begun
  abbrev pub EndsLines : Console T O tm om → Console T O tm om → List ℕ → Type 0
  EndsLines before after text =
      (detection : Detection) (ended : Lines) (rest printed : List ℕ)
      → Stands before detection ended rest printed before
      → Stands before detection (with_rest ended rest) [] (printed ++ text) after

  -- whether the console has answered the last line that is read, whatever it has read
  abbrev pub TellsStop : Console T O tm om → Bool → Type 0
  TellsStop c stopped =
      (detection : Detection) (ended : Lines) (rest text : List ℕ)
      → Stands c detection ended rest text c → stopped ≡ nat_le LAST_LINE (count ended)

  -- below, `had` are the bytes that a reader had, where they are known

  -- the first bytes that the reader had are read, and the text was printed for them
  pub record ReadsFirst (before after : Console T O tm om)
      (had : Option (List ℕ)) (text : List ℕ) : Type 0 where
    pub bytes : List ℕ
    pub first : IfSome had (λ all. (rest : List ℕ) × (all ≡ bytes ++ rest))
    pub read : Reads before after bytes text

  -- all bytes that the reader had are answered to their end, by the text
  pub record AnswersAll (before after : Console T O tm om)
      (had : Option (List ℕ)) (text : List ℕ) : Type 0 where
    pub bytes : List ℕ
    pub whole : IfSome had (λ all. all ≡ bytes)
    pub finished : Finishes before after bytes text

  -- here `was` and `is` are the bytes that a writer held before and holds after
  module _ (before after : Console T O tm om) (had was is : Option (List ℕ)) where
    -- all bytes that the reader had are answered, and what was printed for them was written
    pub record Serves : Type 0 where
      pub text : List ℕ
      pub written : Appends was is text
      pub answered : AnswersAll before after had text

    -- an error came: what was printed for the first bytes that the reader had, or for all of them,
    -- was written but for its end, which is lost
    pub record BreaksOff : Type 0 where
      pub text : List ℕ
      pub lost : List ℕ
      pub written : Appends was is text
      pub answered :
          ReadsFirst before after had (text ++ lost) ⊎ AnswersAll before after had (text ++ lost)
