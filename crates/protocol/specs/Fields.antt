-- The fields of a line, as the reader takes them one by one.
use Rattle.std.specs.Prelude.{◌≡◌, ℕ, suc, ◌+◌, ◌<◌, ◌≤◌, if◌then◌else◌, List, ◌++◌, length, take, drop, codes, ◌==◌, slice_index, MatchResult, Result}
use Rattle.std.specs.Str.Parse.{AllDigits}
use Rattle.std.specs.Char.{digit_value}
use Rattle.protocol.specs.Form.{Field, Fields}
use Rattle.protocol.specs.declared.fault.Fault.{Fault}
use Rattle.protocol.specs.declared.fault.Fault.TheVariants.{WrongForm}

-- a digit stands first
abbrev pub DigitFirst : List ℕ → Type 0
DigitFirst text = digit_value (slice_index text 0) < 10

-- the most digits of a field that begins with this text: a leading 0 stands alone
abbrev pub most_digits : List ℕ → ℕ
most_digits text = if slice_index text 0 == 48 then 1 else 6

-- the text begins with so many digits, and a field has no more of them
pub record Counts (text : List ℕ) (count : ℕ) : Type 0 where
  pub inside : count ≤ length text
  pub few : count ≤ most_digits text
  pub digits : AllDigits 10 (take count text)
  pub complete : DigitFirst (drop count text) → count ≡ most_digits text

-- no field goes on behind these digits: no digit follows, or they are as many as a field has
abbrev pub IsComplete : List ℕ → List ℕ → Type 0
IsComplete digits rest = DigitFirst rest → length digits ≡ most_digits digits

-- the text begins with the digits of a field, which write the number; the rest stands at a place
pub record Takes (text : List ℕ) (place number : ℕ) (rest : List ℕ) (after : ℕ) : Type 0 where
  pub digits : List ℕ
  pub splits : text ≡ digits ++ rest
  pub field : Field number digits
  pub complete : IsComplete digits rest
  pub further : after ≡ place + length digits

-- the text begins with a space and such digits
abbrev pub TakesField : List ℕ → ℕ → ℕ → List ℕ → ℕ → Type 0
TakesField text place number rest after =
    (from : List ℕ) × (text ≡ codes " " ++ from) × Takes from (place + 1) number rest after

-- some text of so many fields has the same first places as this one
abbrev pub Goes : ℕ → ℕ → List ℕ → Type 0
Goes count places text =
    (ns : List ℕ) × (other : List ℕ)
    × (length ns ≡ count) × Fields ns other × (take places text ≡ take places other)

-- read as so many fields, the text first goes wrong behind these places
abbrev pub IsStuck : ℕ → ℕ → List ℕ → Type 0
IsStuck count places text = Goes count places text × ¬ Goes count (suc places) text

-- the text begins with no field: the fault is where it goes wrong, however many fields are read
abbrev pub NoField : List ℕ → ℕ → Fault → Type 0
NoField text place fault =
    (before : ℕ) × (fault ≡ WrongForm (place + before))
    × ((count : ℕ) → IsStuck (suc count) before text)

-- the text is not so many fields: the fault is where it goes wrong, if it stands at place 2
abbrev pub WrongFields : ℕ → List ℕ → Fault → Type 0
WrongFields count text fault =
    (before : ℕ) × (fault ≡ WrongForm (2 + before)) × IsStuck count before text

-- a number was taken from the front of the text, where the fault is wrong form if no digit stands
abbrev pub TakesNumber : List ℕ → ℕ → Result ℕ Fault → List ℕ → ℕ → Type 0
TakesNumber text place r rest after =
    MatchResult r
    (λ n. Takes text place n rest after)
    (λ e. (e ≡ WrongForm place) × ¬ DigitFirst text)

-- a field was taken from the front of the text, or none begins there
abbrev pub TakesOneField : List ℕ → ℕ → Result ℕ Fault → List ℕ → ℕ → Type 0
TakesOneField text place r rest after =
    MatchResult r
    (λ n. TakesField text place n rest after)
    (λ e. NoField text place e)

-- the text was read as so many fields, or is none of them
abbrev pub ReadsFields : ℕ → List ℕ → Result (List ℕ) Fault → Type 0
ReadsFields count text r =
    MatchResult r
    (λ ns. (length ns ≡ count) × Fields ns text)
    (λ e. WrongFields count text e)
