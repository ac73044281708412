-- The form of a line: a grammar. A line is the bytes before byte 10.
use Rattle.std.specs.Prelude.{◌≡◌, ℕ, zero, suc, ◌≤◌, List, [], ◌∷◌, ◌++◌, length, take, codes, slice_index_or}
use Rattle.std.specs.Str.Parse.{AllDigits, digits_value}
use Rattle.model.specs.declared.call.Call.{Call}
use Rattle.model.specs.declared.call.Call.TheVariants.{Open, Claim, Close, Withdraw, Acknowledge, Sweep}

-- a field: 1 to 6 digits without a leading zero, or 0; it writes a number
pub record Field (number : ℕ) (text : List ℕ) : Type 0 where
  pub digits : AllDigits 10 text
  pub some : 1 ≤ length text
  pub few : length text ≤ 6
  pub no_leading_zero : slice_index_or text 0 0 ≡ 48 → length text ≡ 1
  pub writes : number ≡ digits_value 10 text

-- fields that write the numbers, one space before each
abbrev pub Fields : List ℕ → List ℕ → Type 0
Fields [] text = text ≡ []
Fields (n ∷ ns) text =
    (digits : List ℕ) × (rest : List ℕ)
    × (text ≡ codes " " ++ (digits ++ rest)) × Field n digits × Fields ns rest

-- the letter of a call
abbrev pub letter : Call → List ℕ
letter (Open d weight) = codes "O"
letter (Claim d section mode) = codes "C"
letter (Close d) = codes "E"
letter (Withdraw d) = codes "W"
letter (Acknowledge d) = codes "A"
letter Sweep = codes "S"

-- the numbers of a call, in the order of the fields
abbrev pub numbers : Call → List ℕ
numbers (Open d weight) = d ∷ weight ∷ []
numbers (Claim d section mode) = d ∷ section ∷ mode ∷ []
numbers (Close d) = d ∷ []
numbers (Withdraw d) = d ∷ []
numbers (Acknowledge d) = d ∷ []
numbers Sweep = []

-- a correct line for a call: its letter and its fields
abbrev pub IsCorrect : List ℕ → Call → Type 0
IsCorrect line c = (text : List ℕ) × (line ≡ letter c ++ text) × Fields (numbers c) text

-- some correct line has the same first places as this one; the end counts as a place
abbrev pub GoesOn : ℕ → List ℕ → Type 0
GoesOn places line =
    (c : Call) × (other : List ℕ) × IsCorrect other c × (take places line ≡ take places other)

-- the place is the first, from 1, where no correct line goes on
abbrev pub FirstWrong : ℕ → List ℕ → Type 0
FirstWrong zero line = ⊥
FirstWrong (suc before) line = GoesOn before line × ¬ GoesOn (suc before) line
