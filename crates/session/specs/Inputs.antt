-- The lines of an input. Byte 10 ends a line; the last may lack it, and nothing after the last
-- byte 10 is no line.
use Rattle.std.specs.Prelude.{◌≡◌, ℕ, suc, false, if◌then◌else◌, List, [], ◌∷◌, ◌++◌, ◌==◌}
use Rattle.model.specs.Search.{member}
-- the bytes of pieces, one behind another
pub use Rattle.std.specs.List.{concat as all_bytes}

-- lines in the order of their coming
pub data Lines : Type 0 where
  none : Lines
  more : Lines → List ℕ → Lines

-- how many lines there are
abbrev pub count : Lines → ℕ
count none = 0
count (more ls l) = suc (count ls)

-- the lines, with byte 10 behind each
abbrev pub joined_lines : Lines → List ℕ
joined_lines none = []
joined_lines (more ls l) = joined_lines ls ++ (l ++ 10 ∷ [])

-- no byte 10 is in it
abbrev pub IsUnbroken : List ℕ → Type 0
IsUnbroken bytes = member 10 bytes ≡ false

-- no byte 10 is in any of the lines
abbrev pub AreUnbroken : Lines → Type 0
AreUnbroken none = Unit {0}
AreUnbroken (more ls l) = AreUnbroken ls × IsUnbroken l

-- the input is lines that byte 10 has ended, and a rest
pub record Cut (input : List ℕ) (ended : Lines) (rest : List ℕ) : Type 0 where
  pub made : input ≡ joined_lines ended ++ rest
  pub lines_unbroken : AreUnbroken ended
  pub rest_unbroken : IsUnbroken rest

-- the rest is a line too, if it is not empty
abbrev pub with_rest : Lines → List ℕ → Lines
with_rest ls [] = ls
with_rest ls (b ∷ bs) = more ls (b ∷ bs)

-- how many bytes of a piece belong to the line that has begun: those up to byte 10, and byte 10
abbrev pub line_length : List ℕ → ℕ
line_length [] = 0
line_length (b ∷ bs) = if b == 10 then 1 else suc (line_length bs)
