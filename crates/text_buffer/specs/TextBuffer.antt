-- The bytes that stand in a place for printed bytes.
use Rattle.std.specs.Prelude.{ℕ, ◌-◌, List, ◌++◌, length, take, replicate}
use Rattle.text_buffer.specs.declared.TheConstants.{ROOM}

-- all places: the bytes, and 0 after them
abbrev pub places : List ℕ → List ℕ
places bytes = bytes ++ replicate (ROOM - length bytes) 0

-- what stands in the place once bytes are put behind the others; what finds no room is dropped
unfoldable pub put_behind : List ℕ → List ℕ → List ℕ
put_behind before bytes = take ROOM (before ++ bytes)
