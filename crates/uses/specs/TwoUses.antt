-- The table of two uses: 0 look, 1 move.
use Rattle.std.specs.Prelude.{ℕ, Bool, not, ◌&&◌, ◌||◌, ◌==◌, List, codes}
use Rattle.uses.specs.Relations.{Relations}
use Rattle.uses.specs.declared.two_uses.Use.{Use}
use Rattle.uses.specs.declared.two_uses.Use.TheVariants.{Look, Move}

-- the code is that of a look
abbrev pub is_look : ℕ → Bool
is_look a = a == 0

-- the code is that of a move
abbrev pub is_move : ℕ → Bool
is_move a = a == 1

-- the code is one of the two
abbrev pub known : ℕ → Bool
known a = is_look a || is_move a

-- two looks are compatible, and nothing else is; a move covers both uses, a look only a look
abbrev pub two_uses : Relations
two_uses = record {
  known = known;
  conflict = λ a b. (known a && known b) && not (is_look a && is_look b);
  cover = λ a b. (is_move a && known b) || (is_look a && is_look b);
}

-- the code of a use
abbrev pub code_of : Use → ℕ
code_of Look = 0
code_of Move = 1

-- a use as it is printed
abbrev pub name_of : Use → List ℕ
name_of Look = codes "look"
name_of Move = codes "move"
