-- The table of five uses, the lock modes of multiple granularity: 0 IS, 1 IX, 2 S, 3 SIX, 4 X.
use Rattle.std.specs.Prelude.{◌≡◌, ℕ, Bool, true, not, ◌&&◌, ◌||◌, ◌↔◌, List, [], ◌∷◌, IsTrue, ◌==◌, codes}
use Rattle.std.specs.List.{list_any, list_all}
use Rattle.uses.specs.Relations.{Relations}
use Rattle.uses.specs.declared.five_uses.Use.{Use}
use Rattle.uses.specs.declared.five_uses.Use.TheVariants

-- the code of intention shared
abbrev pub IS : ℕ
IS = 0

-- the code of intention exclusive
abbrev pub IX : ℕ
IX = 1

-- the code of shared
abbrev pub S : ℕ
S = 2

-- the code of shared with intention exclusive
abbrev pub SIX : ℕ
SIX = 3

-- the code of exclusive
abbrev pub X : ℕ
X = 4

-- the codes of the table's uses
abbrev pub all_five : List ℕ
all_five = IS ∷ IX ∷ S ∷ SIX ∷ X ∷ []

-- the compatible pairs, each to be read in either order
abbrev pub compatible_pairs : List (ℕ × ℕ)
compatible_pairs = (IS, IS) ∷ (IS, IX) ∷ (IS, S) ∷ (IS, SIX) ∷ (IX, IX) ∷ (S, S) ∷ []

-- the code is one of the five
abbrev pub known : ℕ → Bool
known a = list_any (λ u. a == u) all_five

-- a with b, or b with a, is a compatible pair
abbrev pub compatible : ℕ → ℕ → Bool
compatible a b = list_any (λ p. (a == p.0 && b == p.1) || (b == p.0 && a == p.1)) compatible_pairs

-- known uses conflict unless they are compatible
abbrev pub conflict : ℕ → ℕ → Bool
conflict a b = (known a && known b) && not (compatible a b)

-- a known use covers another when it conflicts with each of the five that the other conflicts with
abbrev pub cover : ℕ → ℕ → Bool
cover a b = (known a && known b) && list_all (λ c. not (conflict c b) || conflict c a) all_five

-- the meaning of the table
abbrev pub five_uses : Relations
five_uses = record { known = known; conflict = conflict; cover = cover }

-- cover, with all codes in place of the list of the five
abbrev pub CoverIsDominance : Type 0
CoverIsDominance =
    (a b : ℕ) → known a ≡ true → known b ≡ true
    → (IsTrue (cover a b) ↔ ((c : ℕ) → conflict c b ≡ true → conflict c a ≡ true))

-- the code of a use
abbrev pub code_of : Use → ℕ
code_of TheVariants.IS = IS
code_of TheVariants.IX = IX
code_of TheVariants.S = S
code_of TheVariants.SIX = SIX
code_of TheVariants.X = X

-- a use as it is printed
abbrev pub name_of : Use → List ℕ
name_of TheVariants.IS = codes "IS"
name_of TheVariants.IX = codes "IX"
name_of TheVariants.S = codes "S"
name_of TheVariants.SIX = codes "SIX"
name_of TheVariants.X = codes "X"
