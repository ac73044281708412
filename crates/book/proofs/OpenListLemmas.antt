-- Looking through the open list.
use Rattle.std.proofs.Common.{◌≡◌, ℕ, Bool, true, ◌<◌, cond, get_or, not, ◌||◌, eqb, ltb, List, [], ◌∷◌, length, Some, None, Option, unwrap_or, refl, ap, arith}
use Rattle.std.specs.List.{position_or_len, find, list_all}
use Rattle.std.proofs.lemmas.Bool.{and_parts, ltb-true}
use Rattle.std.proofs.lemmas.Bool.Decides.{nat_tests}
use Rattle.std.proofs.lemmas.List.Sums.{prefix_len-le-length, AllPass-from_list_all}
use Rattle.model.specs.Invariant.{entry_in_range}
use Rattle.model.specs.Search.{any, member}
use Rattle.model.specs.State.{numbers}
use Rattle.model.specs.Recalling.{standing, weight}
use Rattle.model.specs.declared.state.OpenEntry.{OpenEntry}

-- the entry is the dispatch's
abbrev pub is_of : ℕ → OpenEntry → Bool
is_of d e = eqb e.dispatch d

-- an entry of the dispatch is found exactly where its number is listed
pub listed_is : (d : ℕ) (es : List OpenEntry) → any (is_of d) es ≡ member d (numbers es)
listed_is d [] = refl
listed_is d (e ∷ es) = ap (λ b. is_of d e || b) (listed_is d es)

-- its standing is its place
place_is : (d : ℕ) (es : List OpenEntry) → position_or_len (is_of d) es ≡ standing es d
place_is d [] = refl
place_is d (e ∷ es) = let rest = place_is d es in grind (arith, nat_tests, rest)

-- as `position` finds it, or the length
pub standing_is : (d : ℕ) (es : List OpenEntry) → unwrap_or (cond (ltb (position_or_len (is_of d) es) (length es)) (Some (position_or_len (is_of d) es)) None) (length es) ≡ standing es d
standing_is d es = let h = prefix_len-le-length (λ e. not (is_of d e)) es in let place = place_is d es in grind (arith, nat_tests, h, place)

-- the weight of the entry that was found
abbrev pub weight_found : Option OpenEntry → ℕ
weight_found None = 0
weight_found (Some e) = e.weight

-- the first entry of the dispatch has its weight
pub weight_is : (d : ℕ) (es : List OpenEntry) → weight_found (find (is_of d) es) ≡ weight es d
weight_is d [] = refl
weight_is d (e ∷ es) = let rest = weight_is d es in grind (arith, nat_tests, rest)

-- each open number is below 64
pub entry_below : (es : List OpenEntry) (i : ℕ) (x : OpenEntry) → i < length es → list_all entry_in_range es ≡ true → (get_or es i x).dispatch < 64
entry_below es i x h small =
    let here = AllPass-from_list_all entry_in_range es small i x h in
    ltb-true (get_or es i x).dispatch 64 (and_parts _ _ here).0
