-- An input that grows: by bytes of the line that has begun, and by the byte that ends it.
use Rattle.std.proofs.Common.{◌≡◌, ℕ, false, ◌||◌, eqb, List, [], ◌∷◌, ◌++◌, sym, refl, ap, ◌∙◌, append_assoc, append-nil, arith}
use Rattle.std.proofs.lemmas.Bool.Decides.{nat_tests}
use Rattle.model.specs.Search.{member}
use Rattle.model.proofs.Anys.{any_append}
use Rattle.session.specs.Inputs.{Lines, none, more, joined_lines, IsUnbroken, Cut}

-- nothing is no line and no rest
pub cut_nothing : Cut [] none []
cut_nothing = record { made = refl; lines_unbroken = tt; rest_unbroken = refl }

-- bytes without byte 10 join the rest
pub cut_more : (input : List ℕ) (ended : Lines) (rest bytes : List ℕ) → Cut input ended rest → IsUnbroken bytes → Cut (input ++ bytes) ended (rest ++ bytes)
cut_more input ended rest bytes c whole = record {
  made = ap (λ (xs : List ℕ). xs ++ bytes) c.made ∙ append_assoc (joined_lines ended) rest bytes;
  lines_unbroken = c.lines_unbroken;
  rest_unbroken = any_append (λ m. eqb m 10) rest bytes ∙ both;
}
  where
    both : (member 10 rest || member 10 bytes) ≡ false
    both = let p = c.rest_unbroken in grind (arith, nat_tests, p, whole)

-- byte 10 ends the line that the rest was
pub cut_end : (input : List ℕ) (ended : Lines) (rest : List ℕ) → Cut input ended rest → Cut (input ++ 10 ∷ []) (more ended rest) []
cut_end input ended rest c = record {
  made = ap (λ (xs : List ℕ). xs ++ 10 ∷ []) c.made ∙ (append_assoc (joined_lines ended) rest (10 ∷ []) ∙ sym (append-nil (joined_lines ended ++ (rest ++ 10 ∷ []))));
  lines_unbroken = (c.lines_unbroken, c.rest_unbroken);
  rest_unbroken = refl;
}
