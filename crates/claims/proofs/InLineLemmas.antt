-- Claims in line.
use Rattle.std.proofs.Common.{ℕ, ◌<◌, cond, get_or, is_some, None, Option, replicate, ◌≡◌, suc, List, [], ◌∷◌, ◌++◌, length, refl, ap}
use Rattle.std.proofs.lemmas.List.{get_or-replicate}
use Rattle.model.specs.Claims.{in_line_behind}
use Rattle.model.specs.declared.state.Claim.{Claim}

-- there are as many places as claims
pub length-in_line_behind : (earlier cs : List Claim) → length (in_line_behind earlier cs) ≡ length cs
length-in_line_behind earlier [] = refl
length-in_line_behind earlier (c ∷ cs) = ap suc (length-in_line_behind (earlier ++ c ∷ []) cs)

-- no section for any dispatch
abbrev pub no_sections : List (Option ℕ)
no_sections = replicate 64 None

-- before the first claim no section is found
pub no_section_yet : (d : ℕ) (v : Option ℕ) → d < 64 → cond (is_some (get_or no_sections d None)) (get_or no_sections d None) v ≡ v
no_section_yet d v low = ap (λ (s : Option ℕ). cond (is_some s) s v) (get_or-replicate 64 d None None low)
