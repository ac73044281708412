-- An input is cut into lines in one way.
use Rattle.std.proofs.Common.{◌≡◌, ℕ, eqb, List, [], ◌∷◌, ◌++◌, sym, refl, ap, ◌∙◌, subst, append_assoc, arith}
use Rattle.std.proofs.lemmas.Bool.Decides.{nat_tests}
use Rattle.model.proofs.Anys.{any_append}
use Rattle.session.specs.Inputs.{Lines, none, more, joined_lines, IsUnbroken, AreUnbroken, Cut}

-- byte 10 is in what holds it
broken : (xs ys : List ℕ) → IsUnbroken (xs ++ 10 ∷ ys) → ⊥
broken xs ys whole = let e = any_append (λ m. eqb m 10) xs (10 ∷ ys) in grind (arith, nat_tests, e, whole)

-- the last byte 10 stands in one place
last_ten : (xs ys r s : List ℕ) → IsUnbroken r → IsUnbroken s → xs ++ 10 ∷ r ≡ ys ++ 10 ∷ s → (xs ≡ ys) × (r ≡ s)
last_ten [] [] r s p q e = (refl, grind (arith, e))
last_ten [] (y ∷ ys) r s p q e =
    let same : r ≡ ys ++ 10 ∷ s = grind (arith, e) in
    absurd (broken ys s (subst IsUnbroken same p))
last_ten (x ∷ xs) [] r s p q e =
    let same : s ≡ xs ++ 10 ∷ r = grind (arith, e) in
    absurd (broken xs r (subst IsUnbroken same q))
last_ten (x ∷ xs) (y ∷ ys) r s p q e =
    let h : (xs ≡ ys) × (r ≡ s) = last_ten xs ys r s p q (grind (arith, e)) in
    let same : x ≡ y = grind (arith, e) in
    (grind (arith, same, h.0), h.1)

-- the input after a line is the text before its byte 10, and the rest
opens : (ls : Lines) (l rest : List ℕ) → joined_lines (more ls l) ++ rest ≡ (joined_lines ls ++ l) ++ 10 ∷ rest
opens ls l rest = cc (append_assoc (joined_lines ls) (l ++ 10 ∷ []) rest, append_assoc l (10 ∷ []) rest, append_assoc (joined_lines ls) l (10 ∷ rest))

-- the lines and the rest
one_cut : (ls ms : Lines) (r s : List ℕ) → AreUnbroken ls → AreUnbroken ms → IsUnbroken r → IsUnbroken s → joined_lines ls ++ r ≡ joined_lines ms ++ s → (ls ≡ ms) × (r ≡ s)
one_cut none none r s a b p q e = (refl, e)
one_cut none (more ms m) r s a b p q e = absurd (broken (joined_lines ms ++ m) s (subst IsUnbroken (e ∙ opens ms m s) p))
one_cut (more ls l) none r s a b p q e = absurd (broken (joined_lines ls ++ l) r (subst IsUnbroken (sym e ∙ opens ls l r) q))
one_cut (more ls l) (more ms m) r s a b p q e =
    let h : (joined_lines ls ++ l ≡ joined_lines ms ++ m) × (r ≡ s) = last_ten (joined_lines ls ++ l) (joined_lines ms ++ m) r s p q (sym (opens ls l r) ∙ (e ∙ opens ms m s)) in
    let k : (ls ≡ ms) × (l ≡ m) = one_cut ls ms l m a.0 b.0 a.1 b.1 h.0 in
    (ap (λ (x : Lines). more x l) k.0 ∙ ap (λ (x : List ℕ). more ms x) k.1, h.1)

-- two cuts of an input are the same
pub cut_once : (input : List ℕ) (ls ms : Lines) (r s : List ℕ) → Cut input ls r → Cut input ms s → (ls ≡ ms) × (r ≡ s)
cut_once input ls ms r s c d =
    one_cut ls ms r s c.lines_unbroken d.lines_unbroken c.rest_unbroken d.rest_unbroken (sym c.made ∙ d.made)
