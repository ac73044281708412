-- Texts that have the same first places.
use Rattle.std.proofs.Common.{◌≡◌, ℕ, zero, suc, ◌+◌, ◌<◌, List, [], ◌∷◌, ◌++◌, length, get_or, take, sym, refl, ap, subst, arith}
use Rattle.std.specs.Str.Parse.{AllDigits}
use Rattle.std.specs.Char.{digit_value}
use Rattle.protocol.specs.Fields.{DigitFirst}

-- the texts have the same first places
abbrev pub Agree : ℕ → List ℕ → List ℕ → Type 0
Agree n xs ys = take n xs ≡ take n ys

-- the same byte in front of both
pub agree_more : (n x : ℕ) (xs ys : List ℕ) → Agree n xs ys → Agree (suc n) (x ∷ xs) (x ∷ ys)
agree_more n x xs ys h = ap (λ (t : List ℕ). x ∷ t) h

-- texts that agree in a place begin with the same byte, or both are at their end
pub agree_first : (n x y : ℕ) (xs ys : List ℕ) → Agree (suc n) (x ∷ xs) (y ∷ ys) → (x ≡ y) × Agree n xs ys
agree_first n x y xs ys h = (cc, cc)

-- a text at its end has no first place
pub agree_end : (n x : ℕ) (xs : List ℕ) → Agree (suc n) (x ∷ xs) [] → ⊥
agree_end n x xs h = cc

-- the same text in front of both
pub agree_append : (xs ys zs : List ℕ) (p q : ℕ) → q ≡ length xs + p → Agree p ys zs → Agree q (xs ++ ys) (xs ++ zs)
agree_append [] ys zs p q e h = subst (λ (n : ℕ). Agree n ys zs) (let s : p ≡ q = omega arith in s) h
agree_append (x ∷ xs) ys zs p zero e h = refl
agree_append (x ∷ xs) ys zs p (suc q) e h = agree_more q x (xs ++ ys) (xs ++ zs) (agree_append xs ys zs p q (omega arith) h)

-- texts that agree in a place begin with the same byte
pub same_first : (p x : ℕ) (xs ys : List ℕ) → Agree (suc p) ys (x ∷ xs) → get_or ys 0 0 ≡ x
same_first p x xs [] h = absurd (agree_end p x xs (sym h))
same_first p x xs (y ∷ ys) h = (agree_first p y x ys xs h).0

-- digits that agree up to behind the first, where neither text has more of them, are the same; so the rests agree
pub digits_agree : (ds es rest other : List ℕ) (p q : ℕ) → q ≡ length ds + suc p → AllDigits 10 ds → AllDigits 10 es → ¬ DigitFirst other → ((x : ℕ) (xs : List ℕ) → es ≡ ds ++ (x ∷ xs) → ¬ DigitFirst rest) → Agree q (ds ++ rest) (es ++ other) → Agree (suc p) rest other
digits_agree [] [] rest other p q e _ _ _ _ h = subst (λ (n : ℕ). Agree n rest other) (let s : q ≡ suc p = omega arith in s) h
digits_agree [] (x ∷ xs) rest other p q e _ is_digits _ longer h =
    let there : Agree (suc p) rest (x ∷ (xs ++ other)) = subst (λ (n : ℕ). Agree n rest (x ∷ (xs ++ other))) (let s : q ≡ suc p = omega arith in s) h in
    let same = same_first p x (xs ++ other) rest there in
    absurd (longer x xs refl (subst (λ (c : ℕ). digit_value c < 10) (sym same) is_digits.0))
digits_agree (d ∷ ds) [] rest other p zero e is_digits _ ends _ h = absurd (let s : ⊥ = omega arith in s)
digits_agree (d ∷ ds) [] rest [] p (suc q) e is_digits _ ends _ h = absurd (agree_end q d (ds ++ rest) h)
digits_agree (d ∷ ds) [] rest (y ∷ ys) p (suc q) e is_digits _ ends _ h = absurd (ends (subst (λ (c : ℕ). digit_value c < 10) (agree_first q d y (ds ++ rest) ys h).0 is_digits.0))
digits_agree (d ∷ ds) (x ∷ xs) rest other p zero e _ _ _ _ h = absurd (let s : ⊥ = omega arith in s)
digits_agree (d ∷ ds) (x ∷ xs) rest other p (suc q) e is_digits are_digits ends longer h =
    let there = agree_first q d x (ds ++ rest) (xs ++ other) h in
    digits_agree ds xs rest other p q (omega arith) is_digits.1 are_digits.1 ends (λ y ys same. longer y ys (cc (there.0, same))) there.1
