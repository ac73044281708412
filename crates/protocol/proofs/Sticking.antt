-- Where a text, read as fields, goes wrong.
use Rattle.std.proofs.Common.{◌≡◌, ℕ, zero, suc, ◌+◌, ◌<◌, ◌≤◌, List, [], ◌∷◌, ◌++◌, length, get_or, sym, refl, ap, ◌∙◌, subst, inl, arith}
use Rattle.std.specs.Char.{digit_value}
use Rattle.std.proofs.lemmas.List.{length-append}
use Rattle.std.proofs.lemmas.Bool.Decides.{nat_tests}
use Rattle.protocol.specs.Fields.{DigitFirst, IsComplete, Goes, IsStuck}
use Rattle.protocol.specs.Form.{Field, Fields}
use Rattle.protocol.proofs.Digit.{no_digit, no_digit_end, zero_field}
use Rattle.protocol.proofs.Agreeing.{Agree, agree_more, agree_first, agree_end, agree_append, same_first, digits_agree}

-- a field in front of fields
pub one_more : {n : ℕ} {digits : List ℕ} (ns rest : List ℕ) → Field n digits → Fields ns rest → Fields (n ∷ ns) (32 ∷ (digits ++ rest))
one_more {n} {digits} ns rest f h = (digits, rest, refl, f, h)

-- there are fields, as many as one likes
some_fields : (count : ℕ) → Goes count 0 []
some_fields zero = ([], [], refl, refl, refl)
some_fields (suc count) = let f = some_fields count in (0 ∷ f.0, 32 ∷ 48 ∷ f.1, ap suc f.2, one_more f.0 f.1 zero_field f.3, refl)

-- no digit stands first where fields begin
pub fields_no_digit : (ns text : List ℕ) → Fields ns text → DigitFirst text → ⊥
fields_no_digit [] text h first = no_digit_end (subst DigitFirst h first)
fields_no_digit (n ∷ ns) text h first = no_digit 32 (inl (omega arith)) (subst DigitFirst h.2 first)

-- what agrees in one place with fields has a space there
goes_space : (count p : ℕ) (text : List ℕ) → Goes (suc count) (suc p) text → get_or text 0 0 ≡ 32
goes_space count p text ([], other, long, fields, same) = absurd (let s : ⊥ = omega arith in s)
goes_space count p text (n ∷ ns, other, long, fields, same) = same_first p 32 (fields.0 ++ fields.1) text (subst (λ (o : List ℕ). Agree (suc p) text o) fields.2 same)

-- a text that begins with no space goes wrong at once
pub stuck_space : (count : ℕ) (text : List ℕ) → (get_or text 0 0 ≡ 32 → ⊥) → IsStuck (suc count) 0 text
stuck_space count text none = let f = some_fields (suc count) in ((f.0, f.1, f.2, f.3, refl), λ h. none (goes_space count 0 text h))

-- a digit stands first in a field
field_digit : {n : ℕ} (digits rest : List ℕ) → Field n digits → DigitFirst (digits ++ rest)
field_digit [] rest f = absurd (let h = f.some in omega arith)
field_digit (d ∷ ds) rest f = f.digits.0

-- what agrees in two places with fields has a digit behind the space
goes_digit : (count p : ℕ) (text : List ℕ) → Goes (suc count) (suc (suc p)) (32 ∷ text) → DigitFirst text
goes_digit count p text ([], other, long, fields, same) = absurd (let s : ⊥ = omega arith in s)
goes_digit count p text (n ∷ ns, other, long, (digits, rest, is, field, more), same) =
    let there = (agree_first (suc p) 32 32 text (digits ++ rest) (subst (λ (o : List ℕ). Agree (suc (suc p)) (32 ∷ text) o) is same)).1 in
    by_first (digits ++ rest) (field_digit digits rest field) there
  where
    by_first : (ys : List ℕ) → DigitFirst ys → Agree (suc p) text ys → DigitFirst text
    by_first [] d a = absurd (no_digit_end d)
    by_first (y ∷ ys) d a = subst (λ (c : ℕ). digit_value c < 10) (sym (same_first p y ys text a)) d

-- a space with no digit behind it: the text goes wrong behind the space
pub stuck_digit : (count : ℕ) (text : List ℕ) → (DigitFirst text → ⊥) → IsStuck (suc count) 1 (32 ∷ text)
stuck_digit count text none =
    let f = some_fields count in
    ((0 ∷ f.0, 32 ∷ 48 ∷ f.1, ap suc f.2, one_more f.0 f.1 zero_field f.3, refl), λ h. none (goes_digit count 0 text h))

-- no field is longer than complete digits
not_longer : {n : ℕ} (digits rest others : List ℕ) (x : ℕ) (xs : List ℕ) → IsComplete digits rest → Field n others → others ≡ digits ++ (x ∷ xs) → DigitFirst rest → ⊥
not_longer [] rest others x xs complete f same first = let none = complete first in omega arith
not_longer (d ∷ ds) rest others x xs complete f same first =
    let size : length others ≡ length (d ∷ ds) + length (x ∷ xs) = ap length same ∙ length-append (d ∷ ds) (x ∷ xs) in
    let head = ap (λ (ts : List ℕ). get_or ts 0 0) same in
    let few = f.few in
    let one = f.no_leading_zero in
    let most = complete first in
    grind (arith, nat_tests, size, head, few, one, most)

-- what stands wrong in the rest stands wrong behind a field in front of it
pub stuck_more : {n : ℕ} (digits rest : List ℕ) (count p q : ℕ) → Field n digits → IsComplete digits rest → q ≡ 1 + length digits + p → IsStuck count p rest → IsStuck (suc count) q (32 ∷ (digits ++ rest))
stuck_more {n} digits rest count p zero f complete e h = absurd (let s : ⊥ = omega arith in s)
stuck_more {n} digits rest count p (suc q) f complete e ((ns, other, long, fields, same), stops) =
    ((n ∷ ns, 32 ∷ (digits ++ other), ap suc long, one_more ns other f fields, agree_more q 32 (digits ++ rest) (digits ++ other) (agree_append digits rest other p q (omega arith) same)), λ h. stops (back h))
  where
    back : Goes (suc count) (suc (suc q)) (32 ∷ (digits ++ rest)) → Goes count (suc p) rest
    back ([], other, long, fields, same) = absurd (let s : ⊥ = omega arith in s)
    back (m ∷ ms, other, long, (ds, others, is, field, more), same) =
        let there = (agree_first (suc q) 32 32 (digits ++ rest) (ds ++ others) (subst (λ (o : List ℕ). Agree (suc (suc q)) (32 ∷ (digits ++ rest)) o) is same)).1 in
        (ms, others, omega arith, more, digits_agree digits ds rest others p (suc q) (omega arith) f.digits field.digits (fields_no_digit ms others more) (λ x xs. not_longer digits rest ds x xs complete field) there)

-- where no field is to come, a text that does not end goes wrong at once
pub stuck_end : (text : List ℕ) → 1 ≤ length text → IsStuck 0 0 text
stuck_end [] some = absurd (let s : ⊥ = omega arith in s)
stuck_end (x ∷ xs) some = (([], [], refl, refl, refl), stops)
  where
    stops : Goes 0 1 (x ∷ xs) → ⊥
    stops ([], other, long, fields, same) = agree_end 0 x xs (subst (λ (o : List ℕ). Agree 1 (x ∷ xs) o) fields same)
    stops (n ∷ ns, other, long, fields, same) = omega arith
