-- Digits at the front of a text.
use Rattle.std.proofs.Common.{◌≡◌, ℕ, zero, suc, ◌+◌, ◌-◌, ◌*◌, ◌<◌, ◌≤◌, cond, eqb, ◌⊎◌, true, false, min, List, [], ◌∷◌, ◌++◌, length, get_or, take, drop, sym, refl, ap, ◌∙◌, subst, inl, ⊎_elim, arith}
use Rattle.std.specs.Str.Parse.{AllDigits, digits_value}
use Rattle.std.specs.Char.{digit_value, is_ascii_digit}
use Rattle.std.proofs.lemmas.Bool.{cases_lt, false≢true}
use Rattle.std.proofs.lemmas.List.{get_or-drop, get_or-take, drop_all, length-take, length-take-le, take-append-drop, take_rest}
use Rattle.std.proofs.lemmas.Int.Digits.{digits_value_more}
use Rattle.std.proofs.lemmas.Str.{digit_value_digit}
use Rattle.std.proofs.lemmas.Str.Parse.{numerals_by_value, tells_digits, digits_value_short, digit_from_value}
use Rattle.std.proofs.lemmas.Bool.Decides.{nat_tests}
use Rattle.protocol.specs.Fields.{DigitFirst, most_digits, Counts, Takes}
use Rattle.protocol.specs.Form.{Field}

-- what is no digit has no value below ten
pub no_digit : (c : ℕ) → (c < 48) ⊎ (57 < c) → digit_value c < 10 → ⊥
no_digit c h less = grind (arith, nat_tests, h, less)

-- no digit stands first where the text ends
pub no_digit_end : DigitFirst [] → ⊥
no_digit_end h = no_digit 0 (inl (omega arith)) h

-- the field 0
pub zero_field : Field 0 (48 ∷ [])
zero_field = record { digits = (omega arith, tt); some = omega arith; few = omega arith; no_leading_zero = λ _. refl; writes = refl }

-- some of the digits
digits_take : (i : ℕ) (ds : List ℕ) → AllDigits 10 ds → AllDigits 10 (take i ds)
digits_take zero ds h = tt
digits_take (suc i) [] h = tt
digits_take (suc i) (d ∷ ds) h = (h.0, digits_take i ds h.1)

-- before the last of the digits of a field the number is small
pub value_small : (text : List ℕ) (i : ℕ) → AllDigits 10 (take i text) → i < most_digits text → digits_value 10 (take i text) < 100000
value_small text i h few = digits_value_short (numerals_by_value (AllDigits 10) tells_digits) (take i text) 5 h (let most : most_digits text ≤ 6 = grind (arith, nat_tests) in omega (arith, length-take i text))

-- what is a digit has a value below ten, and is in the range of digits
pub digit_range : (c : ℕ) → is_ascii_digit c ≡ true → (digit_value c < 10) × ((48 ≤ c) × (c ≤ 57))
digit_range c h = let low : 48 ≤ c = grind (arith, nat_tests, h) in let high : c ≤ 57 = grind (arith, nat_tests, h) in (let e = digit_value_digit c (low, high) in omega arith, (low, high))

-- one digit more
pub value_next : (text : List ℕ) (i : ℕ) → i < length text → is_ascii_digit (get_or text i 0) ≡ true → digits_value 10 (take (i + 1) text) ≡ digits_value 10 (take i text) * 10 + (get_or text i 0 - 48)
value_next text i inside h =
    let range = digit_range (get_or text i 0) h in
    let value = digit_value_digit (get_or text i 0) range.1 in
    omega (arith, digits_value_more 10 text i inside)

-- so all of them are digits
pub digits_next : (text : List ℕ) (i : ℕ) → AllDigits 10 (take i text) → i < length text → is_ascii_digit (get_or text i 0) ≡ true → AllDigits 10 (take (i + 1) text)
digits_next [] i h inside is = absurd (let s : ⊥ = omega arith in s)
digits_next (x ∷ xs) zero h inside is = ((digit_range x is).0, tt)
digits_next (x ∷ xs) (suc i) h inside is = subst (λ (n : ℕ). AllDigits 10 (take n (x ∷ xs))) (let e : suc (i + 1) ≡ suc i + 1 = omega arith in e) (h.0, digits_next xs i h.1 (omega arith) is)

-- what has a value below ten is a digit
pub is_digit : (c : ℕ) → digit_value c < 10 → is_ascii_digit c ≡ true
is_digit c h = let range = digit_from_value c h in grind (arith, nat_tests, range)

-- digits at the front of a text, behind which no digit stands
pub counts_stopped : (text : List ℕ) (count : ℕ) → AllDigits 10 (take count text) → count < min (most_digits text) (length text) → is_ascii_digit (get_or text count 0) ≡ false → Counts text count
counts_stopped text count h less other = record {
  inside = omega arith;
  few = omega arith;
  digits = h;
  complete = λ first. absurd (false≢true (sym other ∙ is_digit (get_or text count 0) (subst (λ (c : ℕ). digit_value c < 10) here first)));
}
  where
    here : get_or (drop count text) 0 0 ≡ get_or text count 0
    here = get_or-drop count text 0 0 ∙ ap (λ (i : ℕ). get_or text i 0) (let e : count + 0 ≡ count = omega arith in e)

-- as many digits as a field has, or all of the text
pub counts_all : (text : List ℕ) (count : ℕ) → AllDigits 10 (take count text) → count ≡ min (most_digits text) (length text) → Counts text count
counts_all text count h all = record {
  inside = omega arith;
  few = omega arith;
  digits = h;
  complete = λ first. ⊎_elim
      (λ (inside : count < length text). let e : count ≡ most_digits text = omega arith in e)
      (λ (past : length text ≤ count). absurd (no_digit_end (subst DigitFirst (drop_all count text past) first)))
      (cases_lt count (length text));
}

-- where none are counted, no digit stands first
pub none_counted : (text : List ℕ) → Counts text 0 → DigitFirst text → ⊥
none_counted text counts first = let none = counts.complete first in grind (arith, nat_tests, none)

-- a byte above 0 stands first, so there is one
pub some_first : (text : List ℕ) → 0 < get_or text 0 0 → 0 < length text
some_first [] h = absurd (let s : ⊥ = omega arith in s)
some_first (x ∷ xs) h = omega arith

-- digits that are counted, one or more, are a field
pub takes_digits : (text : List ℕ) (place count number : ℕ) → 0 < count → Counts text count → number ≡ digits_value 10 (take count text) → Takes text place number (take (length text - count) (drop count text)) (place + count)
takes_digits text place count number some counts is =
    let long = length-take-le count text counts.inside in
    let first = get_or-take count text 0 0 some in
    let few = counts.few in
    record {
      digits = take count text;
      splits = sym (take-append-drop count text) ∙ ap (λ (t : List ℕ). take count text ++ t) (sym (take_rest text count));
      field = record { digits = counts.digits; some = omega arith; few = grind (arith, nat_tests, long, few); no_leading_zero = λ h. grind (arith, nat_tests, long, few, first, some, h); writes = is };
      complete = λ h. long ∙ counts.complete (subst DigitFirst (take_rest text count) h) ∙ ap (λ (c : ℕ). cond (eqb c 48) 1 6) (sym first);
      further = ap (λ (n : ℕ). place + n) (sym long);
    }
