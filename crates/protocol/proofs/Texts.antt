-- The fields of a given text, by computation.
use Rattle.std.proofs.Common.{◌≡◌, ℕ, zero, suc, ◌+◌, ◌-◌, ◌<◌, ◌≤◌, cond, min, List, [], ◌∷◌, ◌++◌, length, get_or, take, drop, sym, refl, ap, ◌∙◌, subst, ⊎_elim, arith}
use Rattle.std.specs.List.{prefix_len}
use Rattle.std.specs.Char.{digit_value, is_ascii_digit}
use Rattle.std.specs.Str.Parse.{AllDigits, digits_value}
use Rattle.std.proofs.lemmas.Bool.{cases_lt, false≢true}
use Rattle.std.proofs.lemmas.Bool.Decides.{nat_tests}
use Rattle.std.proofs.lemmas.List.{get_or-drop, get_or_past}
use Rattle.std.proofs.lemmas.List.Sums.{prefix_len-le-length, prefix_len_stops}
use Rattle.protocol.specs.Fields.{most_digits, Counts}
use Rattle.protocol.specs.Form.{Fields}
use Rattle.protocol.proofs.Digit.{is_digit, no_digit_end, takes_digits}
use Rattle.protocol.proofs.Coming.{Came, came_start, came_more, came_whole}

-- digits at the front of a text
front_digits : (n : ℕ) (text : List ℕ) → n ≤ prefix_len is_ascii_digit text → AllDigits 10 (take n text)
front_digits zero text h = tt
front_digits (suc n) [] h = tt
front_digits (suc n) (x ∷ xs) h = (digit_below x (suc n) (prefix_len is_ascii_digit xs) (omega arith) h, front_digits n xs (fewer x n (prefix_len is_ascii_digit xs) h))
  where
    digit_below : (x m n : ℕ) → 0 < m → m ≤ cond (is_ascii_digit x) (1 + n) 0 → digit_value x < 10
    digit_below x m n some h = grind (arith, nat_tests, some, h)

    fewer : (x m n : ℕ) → suc m ≤ cond (is_ascii_digit x) (1 + n) 0 → m ≤ n
    fewer x m n h = grind (arith, nat_tests, h)

-- behind the digits at the front of a text stands no digit
none_behind : (text : List ℕ) → digit_value (get_or text (prefix_len is_ascii_digit text) 0) < 10 → ⊥
none_behind text h =
    let n = prefix_len is_ascii_digit text in
    ⊎_elim
    (λ inside. false≢true (sym (prefix_len_stops is_ascii_digit text 0 inside) ∙ is_digit (get_or text n 0) h))
    (λ past. no_digit_end (subst (λ (c : ℕ). digit_value c < 10) (get_or_past text n 0 past) h))
    (cases_lt n (length text))

-- the digits at the front of a text, up to the most
pub counted : (text : List ℕ) (count : ℕ) → count ≡ min (prefix_len is_ascii_digit text) (most_digits text) → Counts text count
counted text count is =
    let n = prefix_len is_ascii_digit text in
    let bound = prefix_len-le-length is_ascii_digit text in
    let here : get_or (drop count text) 0 0 ≡ get_or text count 0 = get_or-drop count text 0 0 ∙ ap (λ (i : ℕ). get_or text i 0) (let e : count + 0 ≡ count = omega arith in e) in
    let some_more : digit_value (get_or text count 0) < 10 → count < most_digits text → ⊥ = λ h less. none_behind text (subst (λ (i : ℕ). digit_value (get_or text i 0) < 10) (let e : count ≡ n = omega arith in e) h) in
    record {
      inside = omega arith;
      few = omega arith;
      digits = front_digits count text (omega arith);
      complete = λ h. let none = some_more (subst (λ (c : ℕ). digit_value c < 10) here h) in omega arith;
    }

-- how many digits a field has at the front of the text
abbrev pub size : List ℕ → ℕ
size text = min (prefix_len is_ascii_digit text) (most_digits text)

-- the number that they write
abbrev pub value : List ℕ → ℕ
value text = digits_value 10 (take (size text) text)

-- what stands behind them
abbrev pub behind : List ℕ → List ℕ
behind text = take (length text - size text) (drop (size text) text)

-- one field more is read
pub further : (text numbers from : List ℕ) (place : ℕ) → 0 < size from → Came text numbers (32 ∷ from) place → Came text (numbers ++ (value from ∷ [])) (behind from) (place + 1 + size from)
further text numbers from place some came =
    came_more text numbers (32 ∷ from) from place _ _ _ came refl (takes_digits from (place + 1) (size from) _ some (counted from (size from) refl) refl)

-- a first field is read
pub first : (from : List ℕ) → 0 < size from → Came (32 ∷ from) (value from ∷ []) (behind from) (2 + 1 + size from)
first from some = further (32 ∷ from) [] from 2 some (came_start (32 ∷ from))

-- a text of one field
pub one_field : (a : List ℕ) → 0 < size a → length (behind a) ≡ 0 → Fields (value a ∷ []) (32 ∷ a)
one_field a some ends = came_whole (32 ∷ a) _ _ _ (first a some) ends

-- two fields are read
pub second : (a b : List ℕ) → 0 < size a → behind a ≡ 32 ∷ b → 0 < size b → Came (32 ∷ a) (value a ∷ value b ∷ []) (behind b) (2 + 1 + size a + 1 + size b)
second a b some is more = further (32 ∷ a) (value a ∷ []) b (2 + 1 + size a) more (subst (λ (t : List ℕ). Came (32 ∷ a) (value a ∷ []) t (2 + 1 + size a)) is (first a some))

-- a text of two fields
pub two_fields : (a b : List ℕ) → 0 < size a → behind a ≡ 32 ∷ b → 0 < size b → length (behind b) ≡ 0 → Fields (value a ∷ value b ∷ []) (32 ∷ a)
two_fields a b some is more ends = came_whole (32 ∷ a) _ _ _ (second a b some is more) ends

-- a text of three fields
pub three_fields : (a b c : List ℕ) → 0 < size a → behind a ≡ 32 ∷ b → 0 < size b → behind b ≡ 32 ∷ c → 0 < size c → length (behind c) ≡ 0 → Fields (value a ∷ value b ∷ value c ∷ []) (32 ∷ a)
three_fields a b c some is more then last ends =
    came_whole (32 ∷ a) _ _ _
    (further (32 ∷ a) (value a ∷ value b ∷ []) c (2 + 1 + size a + 1 + size b) last
    (subst (λ (t : List ℕ). Came (32 ∷ a) (value a ∷ value b ∷ []) t (2 + 1 + size a + 1 + size b)) then (second a b some is more)))
    ends
