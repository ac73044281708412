-- A line is read in one way.
use Rattle.std.proofs.Common.{◌≡◌, ℕ, zero, suc, ◌<◌, ◌≤◌, cond, eqb, List, [], ◌∷◌, ◌++◌, length, get_or, take, Ok, Err, sym, refl, ap, ◌∙◌, subst, arith}
use Rattle.std.specs.Str.Parse.{AllDigits, digits_value}
use Rattle.model.specs.declared.call.Call.{Call}
use Rattle.model.specs.declared.call.Call.TheVariants.{Open, Claim, Close, Withdraw, Acknowledge, Sweep}
use Rattle.protocol.specs.declared.fault.Fault.TheVariants.{WrongForm}
use Rattle.protocol.specs.Fields.{DigitFirst}
use Rattle.protocol.specs.Form.{Fields, numbers, IsCorrect, GoesOn, FirstWrong}
use Rattle.protocol.specs.Reading.{HasLetter, too_long, no_letter, wrong_form, correct}
use Rattle.protocol.specs.Theorems.{ReadingUnique}
use Rattle.std.proofs.lemmas.List.{take-take}
use Rattle.protocol.proofs.Agreeing.{Agree}
use Rattle.protocol.proofs.Letters.{byte, one_byte, as_many, fields_behind}
use Rattle.protocol.proofs.Sticking.{fields_no_digit}

-- texts that have more first places in common have fewer
agree_fewer : (m n : ℕ) (xs ys : List ℕ) → m ≤ n → Agree n xs ys → Agree m xs ys
agree_fewer m n xs ys h a = sym (take-take m n xs h) ∙ (ap (take m) a ∙ take-take m n ys h)

-- where a line goes on, it went on before
goes_fewer : (m n : ℕ) (line : List ℕ) → m ≤ n → GoesOn n line → GoesOn m line
goes_fewer m n line h (c, other, is, a) = (c, other, is, agree_fewer m n line other h a)

-- a place before another is not the first wrong one, if that is
no_earlier : (m n : ℕ) (line : List ℕ) → m < n → FirstWrong m line → FirstWrong n line → ⊥
no_earlier zero n line h a b = a
no_earlier (suc m) zero line h a b = b
no_earlier (suc m) (suc n) line h a b = a.1 (goes_fewer (suc m) n line (omega (arith, h)) b.0)

-- there is one first wrong place
one_place : (m n : ℕ) (line : List ℕ) → FirstWrong m line → FirstWrong n line → m ≡ n
one_place m n line a b =
    let below : m < n → ⊥ = λ h. no_earlier m n line h a b in
    let above : n < m → ⊥ = λ h. no_earlier n m line h b a in
    omega (arith, below, above)

-- a correct line has no wrong place
none_wrong : (n : ℕ) (line : List ℕ) (c : Call) → IsCorrect line c → FirstWrong n line → ⊥
none_wrong zero line c is wrong = wrong
none_wrong (suc n) line c is wrong = wrong.1 (c, line, is, refl)

-- digits before texts that begin with none are the same, and so are the texts
same_digits : (ds es rest other : List ℕ) → AllDigits 10 ds → AllDigits 10 es → (DigitFirst rest → ⊥) → (DigitFirst other → ⊥) → ds ++ rest ≡ es ++ other → (ds ≡ es) × (rest ≡ other)
same_digits [] [] rest other a b p q e = (refl, e)
same_digits [] (y ∷ ys) rest other a b p q e = absurd (p (subst DigitFirst (sym e) b.0))
same_digits (x ∷ xs) [] rest other a b p q e = absurd (q (subst DigitFirst e a.0))
same_digits (x ∷ xs) (y ∷ ys) rest other a b p q e =
    let same : x ≡ y = grind (arith, e) in
    let h : (xs ≡ ys) × (rest ≡ other) = same_digits xs ys rest other a.1 b.1 p q (grind (arith, e)) in
    (grind (arith, same, h.0), h.1)

-- fields write one list of numbers, if they are as many
one_list : (ns ms text : List ℕ) → length ns ≡ length ms → Fields ns text → Fields ms text → ns ≡ ms
one_list [] [] text e a b = refl
one_list [] (m ∷ ms) text e a b = absurd (let s : ⊥ = omega (arith, e) in s)
one_list (n ∷ ns) [] text e a b = absurd (let s : ⊥ = omega (arith, e) in s)
one_list (n ∷ ns) (m ∷ ms) text e (ds, rest, is, f, more) (es, other, are, k, others) =
    let texts : ds ++ rest ≡ es ++ other = (let same = sym is ∙ are in grind (arith, same)) in
    let h : (ds ≡ es) × (rest ≡ other) = same_digits ds es rest other f.digits k.digits (fields_no_digit ns rest more) (fields_no_digit ms other others) texts in
    let first : n ≡ m = f.writes ∙ (ap (digits_value 10) h.0 ∙ sym k.writes) in
    let tail : ns ≡ ms = one_list ns ms other (omega (arith, e)) (subst (λ (t : List ℕ). Fields ns t) h.1 more) others in
    ap (λ (x : ℕ). x ∷ ns) first ∙ ap (λ (xs : List ℕ). m ∷ xs) tail

-- the call of a letter and its numbers
abbrev spelled : ℕ → List ℕ → Call
spelled l ns =
    cond (eqb l 79) (Open (get_or ns 0 0) (get_or ns 1 0)) (cond (eqb l 67) (Claim (get_or ns 0 0) (get_or ns 1 0) (get_or ns 2 0))
    (cond (eqb l 69) (Close (get_or ns 0 0)) (cond (eqb l 87) (Withdraw (get_or ns 0 0)) (cond (eqb l 65) (Acknowledge (get_or ns 0 0)) Sweep))))

-- it is the call whose they are
spelled_back : (c : Call) → spelled (byte c) (numbers c) ≡ c
spelled_back (Open d w) = refl
spelled_back (Claim d s m) = refl
spelled_back (Close d) = refl
spelled_back (Withdraw d) = refl
spelled_back (Acknowledge d) = refl
spelled_back Sweep = refl

-- so a call is known by its letter and its numbers
one_call : (c d : Call) → byte c ≡ byte d → numbers c ≡ numbers d → c ≡ d
one_call c d l n =
    sym (spelled_back c) ∙ (ap (λ (x : ℕ). spelled x (numbers c)) l ∙ (ap (λ (ns : List ℕ). spelled (byte d) ns) n ∙ spelled_back d))

-- a correct line writes one call
one_correct : (line : List ℕ) (c d : Call) → IsCorrect line c → IsCorrect line d → c ≡ d
one_correct line c d (text, is, fields) (other, are, others) =
    let lines : byte c ∷ text ≡ byte d ∷ other = ap (λ (xs : List ℕ). xs ++ text) (sym (one_byte c)) ∙ (sym is ∙ (are ∙ ap (λ (xs : List ℕ). xs ++ other) (one_byte d))) in
    let letters : byte c ≡ byte d = grind (arith, lines) in
    let texts : text ≡ other = grind (arith, lines) in
    let long : length (numbers c) ≡ length (numbers d) = as_many c ∙ (ap fields_behind letters ∙ sym (as_many d)) in
    one_call c d letters (one_list (numbers c) (numbers d) other long (subst (λ (t : List ℕ). Fields (numbers c) t) texts fields) others)

-- a correct line has its letter
has_letter : (line : List ℕ) (c : Call) → IsCorrect line c → HasLetter line
has_letter line c (text, is, _) = (c, text, is)

-- too long and not too long
long_and_short : (line : List ℕ) → 32 < length line → length line ≤ 32 → ⊥
long_and_short line a b = omega (arith, a, b)

pub reading_unique : ReadingUnique
reading_unique line _ _ (too_long a) (too_long b) = refl
reading_unique line _ _ (too_long a) (no_letter b _) = absurd (long_and_short line a b)
reading_unique line _ _ (too_long a) (wrong_form b _ _ _) = absurd (long_and_short line a b)
reading_unique line _ _ (too_long a) (correct b _ _) = absurd (long_and_short line a b)
reading_unique line _ _ (no_letter a _) (too_long b) = absurd (long_and_short line b a)
reading_unique line _ _ (no_letter _ _) (no_letter _ _) = refl
reading_unique line _ _ (no_letter _ none) (wrong_form _ some _ _) = absurd (none some)
reading_unique line _ _ (no_letter _ none) (correct _ c is) = absurd (none (has_letter line c is))
reading_unique line _ _ (wrong_form a _ _ _) (too_long b) = absurd (long_and_short line b a)
reading_unique line _ _ (wrong_form _ some _ _) (no_letter _ none) = absurd (none some)
reading_unique line _ _ (wrong_form _ _ m a) (wrong_form _ _ n b) = ap (λ (p : ℕ). Err (WrongForm p)) (one_place m n line a b)
reading_unique line _ _ (wrong_form _ _ n wrong) (correct _ c is) = absurd (none_wrong n line c is wrong)
reading_unique line _ _ (correct a _ _) (too_long b) = absurd (long_and_short line b a)
reading_unique line _ _ (correct _ c is) (no_letter _ none) = absurd (none (has_letter line c is))
reading_unique line _ _ (correct _ c is) (wrong_form _ _ n wrong) = absurd (none_wrong n line c is wrong)
reading_unique line _ _ (correct _ c a) (correct _ d b) = ap (λ (x : Call). Ok x) (one_correct line c d a b)
