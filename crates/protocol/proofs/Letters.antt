-- Letters, and how many fields stand behind each.
use Rattle.std.proofs.Common.{◌≡◌, ℕ, suc, ◌+◌, ◌<◌, ◌≤◌, cond, eqb, List, [], ◌∷◌, ◌++◌, length, get_or, Result, IsErrAnd, Ok, Err, sym, refl, ap, ◌∙◌, subst, arith}
use Rattle.std.proofs.lemmas.List.{nil_from_length}
use Rattle.std.proofs.lemmas.Result.{err_from_is_err_and}
use Rattle.model.specs.declared.call.Call.{Call}
use Rattle.model.specs.declared.call.Call.TheVariants.{Open, Claim, Close, Withdraw, Acknowledge, Sweep}
use Rattle.protocol.specs.declared.fault.Fault.TheVariants.{TooLong, NoLetter, WrongForm}
use Rattle.protocol.specs.Fields.{Goes, WrongFields}
use Rattle.protocol.specs.Form.{Fields, letter, numbers, IsCorrect, GoesOn}
use Rattle.protocol.specs.Reading.{HasLetter, Reading, too_long, no_letter, wrong_form, correct}
use Rattle.protocol.specs.declared.fault.Fault.{Fault}
use Rattle.protocol.proofs.Agreeing.{Agree, agree_more, agree_first}

-- how many fields stand behind a letter
abbrev pub fields_behind : ℕ → ℕ
fields_behind l = cond (eqb l 79) 2 (cond (eqb l 67) 3 (cond (eqb l 83) 0 1))

-- the byte that is the letter of a call
abbrev pub byte : Call → ℕ
byte c = get_or (letter c) 0 0

-- a letter is one byte
pub one_byte : (c : Call) → letter c ≡ byte c ∷ []
one_byte (Open d w) = refl
one_byte (Claim d s m) = refl
one_byte (Close d) = refl
one_byte (Withdraw d) = refl
one_byte (Acknowledge d) = refl
one_byte Sweep = refl

-- a call has as many numbers as its letter says
pub as_many : (c : Call) → length (numbers c) ≡ fields_behind (byte c)
as_many (Open d w) = refl
as_many (Claim d s m) = refl
as_many (Close d) = refl
as_many (Withdraw d) = refl
as_many (Acknowledge d) = refl
as_many Sweep = refl

-- the call of a letter: it has the letter, and the numbers that it is made of, as many as fields stand behind the letter
pub record Spells (l : ℕ) (call : List ℕ → Call) : Type 0 where
  pub starts : (ns : List ℕ) → byte (call ns) ≡ l
  pub has : (ns : List ℕ) → length ns ≡ fields_behind l → numbers (call ns) ≡ ns

-- a text with the letter of a call in front
letter_first : (l : ℕ) (text : List ℕ) (c : Call) → byte c ≡ l → l ∷ text ≡ letter c ++ text
letter_first l text c e = ap (λ (x : ℕ). x ∷ text) (sym e) ∙ ap (λ (xs : List ℕ). xs ++ text) (sym (one_byte c))

-- a line with the letter in front of the fields of a call
correct_line : (l : ℕ) (text : List ℕ) (c : Call) → byte c ≡ l → Fields (numbers c) text → IsCorrect (l ∷ text) c
correct_line l text c e h = (text, letter_first l text c e, h)

-- where fields go on, so does the line with its letter in front
line_goes : {l : ℕ} {call : List ℕ → Call} → Spells l call → (p : ℕ) (text : List ℕ) → Goes (fields_behind l) p text → GoesOn (suc p) (l ∷ text)
line_goes {l} {call} spells p text (ns, other, long, fields, same) =
    (call ns, l ∷ other, correct_line l other (call ns) (spells.starts ns) (subst (λ (ms : List ℕ). Fields ms other) (sym (spells.has ns long)) fields), agree_more p l text other same)

-- where a line goes on, so do its fields
fields_go : (l p : ℕ) (text : List ℕ) → GoesOn (suc p) (l ∷ text) → Goes (fields_behind l) p text
fields_go l p text (c, other, (rest, is, fields), same) =
    let whole : other ≡ byte c ∷ rest = is ∙ ap (λ (xs : List ℕ). xs ++ rest) (one_byte c) in
    let there = agree_first p l (byte c) text rest (subst (λ (o : List ℕ). Agree (suc p) (l ∷ text) o) whole same) in
    (numbers c, rest, as_many c ∙ ap fields_behind (sym there.0), fields, there.1)

-- fields that go wrong: the line is of wrong form, one place later
pub reads_wrong : {l : ℕ} {call : List ℕ → Call} → Spells l call → (m : ℕ) (text : List ℕ) (e : Fault) → m ≡ l → length text ≤ 31 → WrongFields (fields_behind l) text e → Reading (m ∷ text) (Err e)
reads_wrong {l} {call} spells m text e same short (p, is, (goes, stops)) =
    let place : suc (suc p) ≡ 2 + p = omega arith in
    subst (λ (x : ℕ). Reading (x ∷ text) (Err e)) (sym same) (subst (λ (f : Fault). Reading (l ∷ text) (Err f)) (ap (λ (n : ℕ). WrongForm n) place ∙ sym is)
    (wrong_form (omega arith) (call [], text, letter_first l text (call []) (spells.starts [])) (suc (suc p)) (line_goes spells p text goes, λ h. stops (fields_go l (suc p) text h))))

-- their fault passes up as it is
pub reads_passed : {l : ℕ} {call : List ℕ → Call} → Spells l call → (m : ℕ) (text : List ℕ) (r : Result Call Fault) (e : Fault) → m ≡ l → length text ≤ 31 → IsErrAnd r (λ f. f ≡ e) → WrongFields (fields_behind l) text e → Reading (m ∷ text) r
reads_passed spells m text r e same short passed wrong = let p = err_from_is_err_and r passed in rw (p.1, p.2) (reads_wrong spells m text e same short wrong)

-- as many fields as stand behind the letter are read as its call
pub reads_call : {l : ℕ} {call : List ℕ → Call} → Spells l call → (m : ℕ) (text ns : List ℕ) → m ≡ l → length text ≤ 31 → length ns ≡ fields_behind l → Fields ns text → Reading (m ∷ text) (Ok (call ns))
reads_call {l} {call} spells m text ns same short long fields =
    correct (omega arith) (call ns) (correct_line m text (call ns) (spells.starts ns ∙ sym same) (subst (λ (ms : List ℕ). Fields ms text) (sym (spells.has ns long)) fields))

-- a list of one number
one_number : (ns : List ℕ) → length ns ≡ 1 → get_or ns 0 0 ∷ [] ≡ ns
one_number [] e = absurd (let s : ⊥ = omega arith in s)
one_number (n ∷ ns) e = ap (λ (ms : List ℕ). n ∷ ms) (sym (nil_from_length ns (omega arith)))

-- a list of two numbers
two_numbers : (ns : List ℕ) → length ns ≡ 2 → get_or ns 0 0 ∷ get_or ns 1 0 ∷ [] ≡ ns
two_numbers [] e = absurd (let s : ⊥ = omega arith in s)
two_numbers (n ∷ ns) e = ap (λ (ms : List ℕ). n ∷ ms) (one_number ns (omega arith))

-- a list of three numbers
three_numbers : (ns : List ℕ) → length ns ≡ 3 → get_or ns 0 0 ∷ get_or ns 1 0 ∷ get_or ns 2 0 ∷ [] ≡ ns
three_numbers [] e = absurd (let s : ⊥ = omega arith in s)
three_numbers (n ∷ ns) e = ap (λ (ms : List ℕ). n ∷ ms) (two_numbers ns (omega arith))

-- the letter O
pub spells_open : Spells 79 (λ ns. Open (get_or ns 0 0) (get_or ns 1 0))
spells_open = record { starts = λ ns. refl; has = two_numbers }

-- the letter C
pub spells_claim : Spells 67 (λ ns. Claim (get_or ns 0 0) (get_or ns 1 0) (get_or ns 2 0))
spells_claim = record { starts = λ ns. refl; has = three_numbers }

-- the letter E
pub spells_close : Spells 69 (λ ns. Close (get_or ns 0 0))
spells_close = record { starts = λ ns. refl; has = one_number }

-- the letter W
pub spells_withdraw : Spells 87 (λ ns. Withdraw (get_or ns 0 0))
spells_withdraw = record { starts = λ ns. refl; has = one_number }

-- the letter A
pub spells_acknowledge : Spells 65 (λ ns. Acknowledge (get_or ns 0 0))
spells_acknowledge = record { starts = λ ns. refl; has = one_number }

-- the letter S
pub spells_sweep : Spells 83 (λ ns. Sweep)
spells_sweep = record { starts = λ ns. refl; has = λ ns e. sym (nil_from_length ns e) }

-- a line that is too long
pub reads_long : (line : List ℕ) (e : Fault) → e ≡ TooLong → 32 < length line → Reading line (Err e)
reads_long line e is long = rw is (too_long long)

-- no letter stands first in an empty line
pub reads_empty : (line : List ℕ) (e : Fault) → e ≡ NoLetter → length line ≡ 0 → Reading line (Err e)
reads_empty [] e is none = rw is (no_letter (omega arith) nothing_first)
  where
    nothing_first : HasLetter [] → ⊥
    nothing_first (c, rest, is) = let size = ap length (is ∙ ap (λ (xs : List ℕ). xs ++ rest) (one_byte c)) in omega arith
reads_empty (x ∷ xs) e is none = absurd (let s : ⊥ = omega arith in s)

-- another byte is no letter
pub reads_other : (l : ℕ) (text : List ℕ) (e : Fault) → e ≡ NoLetter → length text ≤ 31 → (l ≡ 79 → ⊥) → (l ≡ 67 → ⊥) → (l ≡ 69 → ⊥) → (l ≡ 87 → ⊥) → (l ≡ 65 → ⊥) → (l ≡ 83 → ⊥) → Reading (l ∷ text) (Err e)
reads_other l text e is short not_o not_c not_e not_w not_a not_s = rw is (no_letter (omega arith) none_first)
  where
    by_call : (call : Call) → l ≡ byte call → ⊥
    by_call (Open _ _) = not_o
    by_call (Claim _ _ _) = not_c
    by_call (Close _) = not_e
    by_call (Withdraw _) = not_w
    by_call (Acknowledge _) = not_a
    by_call Sweep = not_s

    none_first : HasLetter (l ∷ text) → ⊥
    none_first (call, rest, whole) = by_call call (ap (λ (xs : List ℕ). get_or xs 0 0) (whole ∙ ap (λ (xs : List ℕ). xs ++ rest) (one_byte call)))
