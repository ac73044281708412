-- How long printed lines are.
use Rattle.std.proofs.Common.{◌≡◌, ℕ, zero, suc, ◌+◌, ◌*◌, ◌^◌, ◌<◌, ◌≤◌, List, [], ◌∷◌, ◌++◌, length, get_or, take, drop, codes, decimal, sym, subst, arith, lit≤, length-append}
use Rattle.std.specs.declared.result.Result.TheVariants as result
use Rattle.std.proofs.lemmas.List.{get_or-drop}
use Rattle.std.proofs.lemmas.Fmt.{length-decimal-le}
use Rattle.model.specs.Calls.{answer_refused}
use Rattle.book.specs.declared.answer.Answer.{Answer}
use Rattle.book.specs.declared.answer.Answer.TheVariants.{Ok, Granted, Covered, Waits, Recalled}
use Rattle.protocol.specs.Words.{words, answer, fault, reply_to, printed_line, entry_words, entry_lines, entries}

-- a number of 8 bits has at most 3 digits
digits_3 : (n : ℕ) → n < 256 → length (decimal n) ≤ 3
digits_3 n h = length-decimal-le 3 n (omega arith) (omega arith) (omega arith)

-- the words of an answer
pub answer_short : (a : Answer) → length (words (reply_to (result.Ok a))) ≤ 16
answer_short Ok = lit≤ tt
answer_short Granted = lit≤ tt
answer_short Covered = lit≤ tt
answer_short Waits = lit≤ tt
answer_short Recalled = lit≤ tt

-- the words of a refusal
pub refused_short : (number : ℕ) → number < 256 → length (words (answer (answer_refused number))) ≤ 16
refused_short number h = omega (arith, length-append (codes "refused ") (decimal number), digits_3 number h)

-- the length of the words of a fault
fault_length : (x y : List ℕ) → length (codes "fault " ++ (x ++ (codes " at " ++ y))) ≡ 10 + (length x + length y)
fault_length x y = omega (arith, length-append x (codes " at " ++ y))

-- the words of a fault
pub fault_short : (number place : ℕ) → number < 256 → place < 256 → length (words (fault number place)) ≤ 16
fault_short number place h k = omega (arith, fault_length (decimal number) (decimal place), digits_3 number h, digits_3 place k)

-- the length of a line
line_length : (n ws : List ℕ) → length (n ++ (codes " " ++ (ws ++ 10 ∷ []))) ≡ length n + (length ws + 2)
line_length n ws = omega (arith, length-append n (codes " " ++ (ws ++ 10 ∷ [])), length-append ws (10 ∷ []))

-- a line with words of at most 16 bytes
pub line_short : (number : ℕ) (ws : List ℕ) → number < 2 ^ 32 → length ws ≤ 16 → length (printed_line number ws) ≤ 28
line_short number ws h k = omega (arith, line_length (decimal number) ws, length-decimal-le 10 number (omega arith) (omega arith) (omega arith))

-- the length of the words of one who is named
named_length : (word x y : List ℕ) → length (word ++ (codes " " ++ (x ++ (codes " " ++ y)))) ≡ length word + (length x + (length y + 2))
named_length word x y = omega (arith, length-append word (codes " " ++ (x ++ (codes " " ++ y))), length-append x (codes " " ++ y))

-- the words of one who is named
named_short : (word : List ℕ) (d s : ℕ) → length word ≤ 6 → d < 256 → s < 65536 → length (entry_words word (record { dispatch = d; section = s })) ≤ 16
named_short word d s h k m = omega (arith, named_length word (decimal d) (decimal s), digits_3 d k, length-decimal-le 5 s (omega arith) (omega arith) (omega arith))

-- all elements are below a limit
abbrev pub Below : ℕ → List ℕ → Type 0
Below limit xs = (i : ℕ) → get_or xs i 0 < limit

-- so are those of a front
pub below_take : (limit n : ℕ) (xs : List ℕ) → 0 < limit → Below limit xs → (i : ℕ) → get_or (take n xs) i 0 < limit
below_take limit zero xs some h i = some
below_take limit (suc n) [] some h i = some
below_take limit (suc n) (x ∷ xs) some h zero = h 0
below_take limit (suc n) (x ∷ xs) some h (suc i) = below_take limit n xs some (λ k. h (suc k)) i

-- so are those of a rest
pub below_drop : (limit n : ℕ) (xs : List ℕ) → Below limit xs → Below limit (drop n xs)
below_drop limit n xs h i = subst (λ (x : ℕ). x < limit) (sym (get_or-drop n xs i 0)) (h (n + i))

-- the lines of those who are named
pub lines_short : (number : ℕ) (word ds ss : List ℕ) → number < 2 ^ 32 → length word ≤ 6 → Below 256 ds → Below 65536 ss → length (entry_lines number word (entries ds ss)) ≤ 28 * length ds
lines_short number word [] ss h k below below' = omega arith
lines_short number word (d ∷ ds) [] h k below below' = omega arith
lines_short number word (d ∷ ds) (s ∷ ss) h k below below' =
    let ws = entry_words word (record { dispatch = d; section = s }) in
    let first = line_short number ws h (named_short word d s k (below 0) (below' 0)) in
    let others = lines_short number word ds ss h k (λ i. below (suc i)) (λ i. below' (suc i)) in
    let both = length-append (printed_line number ws) (entry_lines number word (entries ds ss)) in
    omega arith
