-- How far the fields of a text have been read.
use Rattle.std.proofs.Common.{◌≡◌, ℕ, suc, ◌+◌, ◌-◌, ◌<◌, ◌≤◌, List, [], ◌∷◌, ◌++◌, length, get_or, take, drop, sym, refl, ap, ◌∙◌, subst, append_assoc, arith}
use Rattle.std.proofs.lemmas.List.{append-nil, length-append, nil_from_length}
use Rattle.std.proofs.lemmas.Slice.{first_rest}
use Rattle.protocol.specs.Fields.{DigitFirst, Takes, IsStuck, NoField, WrongFields}
use Rattle.protocol.specs.declared.fault.Fault.TheVariants.{WrongForm}
use Rattle.protocol.specs.Form.{Fields}
use Rattle.protocol.specs.declared.fault.Fault.{Fault}
use Rattle.protocol.proofs.Digit.{some_first}
use Rattle.protocol.proofs.Sticking.{one_more, stuck_space, stuck_digit, stuck_more, stuck_end}

-- a space stands first
pub space_first : (text : List ℕ) → get_or text 0 0 ≡ 32 → text ≡ 32 ∷ take (length text - 1) (drop 1 text)
space_first text is = first_rest text 0 (some_first text (omega arith)) ∙ ap (λ (c : ℕ). c ∷ take (length text - 1) (drop 1 text)) is

-- no field begins where no space stands
pub no_field_space : (text : List ℕ) (place : ℕ) (e : Fault) → e ≡ WrongForm place → (get_or text 0 0 ≡ 32 → ⊥) → NoField text place e
no_field_space text place e is none = (0, is ∙ ap (λ (n : ℕ). WrongForm n) (let s : place ≡ place + 0 = omega arith in s), λ count. stuck_space count text none)

-- no field begins where no digit stands behind the space
pub no_field_digit : (text from : List ℕ) (place : ℕ) (e : Fault) → text ≡ 32 ∷ from → e ≡ WrongForm (place + 1) → (DigitFirst from → ⊥) → NoField text place e
no_field_digit text from place e whole is none = (1, is, λ count. subst (λ (t : List ℕ). IsStuck (suc count) 1 t) (sym whole) (stuck_digit count from none))

-- the numbers are read from the front of the text, and the rest begins at a place
pub record Came (text numbers rest : List ℕ) (place : ℕ) : Type 0 where
  pub behind : 2 ≤ place
  pub sized : place + length rest ≡ 2 + length text
  pub reads : (ns : List ℕ) → Fields ns rest → Fields (numbers ++ ns) text
  pub sticks : (count p all q : ℕ) → all ≡ length numbers + count → 2 + q ≡ place + p → IsStuck count p rest → IsStuck all q text

-- at the start
pub came_start : (text : List ℕ) → Came text [] text 2
came_start text = record {
  behind = omega arith;
  sized = refl;
  reads = λ ns h. h;
  sticks = λ count p all q e f h. let a : count ≡ all = omega arith in let b : p ≡ q = omega arith in subst (λ (n : ℕ). IsStuck n q text) a (subst (λ (n : ℕ). IsStuck count n text) b h);
}

-- one field further
pub came_more : (text numbers rest from : List ℕ) (place number : ℕ) (behind : List ℕ) (after : ℕ) → Came text numbers rest place → rest ≡ 32 ∷ from → Takes from (place + 1) number behind after → Came text (numbers ++ (number ∷ [])) behind after
came_more text numbers rest from place number behind after came is taken =
    let whole : rest ≡ 32 ∷ (taken.digits ++ behind) = is ∙ ap (λ (t : List ℕ). 32 ∷ t) taken.splits in
    let size = ap length whole in
    let parts = length-append taken.digits behind in
    let far = taken.further in
    let more = length-append numbers (number ∷ []) in
    let so_far = came.sized in
    let low = came.behind in
    record {
      behind = omega arith;
      sized = omega arith;
      reads = λ ns h. subst (λ (ms : List ℕ). Fields ms text) (sym (append_assoc numbers (number ∷ []) ns)) (came.reads (number ∷ ns) (subst (λ (t : List ℕ). Fields (number ∷ ns) t) (sym whole) (one_more ns behind taken.field h)));
      sticks = λ count p all q e f h. came.sticks (suc count) (1 + length taken.digits + p) all q (omega arith) (omega arith) (subst (λ (t : List ℕ). IsStuck (suc count) (1 + length taken.digits + p) t) (sym whole) (stuck_more taken.digits behind count p (1 + length taken.digits + p) taken.field taken.complete refl h));
    }

-- no field begins where the rest begins, and more are to come
pub came_wrong : (text numbers rest : List ℕ) (place all : ℕ) (e : Fault) → Came text numbers rest place → length numbers < all → NoField rest place e → WrongFields all text e
came_wrong text numbers rest place all e came more (before, is, stuck) =
    let low = came.behind in
    let q = place + before - 2 in
    (q, is ∙ ap (λ (n : ℕ). WrongForm n) (let s : place + before ≡ 2 + q = omega arith in s), came.sticks (suc (all - length numbers - 1)) before all q (omega arith) (omega arith) (stuck (all - length numbers - 1)))

-- behind the last field the text goes on
pub came_end : (text numbers rest : List ℕ) (place all : ℕ) (e : Fault) → Came text numbers rest place → length numbers ≡ all → 1 ≤ length rest → e ≡ WrongForm place → WrongFields all text e
came_end text numbers rest place all e came long more is =
    let low = came.behind in
    let q = place - 2 in
    (q, is ∙ ap (λ (n : ℕ). WrongForm n) (let s : place ≡ 2 + q = omega arith in s), came.sticks 0 0 all q (omega arith) (omega arith) (stuck_end rest more))

-- behind the last field the text ends
pub came_whole : (text numbers rest : List ℕ) (place : ℕ) → Came text numbers rest place → length rest ≡ 0 → Fields numbers text
came_whole text numbers rest place came ends = subst (λ (ms : List ℕ). Fields ms text) (append-nil numbers) (came.reads [] (nil_from_length rest ends))
