use Rattle.std.proofs.Common.{◌≡◌, true, get_or, sym, ◌∙◌, arith}
use Rattle.std.specs.Char.{is_ascii_digit}
use Rattle.protocol.proofs.Digit.{value_small, value_next, digit_range, digits_next}
use Rattle.protocol.proofs.field.leading_number.Goals as goal

pub overflow_mul-number : goal.overflow_mul-number
overflow_mul-number c =
    let small = value_small c.args.text.now c.loop-count.count c.loop-count.invariant.0 (omega arith) in
    omega (arith, c.loop-count.invariant.1)

pub overflow_add-number : goal.overflow_add-number
overflow_add-number c =
    let small = value_small c.args.text.now c.loop-count.count c.loop-count.invariant.0 (omega arith) in
    let is : is_ascii_digit (get_or c.args.text.now c.loop-count.count 0) ≡ true = sym c.is_ascii_digit.ensures.value ∙ c.if-not-is_ascii_digit.false in
    let range = digit_range (get_or c.args.text.now c.loop-count.count 0) is in
    omega (arith, c.loop-count.invariant.1)

pub loop-count-preserved : goal.loop-count-preserved
loop-count-preserved c =
    let text = c.args.text.now in
    let inv = c.loop-count.invariant in
    let i = c.loop-count.count in
    let is : is_ascii_digit (get_or text i 0) ≡ true = sym c.is_ascii_digit.ensures.value ∙ c.if-not-is_ascii_digit.false in
    (digits_next text i inv.0 (omega arith) is, let more = value_next text i (omega arith) is in omega (arith, inv.1))
