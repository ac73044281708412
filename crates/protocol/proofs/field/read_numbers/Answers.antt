use Rattle.std.proofs.Common.{◌<◌, length, ◌∙◌, arith, ltb-false, ltb-true}
use Rattle.std.proofs.lemmas.List.{length-set, length-take-le, take_all, take_more_set}
use Rattle.std.proofs.lemmas.Result.{err_from_is_err_and}
use Rattle.protocol.proofs.Coming.{came_more, came_wrong, came_end, came_whole}
use Rattle.protocol.proofs.field.read_numbers.Goals as goal

pub returns-in_err-number : goal.returns-in_err-number
returns-in_err-number g c =
    let p = err_from_is_err_and c.from_residual.result c.from_residual.ensures.1 in
    let inv = c.loop-number.invariant in
    let long = length-take-le c.loop-number.number-index c.loop-number.number-items (omega arith) in
    rw (p.1, p.2) (came_wrong c.args.text.now _ _ _ g.row.N _ inv.1 (omega arith) c.in_err-number.ensures)

pub loop-number-preserved : goal.loop-number-preserved
loop-number-preserved g c =
    let inv = c.loop-number.invariant in
    let i = c.loop-number.number-index in
    let numbers = c.loop-number.number-items in
    let n = c.in_ok-number.field-0 in
    let inside : i < length numbers = omega arith in
    let got = c.in_ok-number.ensures in (
      length-set numbers i n ∙ inv.0,
      rw (take_more_set numbers i n inside) (came_more c.args.text.now _ _ got.0 _ n _ _ inv.1 got.1 got.2),
    )

pub returns-in-empty : goal.returns-in-empty
returns-in-empty g c =
    let inv = c.loop-number.invariant in
    let all = take_all c.loop-number.number-index c.loop-number.number-items (omega arith) in
    (inv.0, came_whole c.args.text.now c.loop-number.number-items _ _ (rw all at inv.1) (omega (arith, ltb-true)))

pub returns-in-len1-up : goal.returns-in-len1-up
returns-in-len1-up g c =
    let inv = c.loop-number.invariant in
    let all = take_all c.loop-number.number-index c.loop-number.number-items (omega arith) in
    came_end c.args.text.now c.loop-number.number-items _ _ g.row.N _ (rw all at inv.1) inv.0 (omega (arith, ltb-false)) c.wrong_form.ensures
