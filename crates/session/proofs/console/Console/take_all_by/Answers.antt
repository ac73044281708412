use Rattle.std.proofs.Common.{ℕ, ◌-◌, ◌∙◌, List, ◌++◌, length, take, drop, vec_items, ap, arith, rules}
use Rattle.std.proofs.lemmas.List.{length-take}
use Rattle.std.proofs.lemmas.Result.{err_from_is_err_and}
use Rattle.std.proofs.lemmas.Bool.Decides.{nat_tests}
use Rattle.session.proofs.Pieces.{line_inside, line_some, read_nothing, read_more, loses_answer, two_parts, read_whole}
use Rattle.session.proofs.console.Console.take_all_by.Goals as goal

pub loop-rest-init : goal.loop-rest-init
loop-rest-init g c = read_nothing g.T.UseTable.meaning g.O.RecallOrder.meaning c.args.self.now c.args.piece.now (vec_items c.args.out.now) c.args.self.now.history

pub returns-in_err-extend_from_slice : goal.returns-in_err-extend_from_slice
returns-in_err-extend_from_slice g c =
    let p = err_from_is_err_and c.from_residual.result c.from_residual.ensures.1 in
    let rest = c.loop-rest.rest.now in
    let n = c.take-taken.result in
    let lost = loses_answer g.T.UseTable.meaning g.O.RecallOrder.meaning c.args.self.now c.loop-rest.self c.take-taken.new.self c.args.piece.now rest (take n rest) (take (length rest - n) (drop n rest)) (vec_items c.args.out.now) (vec_items c.loop-rest.out) c.take-taken.new.printed (vec_items c.extend_from_slice.new.self) c.loop-rest.invariant (two_parts n rest) c.take-taken.ensures.read c.in_err-extend_from_slice.ensures.items in
    record { read = rw p.1 tt; failed = rw p.1 lost; policy = c.take-taken.ensures.policy ∙ c.loop-rest.invariant.policy }

pub slice_bounds-rest-count : goal.slice_bounds-rest-count
slice_bounds-rest-count g c = let is = c.take-taken.ensures.taken in let inside = line_inside c.loop-rest.rest.now in omega (arith, is, inside)

pub slice_bounds-rest-start : goal.slice_bounds-rest-start
slice_bounds-rest-start g c = let is = c.take-taken.ensures.taken in let inside = line_inside c.loop-rest.rest.now in search (rules, is, inside)

pub loop-rest-smaller : goal.loop-rest-smaller
loop-rest-smaller g c =
    let rest = c.loop-rest.rest.now in
    let is = c.take-taken.ensures.taken in
    let inside = line_inside rest in
    let some = line_some rest (let h = c.loop-rest-test.ensures in let n = c.loop-rest-test.true in grind (arith, nat_tests, h, n)) in
    omega (arith, is, inside, some, length-take (length rest - c.take-taken.result) (drop c.take-taken.result rest))

pub loop-rest-preserved : goal.loop-rest-preserved
loop-rest-preserved g c =
    let rest = c.loop-rest.rest.now in
    let n = c.take-taken.result in
    let out = vec_items c.loop-rest.out in
    let grows = c.in_ok-extend_from_slice.ensures.items ∙ ap (λ (ys : List ℕ). out ++ ys) c.text.ensures.shown in
    read_more g.T.UseTable.meaning g.O.RecallOrder.meaning c.args.self.now c.loop-rest.self c.take-taken.new.self c.args.piece.now rest (take n rest) (take (length rest - n) (drop n rest)) (vec_items c.args.out.now) out c.take-taken.new.printed (vec_items c.extend_from_slice.new.self) c.loop-rest.invariant (two_parts n rest) c.take-taken.ensures.read grows c.take-taken.ensures.policy

pub returns : goal.returns
returns g c =
    record {
      read = read_whole g.T.UseTable.meaning g.O.RecallOrder.meaning c.args.self.now c.loop-rest.self c.args.piece.now c.loop-rest.rest.now (vec_items c.args.out.now) (vec_items c.loop-rest.out) c.loop-rest.invariant (let h = c.loop-rest-test.ensures in let n = c.loop-rest-test.false in grind (arith, nat_tests, h, n));
      failed = tt;
      policy = c.loop-rest.invariant.policy;
    }
