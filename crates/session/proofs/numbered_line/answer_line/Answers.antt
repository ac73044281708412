use Rattle.std.proofs.Common.{refl}
use Rattle.std.proofs.lemmas.Result.{err_from_is_err_and}
use Rattle.book.specs.Book.{state_of}
use Rattle.session.specs.NumberedLine.{by_call}
use Rattle.session.proofs.Responding.{fault_responded, line_answered}
use Rattle.session.proofs.numbered_line.answer_line.Goals as goal

pub returns-in_err-call : goal.returns-in_err-call
returns-in_err-call g c =
    let b = c.args.book.now in
    let u = g.T.UseTable.meaning b.policy.table in
    let o = g.O.RecallOrder.meaning b.policy.order in
    let p = err_from_is_err_and c.from_residual.result c.from_residual.ensures.1 in
    let both = line_answered g.T.UseTable.meaning g.met.T.UseTable.lawful g.O.RecallOrder.meaning g.met.O.RecallOrder.lawful b b c.args.number c.args.line.now _ c.request.new.report b.history
    (rw (p.1, p.2) (fault_responded u o c.args.number c.args.line.now (state_of b) c.in_err-call.field-0.0 c.request.new.report c.in_err-call.ensures.read c.in_err-call.ensures.told)) refl in
    record { answered = both.0; law = both.1 }

pub returns-in_err-answer : goal.returns-in_err-answer
returns-in_err-answer g c =
    let b = c.args.book.now in
    let p = err_from_is_err_and c.from_residual-in_err-answer.result c.from_residual-in_err-answer.ensures.1 in
    let done = c.in_err-answer.ensures.done in
    let both = line_answered g.T.UseTable.meaning g.met.T.UseTable.lawful g.O.RecallOrder.meaning g.met.O.RecallOrder.lawful b c.carry_out.new.self c.args.number c.args.line.now _ c.carry_out.new.report b.history
    (rw (p.1, p.2) (by_call c.in_ok-call.call c.in_ok-call.ensures.read done.carried)) done.policy in
    record { answered = both.0; law = both.1 }

pub returns : goal.returns
returns g c =
    let b = c.args.book.now in
    let done = c.in_ok-answer.ensures.done in
    let both = line_answered g.T.UseTable.meaning g.met.T.UseTable.lawful g.O.RecallOrder.meaning g.met.O.RecallOrder.lawful b c.carry_out.new.self c.args.number c.args.line.now _ c.carry_out.new.report b.history
    (by_call c.in_ok-call.call c.in_ok-call.ensures.read done.carried) done.policy in
    record { answered = both.0; law = both.1 }
