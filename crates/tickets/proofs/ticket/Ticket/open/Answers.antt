use Rattle.std.proofs.Common.{Ok, Err, refl, arith}
use Rattle.std.proofs.lemmas.Result.{err_from_is_err_and}
use Rattle.model.specs.declared.call.Call.TheVariants as call
use Rattle.model.proofs.Steps.{passed_opening}
use Rattle.book.specs.Tables.{state}
use Rattle.book.specs.declared.answer.Answer.TheVariants as answer
use Rattle.tickets.proofs.CarriedOutLemmas.{done_ok, counts_as}
use Rattle.tickets.proofs.ticket.Ticket.open.Goals as goal

pub returns-in_err-open : goal.returns-in_err-open
returns-in_err-open g c =
    let does = c.in_err-open.ensures in
    let p = err_from_is_err_and c.from_residual.result c.from_residual.ensures.1 in
    rw (p.1, p.2)
    (record {
      named = tt;
      counts = counts_as g.T.UseTable.meaning g.met.T.UseTable.lawful g.O.RecallOrder.meaning g.met.O.RecallOrder.lawful c.args.book.now c.open.new.self c.args.book.now.history (call.Open c.args.dispatch c.args.weight) (Err c.in_err-open.field-0.0) c.open.new.report does;
    })

pub invariant_of-result : goal.invariant_of-result
invariant_of-result g c =
    let b = c.args.book.now in
    let through = c.in_ok-open.ensures.carried.verdict.0 in
    let below = (passed_opening (g.T.UseTable.meaning b.policy.table) (state b.tables) c.args.dispatch c.args.weight through).0 in
    record { small = omega (arith, below) }

pub returns : goal.returns
returns g c =
    let b = c.args.book.now in
    let asked = call.Open c.args.dispatch c.args.weight in
    let does = done_ok g.T.UseTable.meaning g.O.RecallOrder.meaning b c.open.new.self asked c.open.new.report c.in_ok-open.field-0 refl c.in_ok-open.ensures in
    record {
      named = refl;
      counts = counts_as g.T.UseTable.meaning g.met.T.UseTable.lawful g.O.RecallOrder.meaning g.met.O.RecallOrder.lawful b c.open.new.self b.history asked (Ok answer.Ok) c.open.new.report does;
    }
