use Rattle.tickets.proofs.HandInLemmas.{hands_in}
use Rattle.tickets.proofs.ticket.Ticket.hand_in.Goals as goal

pub returns : goal.returns
returns g c =
    let told = c.in_ok-condition.field-0 in
    let all = hands_in g.T.UseTable.meaning g.met.T.UseTable.lawful g.O.RecallOrder.meaning g.met.O.RecallOrder.lawful c.args.book.now c.end.new.book c.args.self.dispatch c.args.self.small c.end.new.report c.args.book.now.history told.condition told.waiting_section c.in_ok-condition.ensures c.end.result c.end.ensures in
    record { ended = all.0; counts = all.1; freed = all.2 }
