use Rattle.book.proofs.RunLemmas.{asked_made}
use Rattle.book.proofs.book.Book.carry_out.Goals as goal

pub returns-in-Open : goal.returns-in-Open
returns-in-Open g c =
    let both = asked_made g.T.UseTable.meaning g.met.T.UseTable.lawful g.O.RecallOrder.meaning g.met.O.RecallOrder.lawful c.args.self.now c.open.new.self c.args.self.now.history c.args.asked _ c.open.result c.open.new.report c.in-Open.is c.open.ensures in
    record { done = both.0; law = both.1 }

pub returns-in-Claim : goal.returns-in-Claim
returns-in-Claim g c =
    let both = asked_made g.T.UseTable.meaning g.met.T.UseTable.lawful g.O.RecallOrder.meaning g.met.O.RecallOrder.lawful c.args.self.now c.claim.new.self c.args.self.now.history c.args.asked _ c.claim.result c.claim.new.report c.in-Claim.is c.claim.ensures in
    record { done = both.0; law = both.1 }

pub returns-in-Close : goal.returns-in-Close
returns-in-Close g c =
    let both = asked_made g.T.UseTable.meaning g.met.T.UseTable.lawful g.O.RecallOrder.meaning g.met.O.RecallOrder.lawful c.args.self.now c.close.new.self c.args.self.now.history c.args.asked _ c.close.result c.close.new.report c.in-Close.is c.close.ensures in
    record { done = both.0; law = both.1 }

pub returns-in-Withdraw : goal.returns-in-Withdraw
returns-in-Withdraw g c =
    let both = asked_made g.T.UseTable.meaning g.met.T.UseTable.lawful g.O.RecallOrder.meaning g.met.O.RecallOrder.lawful c.args.self.now c.withdraw.new.self c.args.self.now.history c.args.asked _ c.withdraw.result c.withdraw.new.report c.in-Withdraw.is c.withdraw.ensures in
    record { done = both.0; law = both.1 }

pub returns-in-Acknowledge : goal.returns-in-Acknowledge
returns-in-Acknowledge g c =
    let both = asked_made g.T.UseTable.meaning g.met.T.UseTable.lawful g.O.RecallOrder.meaning g.met.O.RecallOrder.lawful c.args.self.now c.acknowledge.new.self c.args.self.now.history c.args.asked _ c.acknowledge.result c.acknowledge.new.report c.in-Acknowledge.is c.acknowledge.ensures in
    record { done = both.0; law = both.1 }

pub returns-in-Sweep : goal.returns-in-Sweep
returns-in-Sweep g c =
    let both = asked_made g.T.UseTable.meaning g.met.T.UseTable.lawful g.O.RecallOrder.meaning g.met.O.RecallOrder.lawful c.args.self.now c.sweep.new.self c.args.self.now.history c.args.asked _ c.sweep.result c.sweep.new.report c.in-Sweep.is c.sweep.ensures in
    record { done = both.0; law = both.1 }
