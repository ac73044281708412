use Rattle.std.proofs.Common.{refl, arith}
use Rattle.session.proofs.Gathering.{ends_line, ends_nothing, finished}
use Rattle.session.proofs.console.Console.finish.Goals as goal

pub returns-then-len-eq0 : goal.returns-then-len-eq0
returns-then-len-eq0 g c =
    let m = g.T.UseTable.meaning in
    let p = g.O.RecallOrder.meaning in
    let now = c.args.self.now in
    let ends = ends_nothing m p c.clear.new.self now (omega arith) c.clear.ensures in
    record { read = finished m p c.clear.new.self g.met.T.UseTable.lawful g.met.O.RecallOrder.lawful now now now.history ends; left = ends; policy = refl }

pub returns : goal.returns
returns g c =
    let m = g.T.UseTable.meaning in
    let p = g.O.RecallOrder.meaning in
    let now = c.args.self.now in
    let next = c.end_line.new.self in
    let ends = ends_line m p c.end_line.new.printed now next (omega arith) c.end_line.ensures.done in
    record { read = finished m p c.end_line.new.printed g.met.T.UseTable.lawful g.met.O.RecallOrder.lawful now next now.history ends; left = ends; policy = c.end_line.ensures.policy }
