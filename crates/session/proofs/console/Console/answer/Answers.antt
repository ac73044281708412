use Rattle.std.proofs.Common.{◌+◌, [], refl, arith}
use Rattle.model.proofs.Grants.{led_invariant}
use Rattle.book.specs.Tables.{state}
use Rattle.session.specs.History.{position_of_parts}
use Rattle.session.specs.Stands.{position_of}
use Rattle.session.proofs.Responding.{Printable, printable}
use Rattle.session.proofs.Standing.{response_printed, line_passed}
use Rattle.session.proofs.Histories.{history_responded}
use Rattle.session.proofs.console.Console.answer.Given as given
use Rattle.session.proofs.console.Console.answer.Goals as goal
use Rattle.session.proofs.console.Console.answer.Goals.{After-answer_line-outcome}

-- what is printed for the response is what the line gives
given_by_line : (g : given.Over) (c : After-answer_line-outcome g) → Printable (g.T.UseTable.meaning c.args.self.now.book.policy.table) (g.O.RecallOrder.meaning c.args.self.now.book.policy.order) (c.args.self.now.answered + 1) c.args.line.now (state c.args.self.now.book.tables) c.answer_line-outcome.result c.answer_line-outcome.new.report (state c.answer_line-outcome.new.book.tables)
given_by_line g c =
    let b = c.args.self.now.book in
    let u = g.T.UseTable.meaning b.policy.table in
    let o = g.O.RecallOrder.meaning b.policy.order in
    let laws = g.met.T.UseTable.lawful b.policy.table in
    let lawful = g.met.O.RecallOrder.lawful b.policy.order in
    printable u o (c.args.self.now.answered + 1) c.args.line.now (state b.tables) laws lawful (led_invariant u laws o lawful (state b.tables) b.history) c.answer_line-outcome.result c.answer_line-outcome.new.report (state c.answer_line-outcome.new.book.tables) c.answer_line-outcome.ensures.answered.responds

pub invariant_of-self : goal.invariant_of-self
invariant_of-self g c =
    let was = c.args.self.now in
    let after = c.answer_line-outcome.new.book in
    record {
      few = omega arith;
      history = rw c.answer_line-outcome.ensures.answered.policy (history_responded (g.T.UseTable.meaning was.book.policy.table) (g.O.RecallOrder.meaning was.book.policy.order) c.args.line.now (was.answered + 1) c.answer_line-outcome.result c.answer_line-outcome.new.report (position_of was) (position_of_parts (state after.tables) (was.answered + 1) was.line) c.requires (omega arith) (omega arith) (given_by_line g (goal.at.invariant_of-self g c).After-answer_line-outcome) refl refl was.history);
    }

pub returns-then-self-eq-LAST_LINE : goal.returns-then-self-eq-LAST_LINE
returns-then-self-eq-LAST_LINE g c =
    let b = c.args.self.now.book in
    record {
      done = λ detection ended line before same h. line_passed (g.T.UseTable.meaning b.policy.table) (g.O.RecallOrder.meaning b.policy.order) detection ended line [] before c.clear.new.self (position_of c.args.self.now) h c.if-self-eq-LAST_LINE.true c.clear.ensures;
      policy = refl;
    }

pub returns : goal.returns
returns g c =
    let was = c.args.self.now in
    let after = c.answer_line-outcome.new.book in
    record {
      done = λ detection ended line before same h. response_printed (g.T.UseTable.meaning was.book.policy.table) (g.O.RecallOrder.meaning was.book.policy.order) detection ended c.args.line.now line [] before c.print_outcome.new.out (position_of was) (position_of_parts (state after.tables) (was.answered + 1) was.line) (was.answered + 1) c.answer_line-outcome.result c.answer_line-outcome.new.report same h (omega arith) (omega arith) (given_by_line g (goal.at.returns g c).After-answer_line-outcome) c.print_outcome.ensures refl refl;
      policy = c.answer_line-outcome.ensures.answered.policy;
    }
