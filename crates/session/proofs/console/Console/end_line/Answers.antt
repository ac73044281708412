use Rattle.std.proofs.Common.{◌∙◌, refl, arith}
use Rattle.book.specs.Tables.{state}
use Rattle.session.specs.History.{position_of_parts}
use Rattle.session.specs.Stands.{position_of}
use Rattle.session.proofs.Gathering.{ends_whole, ends_gathered}
use Rattle.session.proofs.Histories.{history_anew, line_unbroken}
use Rattle.session.proofs.console.Console.end_line.Goals as goal

pub invariant_of-self : goal.invariant_of-self
invariant_of-self g c =
    let mid = c.gather.new.self in
    record {
      few = mid.few;
      history = history_anew (g.T.UseTable.meaning mid.book.policy.table) (g.O.RecallOrder.meaning mid.book.policy.order) (position_of mid) (position_of_parts (state mid.book.tables) mid.answered c.replace-line.new.dest) refl refl (c.replace-line.ensures.after ∙ c.new.ensures) mid.history;
    }

pub answer-requires-2 : goal.answer-requires-2
answer-requires-2 g c =
    let mid = c.gather.new.self in
    rw (c.rows.ensures.value ∙ c.replace-line.ensures.value) (line_unbroken (g.T.UseTable.meaning mid.book.policy.table) (g.O.RecallOrder.meaning mid.book.policy.order) (position_of mid) mid.history)

pub returns-then-len-eq0 : goal.returns-then-len-eq0
returns-then-len-eq0 g c =
    record {
      done = ends_whole g.T.UseTable.meaning g.O.RecallOrder.meaning c.answer.new.printed c.args.bytes.now c.args.self.now c.answer.new.self (omega arith) c.answer.ensures.done;
      policy = c.answer.ensures.policy;
    }

pub returns-clause-done : goal.returns-clause-done
returns-clause-done g c =
    let mid = c.gather.new.self in
    ends_gathered g.T.UseTable.meaning g.O.RecallOrder.meaning c.answer-2.new.printed c.args.bytes.now c.rows.result.now c.args.self.now c.answer-2.new.self mid.book mid.answered c.replace-line.new.dest
    (c.rows.ensures.value ∙ (c.replace-line.ensures.value ∙ c.gather.ensures.kept))
    c.gather.ensures.book c.gather.ensures.answered (c.replace-line.ensures.after ∙ c.new.ensures) c.answer-2.ensures.done
