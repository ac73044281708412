use Rattle.std.proofs.Common.{◌++◌, vec_items, arith}
use Rattle.std.proofs.lemmas.Result.{on_ok_weaker, on_err_weaker, err_from_is_err_and}
use Rattle.std.proofs.lemmas.Bool.Decides.{nat_tests}
use Rattle.session.specs.Stands.{AnswersAll}
use Rattle.session.proofs.Served.{Served, served_nothing, read_failed, answer_lost, write_failed, served_more, answered_at_end, answered_at_stop, served, end_failed}
use Rattle.session.proofs.serving.serve_between.Given as given
use Rattle.session.proofs.serving.serve_between.Goals as goal
use Rattle.session.proofs.serving.serve_between.Goals.{After-clear, After-drop-answers-then-count-eq0, then-count-eq0-via-then-count-eq0, then-count-eq0-via-else-count-eq0+then-has_stopped}

-- a block more is served
block_served : (g : given.Over) (c : After-clear g) → Served g.T.UseTable.meaning g.O.RecallOrder.meaning c.args.console.now c.take_all_by.new.self (g.R.Read.remaining c.args.input.now) (g.R.Read.remaining c.read.new.self) (g.W.Write.contents c.args.output.now) (g.W.Write.contents c.write_text.new.output) (vec_items c.clear.new.self)
block_served g c =
    served_more g.T.UseTable.meaning g.O.RecallOrder.meaning c.args.console.now c.loop.console _ _ _ _ _ c.loop.invariant c.take_all_by.new.self _ _ c.in_ok-count.ensures.bytes.0 (vec_items c.take_all_by.new.out) c.in_ok-take_all_by.ensures.read _ (vec_items c.clear.new.self) (rw c.as_slice.ensures.value at c.in_ok-write_text.ensures.whole) c.take_all_by.ensures.policy c.clear.ensures.items

pub loop-init : goal.loop-init
loop-init g c = served_nothing g.T.UseTable.meaning g.O.RecallOrder.meaning c.args.console.now _ _ _ c.args.console.now.history c.new-answers.ensures.items

pub loop-preserved : goal.loop-preserved
loop-preserved g c = block_served g (goal.at.loop-preserved g c).After-clear

pub returns-in_err-count-clause-failed : goal.returns-in_err-count-clause-failed
returns-in_err-count-clause-failed g c =
    let p = err_from_is_err_and c.from_residual.result c.from_residual.ensures.1 in
    rw p.1 (read_failed g.T.UseTable.meaning g.O.RecallOrder.meaning c.args.console.now c.loop.console _ _ _ _ _ c.loop.invariant)

pub returns-in_err-take_all_by-clause-failed : goal.returns-in_err-take_all_by-clause-failed
returns-in_err-take_all_by-clause-failed g c =
    let p = err_from_is_err_and c.from_residual-in_err-take_all_by.result c.from_residual-in_err-take_all_by.ensures.1 in
    rw p.1 (answer_lost g.T.UseTable.meaning g.O.RecallOrder.meaning c.args.console.now c.loop.console _ _ _ _ _ c.loop.invariant c.take_all_by.new.self _ _ c.in_ok-count.ensures.bytes.0 (vec_items c.take_all_by.new.out) c.in_err-take_all_by.ensures.failed)

pub returns-in_err-write_text-clause-failed : goal.returns-in_err-write_text-clause-failed
returns-in_err-write_text-clause-failed g c =
    let p = err_from_is_err_and c.from_residual-in_err-write_text.result c.from_residual-in_err-write_text.ensures.1 in
    rw p.1 (write_failed g.T.UseTable.meaning g.O.RecallOrder.meaning c.args.console.now c.loop.console _ _ _ _ _ c.loop.invariant c.take_all_by.new.self _ _ c.in_ok-count.ensures.bytes.0 (vec_items c.take_all_by.new.out) c.in_ok-take_all_by.ensures.read _ (rw c.as_slice.ensures.value at c.in_err-write_text.ensures.front))

-- the blocks before the last answer are served
before_end : (g : given.Over) (c : After-drop-answers-then-count-eq0 g) → Served g.T.UseTable.meaning g.O.RecallOrder.meaning c.args.console.now c.take_all_by.new.self (g.R.Read.remaining c.args.input.now) (g.R.Read.remaining c.read.new.self) (g.W.Write.contents c.args.output.now) (g.W.Write.contents c.write_text.new.output) (vec_items c.clear.new.self)
before_end g c = block_served g (goal.at.returns-then-count-eq0-clause-served g c).After-clear

-- with the last answer the whole input is answered
all_answered : (g : given.Over) (c : After-drop-answers-then-count-eq0 g) → AnswersAll g.T.UseTable.meaning g.O.RecallOrder.meaning c.args.console.now c.finish.new.self (g.R.Read.remaining c.args.input.now) ((before_end g c).text ++ c.finish.new.printed)
all_answered g c =
    elim c.then-count-eq0.branch [
      | then-count-eq0-via-then-count-eq0 w ↦ answered_at_end g.T.UseTable.meaning g.O.RecallOrder.meaning g.met.T.UseTable.lawful g.met.O.RecallOrder.lawful c.args.console.now c.take_all_by.new.self c.finish.new.self _ _ _ _ (g.W.Write.contents c.write_text-then-count-eq0.new.output) _ c.finish.new.printed (before_end g c) (c.in_ok-count.ensures.bytes.1 (let t = w.if-count-eq0.true in grind (arith, nat_tests, t)) (omega arith)) c.finish.ensures.read
      | then-count-eq0-via-else-count-eq0+then-has_stopped w ↦ answered_at_stop g.T.UseTable.meaning g.O.RecallOrder.meaning g.met.T.UseTable.lawful g.met.O.RecallOrder.lawful c.args.console.now c.take_all_by.new.self c.finish.new.self _ _ _ _ (g.W.Write.contents c.write_text-then-count-eq0.new.output) _ c.finish.new.printed (before_end g c) w.has_stopped.result w.has_stopped.ensures.count w.if-has_stopped.true c.finish.ensures.left
    ]

pub returns-then-count-eq0-clause-served : goal.returns-then-count-eq0-clause-served
returns-then-count-eq0-clause-served g c =
    on_ok_weaker c.write_text-then-count-eq0.result
    (λ writes. served g.T.UseTable.meaning g.O.RecallOrder.meaning g.met.T.UseTable.lawful g.met.O.RecallOrder.lawful c.args.console.now c.take_all_by.new.self c.finish.new.self _ _ _ _ _ _ c.finish.new.printed (before_end g c) (all_answered g c) (rw c.text.ensures.shown at writes))
    c.write_text-then-count-eq0.ensures.whole

pub returns-then-count-eq0-clause-failed : goal.returns-then-count-eq0-clause-failed
returns-then-count-eq0-clause-failed g c =
    on_err_weaker c.write_text-then-count-eq0.result
    (λ front. end_failed g.T.UseTable.meaning g.O.RecallOrder.meaning g.met.T.UseTable.lawful g.met.O.RecallOrder.lawful c.args.console.now c.take_all_by.new.self c.finish.new.self _ _ _ _ _ _ c.finish.new.printed (before_end g c) (all_answered g c) (rw c.text.ensures.shown at front))
    c.write_text-then-count-eq0.ensures.front

pub returns-clause-failed : goal.returns-clause-failed
returns-clause-failed g c = read_failed g.T.UseTable.meaning g.O.RecallOrder.meaning c.args.console.now c.loop.console _ _ _ _ _ c.loop.invariant
