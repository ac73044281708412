use Rattle.std.proofs.Common.{[], sym, refl, subst, arith}
use Rattle.model.specs.State.{State}
use Rattle.book.specs.Tables.{state}
use Rattle.session.specs.Inputs.{none}
use Rattle.session.specs.Transcript.{AnswersLines, nothing}
use Rattle.session.specs.History.{position_of_parts, HasRead}
use Rattle.session.proofs.Cutting.{cut_nothing}
use Rattle.session.proofs.console.Console.new.Given as given
use Rattle.session.proofs.console.Console.new.Goals as goal
use Rattle.session.proofs.console.Console.new.Goals.{After-new-2}

-- nothing was read
starts : (g : given.Over) (c : After-new-2 g) → HasRead (g.T.UseTable.meaning c.args.table) (g.O.RecallOrder.meaning c.args.order) c.args.detection [] [] (position_of_parts (state c.new.result.tables) 0 c.new-2.result)
starts g c = record {
  ended = none;
  rest = [];
  cut = cut_nothing;
  stands = record {
    answered = subst (λ (s : State). AnswersLines (g.T.UseTable.meaning c.args.table) (g.O.RecallOrder.meaning c.args.order) c.args.detection none [] s) (sym c.new.ensures.after) nothing;
    counted = refl;
    kept = c.new-2.ensures;
  };
}

pub invariant_of-result : goal.invariant_of-result
invariant_of-result g c = record { few = omega arith; history = rw (c.new.ensures.table, c.new.ensures.order) (∣ (c.args.detection, [], [], starts g (goal.at.invariant_of-result g c).After-new-2) ∣₁) }

pub returns : goal.returns
returns g c = record { starts = starts g (goal.at.returns g c).After-new-2; table = c.new.ensures.table; order = c.new.ensures.order }
