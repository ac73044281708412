use Rattle.std.proofs.Common.{ap, ◌∙◌, Bool}
use Rattle.book.specs.Tables.{state, condition_by}
use Rattle.book.proofs.CallLemmas.{status_is}
use Rattle.book.proofs.book.Book.condition.Goals as goal

pub returns : goal.returns
returns g c =
    let b = c.args.self.now in
    let passed = c.in_ok-number.ensures in
    status_is (g.T.UseTable.meaning b.policy.table) (state b.tables) c.args.dispatch c.in_ok-number.number c.condition.result c.waiting_section-waiting_section.result passed.0 passed.1 c.waiting_section-waiting_section.ensures (c.condition.ensures ∙ ap (λ (w : Bool). condition_by w (state b.tables) c.in_ok-number.number) c.is_some.ensures)
