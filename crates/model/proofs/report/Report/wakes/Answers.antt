use Rattle.std.proofs.Common.{ap, ◌∙◌, rules}
use Rattle.model.specs.Report.{wakes_of}
use Rattle.model.specs.declared.report.Report.{Report}
use Rattle.model.proofs.Places.{wakes_of-report_of}
use Rattle.model.proofs.report.Report.wakes.Goals as goal

pub returns-clause-given : goal.returns-clause-given
returns-clause-given c recalls wakes fits is =
    search rules ∙ (ap (λ (r : Report). wakes_of r) is ∙ wakes_of-report_of recalls wakes fits)
