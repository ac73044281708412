use Rattle.std.proofs.Common.{ap, ◌∙◌, rules}
use Rattle.model.specs.Report.{recalls_of}
use Rattle.model.specs.declared.report.Report.{Report}
use Rattle.model.proofs.Places.{recalls_of-report_of}
use Rattle.model.proofs.report.Report.recalls.Goals as goal

pub returns-clause-given : goal.returns-clause-given
returns-clause-given c recalls wakes fits is =
    search rules ∙ (ap (λ (r : Report). recalls_of r) is ∙ recalls_of-report_of recalls wakes fits)
