use Rattle.model.proofs.Places.{woken_push}
use Rattle.model.proofs.report.Report.name_woken.Goals as goal

pub returns-clause-named : goal.returns-clause-named
returns-clause-named c recalls wakes is = cc (woken_push c.args.self.now recalls wakes c.args.entry c.requires is)
