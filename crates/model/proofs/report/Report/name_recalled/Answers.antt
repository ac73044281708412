use Rattle.model.proofs.Places.{recalled_push}
use Rattle.model.proofs.report.Report.name_recalled.Goals as goal

pub returns-clause-named : goal.returns-clause-named
returns-clause-named c recalls is = cc (recalled_push c.args.self.now recalls c.args.entry c.requires is)
