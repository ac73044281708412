use Rattle.model.proofs.Exact.{report_fits}
use Rattle.model.proofs.theorems.report_fits.Goals as goal

pub returns : goal.returns
returns c = report_fits
