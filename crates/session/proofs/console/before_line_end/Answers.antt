use Rattle.std.proofs.Common.{◌∙◌}
use Rattle.session.proofs.Gathering.{first_end}
use Rattle.session.proofs.console.before_line_end.Goals as goal

pub returns : goal.returns
returns c = c.unwrap_or.ensures ∙ first_end c.args.piece.now c.memchr.result c.memchr.ensures
