use Rattle.std.proofs.Common.{arith}
use Rattle.session.specs.Transcript.{too_many, in_time}
use Rattle.session.proofs.numbered_line.read_line.Goals as goal

pub returns-then-number-ge-LAST_LINE : goal.returns-then-number-ge-LAST_LINE
returns-then-number-ge-LAST_LINE c = too_many (omega arith)

pub returns : goal.returns
returns c = in_time (omega arith) c.read_call.ensures
