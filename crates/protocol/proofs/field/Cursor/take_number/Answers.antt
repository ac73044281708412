use Rattle.std.proofs.Common.{rules}
use Rattle.protocol.proofs.Digit.{takes_digits, none_counted}
use Rattle.protocol.proofs.field.Cursor.take_number.Goals as goal

pub returns-then-count-eq0 : goal.returns-then-count-eq0
returns-then-count-eq0 c = search (rules, none_counted)

pub returns : goal.returns
returns c = search (rules, takes_digits)
