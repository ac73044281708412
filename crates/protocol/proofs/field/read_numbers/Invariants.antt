use Rattle.std.proofs.Common.{◌≡◌, length, take}
use Rattle.protocol.proofs.Coming.{Came}
use Rattle.protocol.proofs.field.read_numbers.Given as goal

abbrev pub invariant-loop-number : goal.invariant-loop-number
invariant-loop-number g l = (length l.number-items ≡ g.row.N) × Came l.text (take l.number-index l.number-items) l.cursor.rest.now l.cursor.place
