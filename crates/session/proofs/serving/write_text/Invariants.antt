use Rattle.session.proofs.Written.{WritesUpTo}
use Rattle.session.proofs.serving.write_text.Given as goal

abbrev pub invariant-loop : goal.invariant-loop
invariant-loop g l = WritesUpTo (g.W.Write.contents l.initial.output) (g.W.Write.contents l.output) l.text l.rest
