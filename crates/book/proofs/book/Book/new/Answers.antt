use Rattle.std.proofs.Common.{sym}
use Rattle.model.specs.Runs.{start}
use Rattle.book.proofs.book.Book.new.Goals as goal

pub invariant_of-result : goal.invariant_of-result
invariant_of-result g c = record { history = ∣ (start c.args.detection, sym c.new.ensures) ∣₁ }
