use Rattle.std.proofs.Common.{List, sym, subst}
use Rattle.std.proofs.lemmas.Bool.{and_parts}
use Rattle.model.specs.Invariant.{IsConsistent}
use Rattle.model.specs.declared.state.Claim.{Claim}
use Rattle.model.proofs.Keeps.{consistent_below, entered_consistent}
use Rattle.book.specs.Tables.{state}
use Rattle.book.proofs.TablesLemmas.{with_claims}
use Rattle.book.proofs.tables.Tables.enter.Goals as goal

pub enter-requires : goal.enter-requires
enter-requires c =
    let b = c.args.self.now in
    record { small = consistent_below (state b) b.consistent c.args.claim.dispatch (and_parts _ _ c.requires.in_range).0; room = c.requires.room }

pub invariant_of-self : goal.invariant_of-self
invariant_of-self c =
    let b = c.args.self.now in
    record { consistent = subst (λ (cs : List Claim). IsConsistent (with_claims (state b) cs)) (sym c.enter.ensures) (entered_consistent (state b) b.consistent c.args.claim c.requires.in_range c.requires.room) }
