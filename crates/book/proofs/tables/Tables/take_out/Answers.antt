use Rattle.std.proofs.Common.{List, sym, subst}
use Rattle.model.specs.State.{entries_without}
use Rattle.model.specs.Invariant.{IsConsistent}
use Rattle.model.specs.declared.state.Claim.{Claim}
use Rattle.model.specs.declared.state.OpenEntry.{OpenEntry}
use Rattle.model.proofs.Keeps.{without_consistent}
use Rattle.book.specs.Tables.{state}
use Rattle.book.proofs.TablesLemmas.{with_claims, with_opened}
use Rattle.book.proofs.tables.Tables.take_out.Goals as goal

pub invariant_of-self : goal.invariant_of-self
invariant_of-self c =
    let b = c.args.self.now in
    let d = c.args.dispatch in
    let claims = subst (λ (cs : List Claim). IsConsistent (with_opened (with_claims (state b) cs) (entries_without d b.opened))) (sym c.take_out-2.ensures) (without_consistent (state b) b.consistent d) in
    record { consistent = subst (λ (es : List OpenEntry). IsConsistent (with_opened (with_claims (state b) c.take_out-2.new.self) es)) (sym c.take_out.ensures) claims }
