use Rattle.std.proofs.Common.{List, sym, subst}
use Rattle.model.specs.Invariant.{IsConsistent}
use Rattle.model.specs.declared.state.OpenEntry.{OpenEntry}
use Rattle.model.proofs.Keeps.{consistent_room, open_consistent}
use Rattle.book.specs.Tables.{state}
use Rattle.book.proofs.TablesLemmas.{with_opened}
use Rattle.book.proofs.tables.Tables.open.Goals as goal

pub push-requires : goal.push-requires
push-requires c =
    let b = c.args.self.now in
    let e = c.args.newcomer in
    consistent_room (state b) b.consistent e.dispatch e.weight c.requires.number c.requires.weight c.requires.light c.requires.out

pub invariant_of-self : goal.invariant_of-self
invariant_of-self c =
    let b = c.args.self.now in
    let e = c.args.newcomer in
    record { consistent = subst (λ (es : List OpenEntry). IsConsistent (with_opened (state b) es)) (sym c.push.ensures) (open_consistent (state b) b.consistent e.dispatch e.weight c.requires.number c.requires.weight c.requires.light c.requires.out) }
