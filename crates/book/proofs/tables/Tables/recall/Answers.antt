use Rattle.std.proofs.Common.{◌≡◌, ◌<◌, ℕ, Bool, false, sym, ap, ◌∙◌, subst, arith}
use Rattle.std.proofs.lemmas.Bool.Decides.{nat_tests}
use Rattle.model.specs.State.{State, is_open}
use Rattle.model.specs.Invariant.{IsConsistent}
use Rattle.model.proofs.Keeps.{consistent_below, joined_consistent}
use Rattle.model.proofs.Numbers.{open_closed}
use Rattle.book.specs.Tables.{state}
use Rattle.book.proofs.TablesLemmas.{with_recalled_set}
use Rattle.book.proofs.tables.Tables.recall.Goals as goal

pub insert-requires : goal.insert-requires
insert-requires c = consistent_below (state c.args.self.now) c.args.self.now.consistent c.args.dispatch c.requires

pub invariant_of-self : goal.invariant_of-self
invariant_of-self c =
    let b = c.args.self.now in
    let t = c.take_out.new.self in
    let d = c.args.dispatch in
    let low : d < 64 = consistent_below (state b) b.consistent d c.requires in
    let out : is_open (state t) d ≡ false = ap (λ (s : State). is_open s d) c.take_out.ensures ∙ (open_closed d d b.opened ∙ grind (arith, nat_tests)) in
    record { consistent = subst (λ (r : ℕ → Bool). IsConsistent (with_recalled_set (state t) r)) (sym c.insert.ensures) (joined_consistent (state t) t.consistent d low out) }
