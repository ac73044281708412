use Rattle.std.proofs.Common.{◌≡◌, Some, Option, filter, get_or, take, sym, ap, ◌∙◌, rules}
use Rattle.std.specs.Option.{option_map}
use Rattle.std.proofs.lemmas.List.{take_all}
use Rattle.dispatch_set.specs.DispatchSet.{contains}
use Rattle.model.specs.Recalling.{first}
use Rattle.model.specs.State.{numbers}
use Rattle.book.specs.Tables.{better, candidate, state}
use Rattle.orders.specs.declared.order.Summary.{Summary}
use Rattle.book.specs.declared.deadlock.Candidate.{Candidate}
use Rattle.book.proofs.VictimLemmas.{candidate_number, first_more, first_same, no_entry}
use Rattle.book.proofs.deadlock.first_of.Goals as goal
use Rattle.book.proofs.deadlock.first_of.Goals.{then-contains, else-contains}

pub loop-e-preserved : goal.loop-e-preserved
loop-e-preserved g c =
    let s = state c.args.tables.now in
    let u = g.T.UseTable.meaning c.args.policy.now.table in
    let o = g.O.RecallOrder.meaning c.args.policy.now.order in
    let lawful = g.met.O.RecallOrder.lawful c.args.policy.now.order in
    let es = c.rows-e-items.result.now in
    elim c.if-contains.branch [
      | then-contains w ↦
          let d = (get_or es c.loop-e.e-index no_entry).dispatch in
          let so_far = option_map (candidate u s) (first u o s (filter (contains c.args.set) (numbers (take c.loop-e.e-index es)))) in
          let with_next : Option Candidate → Summary → Option Candidate = λ b x. Some (better o b (record { dispatch = d; summary = x })) in
          w.best-is ∙ (ap Some w.better.ensures ∙ ap (λ b. with_next b w.summary.result) c.loop-e.invariant ∙ ap (with_next so_far) w.summary.ensures
          ∙ first_more u o lawful s (contains c.args.set) es c.loop-e.e-index no_entry c.loop-e-test.true (sym w.if-contains.ensures))
      | else-contains w ↦ w.best-is ∙ (c.loop-e.invariant ∙ ap (option_map (candidate u s)) (first_same u o lawful s (contains c.args.set) es c.loop-e.e-index no_entry c.loop-e-test.true (sym w.if-contains.ensures)))
    ]

pub returns : goal.returns
returns g c =
    let s = state c.args.tables.now in
    let u = g.T.UseTable.meaning c.args.policy.now.table in
    let o = g.O.RecallOrder.meaning c.args.policy.now.order in
    let mapped : c.map.result ≡ option_map (λ b. b.dispatch) c.loop-e.best = search rules in
    mapped
    ∙ ap (option_map (λ b. b.dispatch)) c.loop-e.invariant
    ∙ candidate_number u s _
    ∙ ap (λ es. first u o s (filter (contains c.args.set) (numbers es)))
    (take_all c.loop-e.e-index c.rows-e-items.result.now c.loop-e-test.false ∙ c.rows-e-items.ensures.value)
