use Rattle.std.proofs.Common.{◌≡◌, ℕ, ◌+◌, ◌<◌, ◌≤◌, List, [], ◌∷◌, ◌++◌, length, Option, unwrap_or, sym, ap, ◌∙◌, subst, arith}
use Rattle.model.specs.State.{State}
use Rattle.model.specs.Recalling.{entry_of}
use Rattle.model.specs.Calls.{report_of}
use Rattle.model.specs.declared.report.ReportEntry.{ReportEntry}
use Rattle.model.specs.declared.report.Report.{Report}
use Rattle.model.proofs.Keeps.{consistent_few, consistent_grounded}
use Rattle.model.proofs.Turns.{victim_open}
use Rattle.book.specs.Tables.{state}
use Rattle.book.proofs.TurnLemmas.{Turned, turned_none, turned_more, came_early, came_late, name}
use Rattle.book.proofs.deadlock.recall_victims.Goals as goal

pub loop-turn-init : goal.loop-turn-init
loop-turn-init g c = (
  turned_none (g.T.UseTable.meaning c.args.policy.now.table) (g.O.RecallOrder.meaning c.args.policy.now.order) (state c.args.tables.now) c.args.report.now c.requires.empty,
  c.requires.victim,
)

pub returns-in_default : goal.returns-in_default
returns-in_default g c =
    let low : c.loop-turn._turn < 64 = omega (arith, c.loop-turn-test.true) in
    let s₀ = state c.args.tables.now in
    let w = c.args.tables.now.consistent in
    let end =
    came_early (g.T.UseTable.meaning c.args.policy.now.table) (g.O.RecallOrder.meaning c.args.policy.now.order) (g.met.O.RecallOrder.lawful c.args.policy.now.order) s₀ (state c.loop-turn.tables) c.loop-turn._turn c.loop-turn.report
    (consistent_grounded s₀ w) (consistent_few s₀ w) low c.loop-turn.invariant.0 (sym c.loop-turn.invariant.1 ∙ c.in_default.is)
    in
    record { after = end.state; named = end.report }

pub recall-requires : goal.recall-requires
recall-requires g c =
    let s = state c.loop-turn.tables in
    victim_open (g.T.UseTable.meaning c.args.policy.now.table) (g.O.RecallOrder.meaning c.args.policy.now.order) (g.met.O.RecallOrder.lawful c.args.policy.now.order) s (consistent_grounded s c.loop-turn.tables.consistent) c.in-Some.dispatch (sym c.loop-turn.invariant.1 ∙ c.in-Some.is)

pub name_recalled-requires : goal.name_recalled-requires
name_recalled-requires g c =
    let t = c.loop-turn.invariant.0 in
    let same : c.loop-turn.report.recalled ≡ length t.so_far = ap (λ (r : Report). r.recalled) t.named_so in
    omega (arith, same, t.count, c.loop-turn-test.true)

pub loop-turn-preserved : goal.loop-turn-preserved
loop-turn-preserved g c =
    let low : c.loop-turn._turn < 64 = omega (arith, c.loop-turn-test.true) in
    let s₀ = state c.args.tables.now in
    let s = state c.loop-turn.tables in
    let u = g.T.UseTable.meaning c.args.policy.now.table in
    let o = g.O.RecallOrder.meaning c.args.policy.now.order in
    let d = c.in-Some.dispatch in
    let who : ◌≡◌ {A = ReportEntry} (record { dispatch = d; section = c.unwrap_or-section.result }) (entry_of u s d) = ap (name d) (c.unwrap_or-section.ensures ∙ ap (λ (v : Option ℕ). unwrap_or v 65535) c.waiting_section-waiting.ensures) in
    let more : (rs : List ReportEntry) → c.loop-turn.report ≡ report_of rs [] → c.name_recalled.new.self ≡ report_of (rs ++ entry_of u s d ∷ []) [] =
    λ rs is. c.name_recalled.ensures.named rs is ∙ ap (λ (n : ReportEntry). report_of (rs ++ n ∷ []) []) who
    in
    let turned =
    turned_more u o s₀ s c.loop-turn._turn c.loop-turn.report c.name_recalled.new.self d low (sym c.loop-turn.invariant.1 ∙ c.in-Some.is)
    c.loop-turn.invariant.0 more
    in
    (subst (λ (x : State). Turned u o s₀ x (c.loop-turn._turn + 1) c.name_recalled.new.self) (sym c.recall.ensures) turned, c.victim-next.ensures)

pub returns : goal.returns
returns g c =
    let high : 64 ≤ c.loop-turn._turn = omega (arith, c.loop-turn-test.false) in
    let s₀ = state c.args.tables.now in
    let w = c.args.tables.now.consistent in
    let end =
    came_late (g.T.UseTable.meaning c.args.policy.now.table) (g.O.RecallOrder.meaning c.args.policy.now.order) (g.met.O.RecallOrder.lawful c.args.policy.now.order) s₀ (state c.loop-turn.tables) c.loop-turn._turn c.loop-turn.report
    (consistent_grounded s₀ w) (consistent_few s₀ w) high c.loop-turn.invariant.0
    in
    record { after = end.state; named = end.report }
