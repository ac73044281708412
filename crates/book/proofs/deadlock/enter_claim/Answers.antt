use Rattle.std.proofs.Common.{None, set, sym, ap, ◌∙◌, subst}
use Rattle.std.proofs.lemmas.Bool.{and_parts}
use Rattle.model.specs.Recalling.{Recalled, first, on_cycles, recall_result}
use Rattle.model.specs.State.{State}
use Rattle.model.proofs.Keeps.{consistent_below}
use Rattle.claims.specs.ClaimTable.{AreWaitingSections}
use Rattle.book.specs.Tables.{state, ReportsRecalls}
use Rattle.book.proofs.EntryLemmas.{enters_free, enters_periodic, enters_waiting, enters_recalling}
use Rattle.book.proofs.WokenLemmas.{none_is}
use Rattle.book.proofs.deadlock.enter_claim.Goals as goal

pub returns-then-not-blocked : goal.returns-then-not-blocked
returns-then-not-blocked g c =
    enters_free (g.T.UseTable.meaning c.args.policy.now.table) (g.O.RecallOrder.meaning c.args.policy.now.order) (g.met.O.RecallOrder.lawful c.args.policy.now.order) (state c.args.tables.now) c.args.claim c.args.tables.now.consistent c.requires.in_range c.requires.runs c.requires.room
    c.args.report.now (state c.enter.new.self) c.enter.ensures c.requires.empty (sym c.if-not-blocked.ensures) c.requires.clear

pub returns-in-Periodic : goal.returns-in-Periodic
returns-in-Periodic g c =
    enters_periodic (g.T.UseTable.meaning c.args.policy.now.table) (g.O.RecallOrder.meaning c.args.policy.now.order) (g.met.O.RecallOrder.lawful c.args.policy.now.order) (state c.args.tables.now) c.args.claim c.args.tables.now.consistent c.requires.in_range c.requires.runs c.requires.room
    c.args.report.now (state c.enter.new.self) c.enter.ensures c.requires.empty (sym c.if-not-blocked.ensures) (sym (ap (λ (s : State). s.detection) c.enter.ensures) ∙ c.in-Periodic.is)

pub returns-then-is_none : goal.returns-then-is_none
returns-then-is_none g c =
    let u = g.T.UseTable.meaning c.args.policy.now.table in
    let o = g.O.RecallOrder.meaning c.args.policy.now.order in
    let none = sym (ap (λ (s : State). first u o s (on_cycles u s)) c.enter.ensures) ∙ sym c.victim-found.ensures ∙ none_is c.victim-found.result c.if-is_none.ensures in
    enters_waiting (g.T.UseTable.meaning c.args.policy.now.table) (g.O.RecallOrder.meaning c.args.policy.now.order) (g.met.O.RecallOrder.lawful c.args.policy.now.order) (state c.args.tables.now) c.args.claim c.args.tables.now.consistent c.requires.in_range c.requires.runs c.requires.room
    c.args.report.now (state c.enter.new.self) c.enter.ensures c.requires.empty (sym c.if-not-blocked.ensures) (sym (ap (λ (s : State). s.detection) c.enter.ensures) ∙ c.in-Continuous.is) none

pub bounds-before-claim : goal.bounds-before-claim
bounds-before-claim g c =
    consistent_below (state c.args.tables.now) c.args.tables.now.consistent c.args.claim.dispatch (and_parts _ _ c.requires.in_range).0

pub returns : goal.returns
returns g c =
    let u = g.T.UseTable.meaning c.args.policy.now.table in
    let o = g.O.RecallOrder.meaning c.args.policy.now.order in
    let same = ap (recall_result u o) c.enter.ensures in
    enters_recalling (g.T.UseTable.meaning c.args.policy.now.table) (g.O.RecallOrder.meaning c.args.policy.now.order) (g.met.O.RecallOrder.lawful c.args.policy.now.order) (state c.args.tables.now) c.args.claim c.args.tables.now.consistent c.requires.in_range c.requires.runs c.requires.room
    c.claim_answer.result c.recall_all.new.report (state c.recall_all.new.tables) c.waiting_sections-before.result
    (and_parts _ _ c.requires.in_range).0 (sym (ap (λ (s : State). s.detection) c.enter.ensures) ∙ c.in-Continuous.is)
    (subst (λ (s : State). AreWaitingSections u s.claims c.waiting_sections-before.result) c.enter.ensures c.waiting_sections-before.ensures) c.claim_answer.ensures
    (subst (λ (x : State). ReportsRecalls g.T.UseTable.meaning g.O.RecallOrder.meaning c.args.policy.now x (set c.waiting_sections-before.result c.args.claim.dispatch None) c.recall_all.new.report) c.enter.ensures c.recall_all.ensures.reported)
    (c.recall_all.ensures.after ∙ ap (λ (r : Recalled). r.state) same)
