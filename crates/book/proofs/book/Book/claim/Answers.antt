use Rattle.std.proofs.Common.{Ok, [], ◌∷◌, sym, refl}
use Rattle.std.proofs.lemmas.Bool.{leb-true, leb-false}
use Rattle.model.specs.Calls.{entry_checks, no_room}
use Rattle.model.specs.declared.call.Call.TheVariants as call
use Rattle.model.proofs.Steps.{asked}
use Rattle.book.specs.Answer.{number}
use Rattle.model.proofs.Grants.{led_invariant}
use Rattle.book.specs.Tables.{state}
use Rattle.book.proofs.CallLemmas.{history_goes_on, CarriedOutIn, done_refused, refusal_first}
use Rattle.book.proofs.ClaimCallLemmas.{passed_at, passed_in_range, passed_runs, asked_covered, asked_no_room, asked_entered}
use Rattle.book.proofs.book.Book.claim.Given as given
use Rattle.book.proofs.book.Book.claim.Goals as goal
use Rattle.book.proofs.book.Book.claim.Goals.{After-enter_claim}

pub returns-in_err-claim : goal.returns-in_err-claim
returns-in_err-claim g c =
    let b = c.args.self.now in
    let u = g.T.UseTable.meaning b.policy.table in
    let s = state b.tables in
    let d = c.args.dispatch in
    let e = c.in_err-claim.field-0.0 in
    done_refused g.T.UseTable.meaning g.O.RecallOrder.meaning b (call.Claim d c.args.section c.args.mode) _ c.from_residual.result e c.empty.result c.from_residual.ensures.1
    (refusal_first (entry_checks u s d c.args.section c.args.mode) (no_room u s d c.args.section c.args.mode ∷ []) (number e) c.in_err-claim.ensures) c.empty.ensures refl refl

pub returns-then-is_covered : goal.returns-then-is_covered
returns-then-is_covered g c =
    let b = c.args.self.now in
    record {
      carried = asked_covered (g.T.UseTable.meaning b.policy.table) (g.O.RecallOrder.meaning b.policy.order) (state b.tables) c.in_ok-claim.claim (asked c.args.dispatch c.args.section c.args.mode) c.in_ok-claim.ensures c.empty.result c.if-is_covered.ensures c.empty.ensures;
      policy = refl;
    }

pub returns-then-is_full : goal.returns-then-is_full
returns-then-is_full g c =
    let b = c.args.self.now in
    record {
      carried = asked_no_room (g.T.UseTable.meaning b.policy.table) (g.O.RecallOrder.meaning b.policy.order) (state b.tables) c.in_ok-claim.claim (asked c.args.dispatch c.args.section c.args.mode) c.in_ok-claim.ensures c.empty.result c.if-is_covered.ensures (leb-true 512 _ (sym c.if-is_full.ensures)) c.empty.ensures;
      policy = refl;
    }

pub enter_claim-requires : goal.enter_claim-requires
enter_claim-requires g c =
    let b = c.args.self.now in
    let u = g.T.UseTable.meaning b.policy.table in
    let o = g.O.RecallOrder.meaning b.policy.order in
    let passed = passed_at u o (state b.tables) c.in_ok-claim.claim (asked c.args.dispatch c.args.section c.args.mode) c.in_ok-claim.ensures in
    record {
      in_range = passed_in_range u o (state b.tables) c.in_ok-claim.claim passed;
      runs = passed_runs u o (state b.tables) c.in_ok-claim.claim passed;
      room = leb-false 512 _ (sym c.if-is_full.ensures);
      clear = (led_invariant (g.T.UseTable.meaning b.policy.table) (g.met.T.UseTable.lawful b.policy.table) (g.O.RecallOrder.meaning b.policy.order) (g.met.O.RecallOrder.lawful b.policy.order) (state b.tables) b.history).no_cycle;
      empty = c.empty.ensures;
    }

-- the claim is entered
carried : (g : given.Over) (c : After-enter_claim g) → CarriedOutIn g.T.UseTable.meaning g.O.RecallOrder.meaning c.args.self.now (call.Claim c.args.dispatch c.args.section c.args.mode) (Ok c.enter_claim.result) c.enter_claim.new.report (state c.enter_claim.new.tables)
carried g c =
    let b = c.args.self.now in
    asked_entered (g.T.UseTable.meaning b.policy.table) (g.O.RecallOrder.meaning b.policy.order) (state b.tables) c.in_ok-claim.claim (asked c.args.dispatch c.args.section c.args.mode) c.in_ok-claim.ensures c.enter_claim.result c.enter_claim.new.report (state c.enter_claim.new.tables) c.if-is_covered.ensures (leb-false 512 _ (sym c.if-is_full.ensures)) c.enter_claim.ensures

pub invariant_of-self-4 : goal.invariant_of-self-4
invariant_of-self-4 g c =
    let b = c.args.self.now in
    record { history = history_goes_on (g.T.UseTable.meaning b.policy.table) (g.O.RecallOrder.meaning b.policy.order) (state b.tables) (call.Claim c.args.dispatch c.args.section c.args.mode) b.history (carried g (goal.at.invariant_of-self-4 g c).After-enter_claim) }

pub returns : goal.returns
returns g c = record { carried = carried g (goal.at.returns g c).After-enter_claim; policy = refl }
