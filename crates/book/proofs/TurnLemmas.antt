-- The turns of recalling, one after another, as the book takes them.
use Rattle.std.proofs.Common.{◌≡◌, ℕ, suc, ◌+◌, ◌-◌, ◌<◌, ◌≤◌, List, [], ◌∷◌, ◌++◌, length, Some, None, sym, refl, ap, ◌∙◌, arith}
use Rattle.std.proofs.lemmas.List.{append-nil, append_assoc, length_push}
use Rattle.uses.specs.Relations.{Relations}
use Rattle.orders.specs.Laws.{OrderLaws}
use Rattle.model.specs.State.{State, recall}
use Rattle.model.specs.Recalling.{Order, Recalled, entry_of, nobody, first, on_cycles, recall_result_within, recall_result}
use Rattle.model.specs.Calls.{report_of}
use Rattle.model.specs.declared.report.ReportEntry.{ReportEntry}
use Rattle.model.specs.declared.report.Report.{Report}
use Rattle.model.proofs.Recalls.{Grounded, recalling_recalls}
use Rattle.model.proofs.Exact.{recalls_shorten}
use Rattle.model.specs.Invariant.{IsConsistent}
use Rattle.model.proofs.Keeps.{consistent_few, consistent_grounded}
use Rattle.model.proofs.Turns.{recalling_turns, turn_none, turn_some, turn_last}

-- after some turns the named are done, and what is left to do gives the rest
pub record Turned (u : Relations) (o : Order) (s₀ s : State) (turn : ℕ) (r : Report) : Type 0 where
  pub so_far : List ReportEntry
  pub named_so : r ≡ report_of so_far []
  pub count : length so_far ≡ turn
  pub recalls : (recall_result_within 64 u o s₀).recalls ≡ so_far ++ (recall_result_within (64 - turn) u o s).recalls
  pub state : (recall_result_within 64 u o s₀).state ≡ (recall_result_within (64 - turn) u o s).state

-- a dispatch and its section, as a report names them
abbrev pub name : ℕ → ℕ → ReportEntry
name d section = record { dispatch = d; section = section }

module _ (u : Relations) (o : Order) where
  -- before the first turn
  pub turned_none : (s : State) (r : Report) → r ≡ report_of [] [] → Turned u o s s 0 r
  turned_none s r is = record { so_far = []; named_so = is; count = refl; recalls = refl; state = refl }

  -- one more turn, with a victim
  pub turned_more : (s₀ s : State) (turn : ℕ) (r r' : Report) (d : ℕ) → turn < 64 → first u o s (on_cycles u s) ≡ Some d → (t : Turned u o s₀ s turn r) → ((rs : List ReportEntry) → r ≡ report_of rs [] → r' ≡ report_of (rs ++ entry_of u s d ∷ []) []) → Turned u o s₀ (recall d s) (turn + 1) r'
  turned_more s₀ s turn r r' d low e t more =
      let n = 64 - (turn + 1) in
      let fuel : 64 - turn ≡ suc n = omega arith in
      let one = turn_some u o n s d e in
      record {
        so_far = t.so_far ++ entry_of u s d ∷ [];
        named_so = more t.so_far t.named_so;
        count = length_push t.so_far (entry_of u s d) ∙ ap (λ k. k + 1) t.count;
        recalls =
            t.recalls
            ∙ (ap (λ k. t.so_far ++ (recall_result_within k u o s).recalls) fuel
            ∙ (ap (λ (x : Recalled). t.so_far ++ x.recalls) one
            ∙ sym (append_assoc t.so_far (entry_of u s d ∷ []) (recall_result_within n u o (recall d s)).recalls)));
        state = t.state ∙ (ap (λ k. (recall_result_within k u o s).state) fuel ∙ ap (λ (x : Recalled). x.state) one);
      }

  -- what the turns come to: the state, and the report
  pub record Came (s₀ s : State) (r : Report) : Type 0 where
    pub state : s ≡ (recall_result u o s₀).state
    pub report : r ≡ report_of (recall_result u o s₀).recalls []

  -- when what is left to do is nothing
  came_with_nothing_left : (lawful : OrderLaws o) (s₀ s : State) (turn : ℕ) (r : Report) → Grounded s₀ → length s₀.opened ≤ 64 → Turned u o s₀ s turn r → recall_result_within (64 - turn) u o s ≡ nobody s → Came s₀ s r
  came_with_nothing_left lawful s₀ s turn r g few t none =
      let all = recalling_turns u o lawful 64 s₀ g few in
      record {
        state = sym (ap (λ (x : Recalled). x.state) all ∙ (t.state ∙ ap (λ (x : Recalled). x.state) none));
        report =
            t.named_so
            ∙ ap (λ rs. report_of rs [])
            (sym (ap (λ (x : Recalled). x.recalls) all ∙ (t.recalls ∙ (ap (λ (x : Recalled). t.so_far ++ x.recalls) none ∙ append-nil t.so_far))));
      }

  -- there is no victim
  pub came_early : (lawful : OrderLaws o) (s₀ s : State) (turn : ℕ) (r : Report) → Grounded s₀ → length s₀.opened ≤ 64 → turn < 64 → Turned u o s₀ s turn r → first u o s (on_cycles u s) ≡ None → Came s₀ s r
  came_early lawful s₀ s turn r g few low t e =
      let fuel : 64 - turn ≡ suc (64 - (turn + 1)) = omega arith in
      came_with_nothing_left lawful s₀ s turn r g few t (ap (λ k. recall_result_within k u o s) fuel ∙ turn_none u o (64 - (turn + 1)) s e)

  -- all turns are taken
  pub came_late : (lawful : OrderLaws o) (s₀ s : State) (turn : ℕ) (r : Report) → Grounded s₀ → length s₀.opened ≤ 64 → 64 ≤ turn → Turned u o s₀ s turn r → Came s₀ s r
  came_late lawful s₀ s turn r g few high t =
      let fuel : 64 - turn ≡ 0 = omega arith in
      came_with_nothing_left lawful s₀ s turn r g few t (ap (λ k. recall_result_within k u o s) fuel ∙ turn_last u o s)

-- after recalling there is room for all who are still open
pub recalled_room : (u : Relations) (o : Order) → OrderLaws o → (s t : State) (r : Report) → IsConsistent s → t ≡ (recall_result u o s).state → r ≡ report_of (recall_result u o s).recalls [] → r.recalled + length t.opened ≤ 64
recalled_room u o lawful s t r w same is =
    let shorter = recalls_shorten u o (recalling_recalls u o lawful s (consistent_grounded s w)) (consistent_grounded s w) in
    let count = ap (λ (x : Report). x.recalled) is in
    let long = ap (λ (x : State). length x.opened) same in
    omega (arith, shorter, count, long, consistent_few s w)
