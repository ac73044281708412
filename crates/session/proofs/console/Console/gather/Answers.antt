use Rattle.std.proofs.Common.{◌≡◌, ℕ, ◌-◌, ◌≤◌, ◌++◌, length, take, min, sym, refl, ap, ◌∙◌, arith}
use Rattle.text_buffer.proofs.TextBufferLemmas.{take_fitting}
use Rattle.book.specs.Tables.{state}
use Rattle.session.specs.History.{position_of_parts}
use Rattle.session.specs.Stands.{position_of}
use Rattle.session.proofs.Histories.{history_kept}
use Rattle.session.proofs.console.Console.gather.Given as given
use Rattle.session.proofs.console.Console.gather.Goals as goal
use Rattle.session.proofs.console.Console.gather.Goals.{After-extend_from_slice}

-- the first 33 bytes are kept
kept : (g : given.Over) (c : After-extend_from_slice g) → c.extend_from_slice.new.self ≡ take 33 (c.args.self.now.line ++ c.args.bytes.now)
kept g c =
    let l = c.args.self.now.line in
    let bytes = c.args.bytes.now in
    let few : length l ≤ 33 = omega (arith, c.len-room.ensures.value, c.len-room.ensures.fits) in
    let size : c.min.result ≡ min (33 - length l) (length bytes) = rw (← c.len-room.ensures.value) c.min.ensures in
    c.extend_from_slice.ensures
    ∙ ap (λ (n : ℕ). l ++ take n bytes) size
    ∙ sym (take_fitting 33 (length l) l bytes refl few)

pub invariant_of-self : goal.invariant_of-self
invariant_of-self g c =
    let was = c.args.self.now in
    record {
      few = was.few;
      history = history_kept (g.T.UseTable.meaning was.book.policy.table) (g.O.RecallOrder.meaning was.book.policy.order) c.args.bytes.now (position_of was) (position_of_parts (state was.book.tables) was.answered c.extend_from_slice.new.self) c.requires refl refl (kept g (goal.at.invariant_of-self g c).After-extend_from_slice) was.history;
    }

pub returns-clause-kept : goal.returns-clause-kept
returns-clause-kept g c = kept g (goal.at.returns-clause-kept g c).After-extend_from_slice
