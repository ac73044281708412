use Rattle.std.proofs.Common.{ℕ, ◌+◌, ◌-◌, ◌≤◌, List, ◌++◌, take, sym, ap, ◌∙◌, arith, length-take}
use Rattle.std.proofs.lemmas.Slice.{take-put_mid, drop-put_mid}
use Rattle.text_buffer.specs.declared.TheConstants.{ROOM}
use Rattle.text_buffer.specs.TextBuffer.{put_behind}
use Rattle.text_buffer.proofs.TextBufferLemmas.{take_fitting, blank_after}
use Rattle.text_buffer.proofs.TextBuffer.put_all.Goals as goal

pub invariant_of-self : goal.invariant_of-self
invariant_of-self c =
    let s = c.self.inside in
    let fitting = c.min-fitting.result in
    let end = s.count + fitting in
    let bound : s.count + fitting ≤ ROOM = omega arith in
    (bound, drop-put_mid s.count (end - s.count) s.bytes c.copy_from_slice.new.self end (omega arith) (omega arith) (omega arith) ∙ blank_after s.bytes s.count fitting c.self.invariant.1)

pub returns : goal.returns
unfolding put_behind
returns c =
    let s = c.self.inside in
    let more = c.args.more.now in
    let end = s.count + c.min-fitting.result in
    take-put_mid s.count (end - s.count) s.bytes c.copy_from_slice.new.self end (omega arith) (omega arith)
    ∙ ap (λ (t : List ℕ). take s.count s.bytes ++ t) c.copy_from_slice.ensures.after
    ∙ ap (λ (n : ℕ). take s.count s.bytes ++ take n more) c.min-fitting.ensures
    ∙ sym (take_fitting ROOM s.count (take s.count s.bytes) more (omega (arith, length-take s.count s.bytes)) c.self.invariant.0)
    ∙ ap (λ (b : List ℕ). put_behind b more) c.self.view_is
