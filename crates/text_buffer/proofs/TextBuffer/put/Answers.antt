use Rattle.std.proofs.Common.{◌+◌, ℕ, List, [], ◌∷◌, take, sym, ap, ◌∙◌, arith, length-take}
use Rattle.std.proofs.lemmas.List.{take_more_set, drop-set-lt}
use Rattle.text_buffer.proofs.TextBufferLemmas.{behind_room, behind_full, blank_after}
use Rattle.text_buffer.specs.TextBuffer.{put_behind}
use Rattle.text_buffer.proofs.TextBuffer.put.Goals as goal

pub invariant_of-self : goal.invariant_of-self
invariant_of-self c =
    let s = c.self.inside in
    (omega arith, drop-set-lt (s.count + 1) s.bytes s.count c.args.byte (omega arith) ∙ blank_after s.bytes s.count 1 c.self.invariant.1)

pub returns-then-self-lt-ROOM : goal.returns-then-self-lt-ROOM
returns-then-self-lt-ROOM c =
    let s = c.self.inside in
    let byte = c.args.byte ∷ [] in
    take_more_set s.bytes s.count c.args.byte (omega arith)
    ∙ sym (behind_room (take s.count s.bytes) byte (omega (arith, length-take s.count s.bytes)))
    ∙ ap (λ (b : List ℕ). put_behind b byte) c.self.view_is

pub returns-else-self-lt-ROOM : goal.returns-else-self-lt-ROOM
returns-else-self-lt-ROOM c =
    let s = c.self.inside in
    let byte = c.args.byte ∷ [] in
    sym c.self.view_is
    ∙ behind_full (take s.count s.bytes) byte (omega (arith, length-take s.count s.bytes))
    ∙ ap (λ (b : List ℕ). put_behind b byte) c.self.view_is
