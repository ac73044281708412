use Rattle.std.proofs.Common.{◌≡◌, ◌≤◌, length}
use Rattle.std.specs.Slice.Iter.{iter_rest}
use Rattle.std.specs.Iterator.Adapters.{zip_first, zip_second}
use Rattle.text_buffer.specs.TextBuffer.{put_behind}
use Rattle.protocol.specs.Words.{entry_lines, entries}
use Rattle.protocol.proofs.outcome.put_names.Given as goal

abbrev pub invariant-loop-dispatch : goal.invariant-loop-dispatch
invariant-loop-dispatch l =
    let left = entries (iter_rest (zip_first l.dispatch-iterator)) (iter_rest (zip_second l.dispatch-iterator)) in
    (length l.out ≤ 2048) × (put_behind l.out (entry_lines l.number l.word left) ≡ put_behind l.initial.out (entry_lines l.number l.word (entries l.dispatches l.sections)))
