use Rattle.std.proofs.Common.{◌≡◌, None, refl, ap, subst, sym, List, ℕ, ◌≤◌, length, rules}
use Rattle.std.specs.Slice.Iter.{iter_rest}
use Rattle.std.specs.Iterator.Adapters.{zip_first, zip_second}
use Rattle.std.proofs.lemmas.Slice.Zip.{either_empty_from_Zip}
use Rattle.text_buffer.specs.TextBuffer.{put_behind}
use Rattle.text_buffer.proofs.TextBufferLemmas.{behind_fits}
use Rattle.protocol.specs.Words.{entry_lines, entries}
use Rattle.protocol.proofs.NameLines.{lines_same, lines_step, lines_end}
use Rattle.protocol.proofs.outcome.put_names.Goals as goal

pub loop-dispatch-init : goal.loop-dispatch-init
loop-dispatch-init c =
    let it = c.into_iter-dispatch-iterator.result in
    let ds : iter_rest (zip_first it) ≡ c.args.dispatches.now = search rules in
    let ss : iter_rest (zip_second it) ≡ c.args.sections.now = search rules in
    (c.requires, ap (put_behind c.args.out.now) (lines_same c.args.number c.args.word.now ds ss))

pub loop-dispatch-preserved : goal.loop-dispatch-preserved
loop-dispatch-preserved c =
    let was = c.loop-dispatch.dispatch-iterator in
    let left = c.next.new.self in
    let steps = c.in-Some.ensures.steps in
    let all = put_behind c.args.out.now (entry_lines c.args.number c.args.word.now (entries c.args.dispatches.now c.args.sections.now)) in (
      subst (λ (t : List ℕ). length t ≤ 2048) (sym c.put_name.ensures) (behind_fits c.loop-dispatch.out _),
      lines_step c.args.number c.args.word.now c.loop-dispatch.out c.put_name.new.out
          (iter_rest (zip_first was)) (iter_rest (zip_second was)) c.in-Some.dispatch.now c.in-Some.section.now (iter_rest (zip_first left)) (iter_rest (zip_second left))
          all steps.0 steps.1 c.put_name.ensures c.loop-dispatch.invariant.1,
    )

pub returns : goal.returns
returns c =
    let was = c.loop-dispatch.dispatch-iterator in
    let ended = either_empty_from_Zip was c.next.new.self None refl c.in-None.ensures.steps in
    let all = put_behind c.args.out.now (entry_lines c.args.number c.args.word.now (entries c.args.dispatches.now c.args.sections.now)) in
    lines_end c.args.number c.args.word.now c.loop-dispatch.out (iter_rest (zip_first was)) (iter_rest (zip_second was))
    all c.loop-dispatch.invariant.0 ended c.loop-dispatch.invariant.1
