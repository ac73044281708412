use Rattle.std.proofs.Common.{◌++◌, List, length, take, refl, sym, append-nil, ap, ◌∙◌, arith}
use Rattle.std.specs.List.{list_all}
use Rattle.std.proofs.lemmas.List.{take_all}
use Rattle.model.specs.Calls.{report_of}
use Rattle.model.specs.State.{numbers}
use Rattle.model.specs.Invariant.{entry_in_range}
use Rattle.model.specs.declared.state.OpenEntry.{OpenEntry}
use Rattle.book.specs.Tables.{state, woken_among}
use Rattle.book.proofs.OpenListLemmas.{entry_below}
use Rattle.book.proofs.VictimLemmas.{no_entry}
use Rattle.book.proofs.WokenLemmas.{woken_more}
use Rattle.book.proofs.wakes.name_all_woken.Goals as goal

pub loop-e-init : goal.loop-e-init
loop-e-init g c = (refl, omega (arith, c.requires.none), λ s rs ws sections is. is ∙ ap (report_of rs) (sym (append-nil ws)))

pub name_if_woken-requires : goal.name_if_woken-requires
name_if_woken-requires g c =
    let rows = c.rows-e-items.result.now in
    let long = ap (λ (es : List OpenEntry). length es) c.rows-e-items.ensures.value in
    let small = ap (λ (es : List OpenEntry). list_all entry_in_range es) c.rows-e-items.ensures.value ∙ c.args.tables.now.consistent.entries in
    record {
      small = entry_below rows c.loop-e.e-index no_entry c.loop-e-test.true small;
      room = omega (arith, long, c.loop-e.invariant.0, c.loop-e.invariant.1, c.loop-e-test.true, c.requires.room);
    }

pub loop-e-preserved : goal.loop-e-preserved
loop-e-preserved g c =
    let t = state c.args.tables.now in
    let u = g.T.UseTable.meaning c.args.table.now in
    let rows = c.rows-e-items.result.now in (
      c.name_if_woken.ensures.recalled ∙ c.loop-e.invariant.0,
      omega (arith, c.name_if_woken.ensures.one, c.loop-e.invariant.1),
      λ s rs ws sections is. c.name_if_woken.ensures.named s rs (ws ++ woken_among u s t (numbers (take c.loop-e.e-index rows))) sections (c.loop-e.invariant.2 s rs ws sections is) ∙ woken_more u s t rows c.loop-e.e-index no_entry c.loop-e-test.true rs ws,
    )

pub returns : goal.returns
returns g c s rs ws sections is =
    let t = state c.args.tables.now in
    let u = g.T.UseTable.meaning c.args.table.now in
    c.loop-e.invariant.2 s rs ws sections is
    ∙ ap
    (λ (es : List OpenEntry). report_of rs (ws ++ woken_among u s t (numbers es)))
    (take_all c.loop-e.e-index c.rows-e-items.result.now c.loop-e-test.false ∙ c.rows-e-items.ensures.value)
