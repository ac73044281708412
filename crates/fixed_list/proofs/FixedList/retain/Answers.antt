use Rattle.std.proofs.Common.{◌≡◌, ◌<◌, true, false, length, get_or, sym, refl, ◌∙◌, arith, length-set}
use Rattle.std.proofs.lemmas.Fn.{says_at}
use Rattle.std.proofs.lemmas.List.Filters.{FiltersInPlace-more_set, FiltersInPlace-more_no}
use Rattle.std.proofs.lemmas.List.{get_or_default}
use Rattle.fixed_list.proofs.FixedList.retain.Goals as goal
use Rattle.fixed_list.proofs.FixedList.retain.Goals.{then-test, else-test}

pub loop-i-preserved : goal.loop-i-preserved
loop-i-preserved g c =
    let kept = c.loop-i.invariant in
    let within : c.loop-i.i < length c.loop-i.self-inside.items = omega arith in
    let x = get_or c.loop-i.self-inside.items c.loop-i.i c.index-self-i.result in
    let read = get_or_default c.loop-i.self-inside.items c.loop-i.i c.index-self-i.result x within in
    let tested = says_at g.F.Fn c.test.ensures refl in
    elim c.if-test.branch [
      | then-test w ↦ let stays : c.test.result ≡ true = cc in
          simp (w.self-inside-is, w.remaining-is) ((λ passes says. FiltersInPlace-more_set (kept.0 passes says) within (sym (says x c.test.result tested) ∙ stays) read), omega arith, kept.2, length-set _ _ _ ∙ kept.3)
      | else-test w ↦ let goes : c.test.result ≡ false = cc in
          simp (w.self-inside-is, w.remaining-is) ((λ passes says. FiltersInPlace-more_no (kept.0 passes says) within (sym (says x c.test.result tested) ∙ goes) read), omega arith, kept.2, kept.3)
    ]
