use Rattle.std.proofs.Common.{ℕ, List, Option, unwrap_or, length, ap, ◌∙◌, rules, tests}
use Rattle.std.proofs.lemmas.Iterator.{YieldsList-from_slice}
use Rattle.std.proofs.lemmas.Iterator.Search.{position_from_yields_List}
use Rattle.model.specs.Recalling.{standing}
use Rattle.model.specs.declared.state.OpenEntry.{OpenEntry}
use Rattle.book.proofs.OpenListLemmas.{is_of, standing_is}
use Rattle.book.proofs.open_list.OpenList.standing.Goals as goal

pub returns : goal.returns
returns c =
    let d = c.args.dispatch in
    let es = c.rows-entries.result.now in
    let found = position_from_yields_List (is_of d) _ _ c.position.result c.position.ensures.ran (YieldsList-from_slice es c.iter.ensures.rest) (λ x b q k. search (rules, tests)) in
    c.unwrap_or.ensures ∙ ap (λ (r : Option ℕ). unwrap_or r (length es)) found ∙ standing_is d es
    ∙ ap (λ (xs : List OpenEntry). standing xs d) c.rows-entries.ensures.value
