use Rattle.std.proofs.Common.{◌≡◌, List, ap, ◌∙◌, rules, tests}
use Rattle.std.specs.Option.{option_map}
use Rattle.std.proofs.lemmas.Iterator.{YieldsList-from_slice}
use Rattle.std.proofs.lemmas.Iterator.Search.{find_from_yields_List}
use Rattle.model.specs.Recalling.{weight}
use Rattle.model.specs.declared.state.OpenEntry.{OpenEntry}
use Rattle.book.proofs.OpenListLemmas.{is_of, weight_found, weight_is}
use Rattle.book.proofs.open_list.OpenList.weight.Goals as goal

pub returns : goal.returns
returns c =
    let d = c.args.dispatch in
    let es = c.rows.result.now in
    let found = find_from_yields_List (is_of d) _ _ c.find.result c.find.ensures.ran (YieldsList-from_slice es c.iter.ensures.rest) (λ x b q k. search (rules, tests)) in
    let weighs : c.map_or.result ≡ weight_found (option_map (λ e. e.now) c.find.result) = search rules in
    weighs ∙ ap weight_found found ∙ weight_is d es ∙ ap (λ (xs : List OpenEntry). weight xs d) c.rows.ensures.value
