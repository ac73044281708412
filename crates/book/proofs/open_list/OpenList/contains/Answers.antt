use Rattle.std.proofs.Common.{◌∙◌, rules, tests}
use Rattle.std.proofs.lemmas.Iterator.{YieldsList-from_slice}
use Rattle.std.proofs.lemmas.Iterator.Search.{any_from_yields_List}
use Rattle.book.proofs.OpenListLemmas.{is_of, listed_is}
use Rattle.book.proofs.open_list.OpenList.contains.Goals as goal

pub returns : goal.returns
returns c =
    let d = c.args.dispatch in
    any_from_yields_List (is_of d) _ _ _ c.any.ensures.ran (YieldsList-from_slice c.args.self.now (cc)) (λ x b q k. search (rules, tests)) ∙ listed_is d c.args.self.now
