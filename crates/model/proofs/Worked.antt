-- The worked examples are right, by computation.
use Rattle.std.specs.Prelude.{refl}
use Rattle.std.specs.List.{AllByRecursion}
use Rattle.std.specs.Fmt.{digits}
use Rattle.uses.specs.Spans.{some_field, each_field}
use Rattle.model.specs.Graph.{closure}
use Rattle.model.specs.Recalling.{on_cycles, recall_result_within, recall_result}
use Rattle.model.specs.Calls.{step}
use Rattle.model.specs.Examples.{IsRight, full_book, examples}

full_right : IsRight full_book
unfolding step closure on_cycles recall_result_within recall_result
full_right = (refl, (refl, (refl, (refl, tt))))

pub all_right : AllByRecursion IsRight examples
unfolding step closure on_cycles recall_result_within recall_result some_field each_field digits
all_right =
    (search, (search, (search, (search, (search, (search, (search, (search, (search, (search, (search, (search, (search, (search, (search, (search, (search, (search, (search, (search, (search, (search, (search, (search, (search, (search, (search, (search, (search, (search, (search, (search, (search, (search, (search, (search, (search, (search, (search, (search, (search, (search, (search, (search, (full_right, (search, (search, (search, (search, (search, (search, (search, (search, (search, (search, (search, tt))))))))))))))))))))))))))))))))))))))))))))))))))))))))
