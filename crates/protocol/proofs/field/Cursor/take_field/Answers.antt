use Rattle.std.proofs.Common.{arith, rules, ltb-true}
use Rattle.std.proofs.lemmas.List.{get_or_past}
use Rattle.std.proofs.lemmas.Result.{MatchResult-weaker}
use Rattle.protocol.proofs.Coming.{space_first, no_field_digit, no_field_space}
use Rattle.protocol.proofs.field.Cursor.take_field.Goals as goal

pub returns-in-32 : goal.returns-in-32
returns-in-32 c =
    let is = space_first c.args.self.now.rest.now (omega arith) in
    MatchResult-weaker c.take_number.result c.take_number.ensures (λ t h. (_, is, h)) (λ e h. no_field_digit _ _ c.args.self.now.place e is h.0 h.1)

pub returns-in_default : goal.returns-in_default
returns-in_default c = search (rules, no_field_space, ltb-true, get_or_past)
