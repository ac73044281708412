use Rattle.std.proofs.Common.{ℕ, List, sym, subst, arith, rules, ltb-false, ltb-true}
use Rattle.std.proofs.lemmas.Slice.{first_rest}
use Rattle.protocol.specs.Reading.{Reading}
use Rattle.protocol.proofs.Letters.{reads_long, reads_empty}
use Rattle.protocol.proofs.form.read_call.Goals as goal

pub returns-then-line-gt-LONGEST_LINE : goal.returns-then-line-gt-LONGEST_LINE
returns-then-line-gt-LONGEST_LINE c = search (rules, reads_long)

pub returns-in-empty : goal.returns-in-empty
returns-in-empty c = search (rules, reads_empty, ltb-true)

pub returns-in-len1-up : goal.returns-in-len1-up
returns-in-len1-up c =
    let whole = first_rest c.args.line.now 0 (omega (arith, ltb-false)) in
    subst (λ (l : List ℕ). Reading l c.read_fields.result) (sym whole) c.read_fields.ensures
