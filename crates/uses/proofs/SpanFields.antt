-- Where to look for a shared field, and for all fields of another span.
use Rattle.std.proofs.Common.{◌≡◌, ◌-◌, ◌<◌, ◌≤◌, max, ◌&&◌, arith}
use Rattle.std.proofs.lemmas.Bool.Decides.{same_from_decides, nat_tests}
use Rattle.uses.specs.Spans.{takes, share_a_field, has_all_fields_of}
use Rattle.uses.specs.declared.spans.Span.{Span}
use Rattle.uses.specs.Fields.{sharing, having}

-- two spans share a field exactly when they share the later of their first fields
pub share_later : (s t : Span) → s.to ≤ 255 → share_a_field s t ≡ (takes s (max s.from t.from) && takes t (max s.from t.from))
share_later s t ends =
    same_from_decides _ _ (sharing s t) ((λ h. (max s.from t.from, grind (arith, nat_tests), h)), λ k. grind (arith, nat_tests))

-- a span has all fields of one that is not empty exactly when it has its first and its last
pub has_first_and_last : (s t : Span) → t.to ≤ 255 → t.from < t.to → has_all_fields_of s t ≡ (takes s t.from && takes s (t.to - 1))
has_first_and_last s t ends some =
    same_from_decides _ _ (having s t)
    ((λ h k below. grind (arith, nat_tests)), λ each. grind (arith, nat_tests, each t.from (omega arith), each (t.to - 1) (omega arith)))
