-- The table of spans keeps the laws of a use table.
use Rattle.std.specs.Prelude.{◌≡◌, Bool, true, is_some, Some, None, Option, refl}
use Rattle.std.proofs.Common.{arith}
use Rattle.std.proofs.lemmas.Bool.Decides.{nat_tests}
use Rattle.std.proofs.lemmas.Bool.{false≢true}
use Rattle.uses.specs.Relations.{UseLaws}
use Rattle.uses.specs.Spans.{spans_conflict, span_covers, between, span_of, spans}
use Rattle.uses.specs.declared.spans.Span.{Span}
use Rattle.uses.specs.Fields.{share_symmetric, has_its_own, share_more}

-- only known codes stand in a relation between spans
both_known :
    (r : Span → Span → Bool) (o p : Option Span) → between r o p ≡ true
    → (is_some o ≡ true) × (is_some p ≡ true)
both_known r None p h = absurd (false≢true h)
both_known r (Some s) None h = absurd (false≢true h)
both_known r (Some s) (Some t) h = (refl, refl)

-- conflict is symmetric
symmetric :
    (o p : Option Span) → between spans_conflict o p ≡ true → between spans_conflict p o ≡ true
symmetric None p h = absurd (false≢true h)
symmetric (Some s) None h = absurd (false≢true h)
symmetric (Some s) (Some t) h = grind (arith, nat_tests, share_symmetric s t)

-- each span covers itself
reflexive : (o : Option Span) → is_some o ≡ true → between span_covers o o ≡ true
reflexive None h = absurd (false≢true h)
reflexive (Some s) h = grind (arith, nat_tests, has_its_own s)

-- what conflicts with a covered span conflicts with the covering one
dominates :
    (o p q : Option Span) → between span_covers o p ≡ true → between spans_conflict q p ≡ true
    → between spans_conflict q o ≡ true
dominates None p q h k = absurd (false≢true h)
dominates (Some s) None q h k = absurd (false≢true h)
dominates (Some s) (Some t) None h k = absurd (false≢true k)
dominates (Some s) (Some t) (Some u) h k = grind (arith, nat_tests, share_more s t u)

-- the table of spans keeps the laws
pub spans_lawful : UseLaws spans
spans_lawful = record {
  conflict_known = λ a b. both_known spans_conflict (span_of a) (span_of b);
  cover_known = λ a b. both_known span_covers (span_of a) (span_of b);
  symmetric = λ a b. symmetric (span_of a) (span_of b);
  reflexive = λ a. reflexive (span_of a);
  dominates = λ a b c. dominates (span_of a) (span_of b) (span_of c);
}
