-- The known codes are exactly the codes of proper spans.
use Rattle.std.proofs.Common.{◌≡◌, ℕ, ◌/◌, ◌%◌, ◌<◌, Some, None, Option, refl, arith}
use Rattle.std.proofs.lemmas.Bool.Decides.{nat_tests}
use Rattle.uses.specs.Spans.{Proper, code_of, number, direction_of, span, span_of, ExactCodes}
use Rattle.uses.specs.declared.spans.Span.{Span}
use Rattle.uses.specs.declared.spans.Direction.{Direction}
use Rattle.uses.specs.declared.spans.Direction.TheVariants.{Up, Down, Works}

direction_read : (d : Direction) → direction_of (number d) ≡ Some d
direction_read Up = refl
direction_read Down = refl
direction_read Works = refl

direction_written : (n : ℕ) (d : Direction) → direction_of n ≡ Some d → number d ≡ n
direction_written n Up h = grind (arith, nat_tests)
direction_written n Down h = grind (arith, nat_tests)
direction_written n Works h = grind (arith, nat_tests)

-- the parts of a span that was made
parts : (o : Option Direction) (from to : ℕ) (s : Span) → span o from to ≡ Some s → (o ≡ Some s.direction) × (from ≡ s.from) × (to ≡ s.to) × (from < to)
parts None from to s h = grind arith
parts (Some d) from to s h = grind (arith, nat_tests)

-- a proper span is read back from its code
span_read : (s : Span) → Proper s → span_of (code_of s) ≡ Some s
span_read s proper =
    let direction_is : code_of s / 65536 ≡ number s.direction = omega arith in
    let from_is : code_of s / 256 % 256 ≡ s.from = omega arith in
    let to_is : code_of s % 256 ≡ s.to = omega arith in
    let made : span (Some s.direction) s.from s.to ≡ Some s = grind (arith, nat_tests) in
    let known = direction_read s.direction in
    cc

-- a span that a code is read as is proper, and has that code
span_written : (a : ℕ) (s : Span) → span_of a ≡ Some s → Proper s × (code_of s ≡ a)
span_written a s h =
    let p = parts (direction_of (a / 65536)) (a / 256 % 256) (a % 256) s h in
    let n = direction_written (a / 65536) s.direction p.0 in
    ((omega arith, omega arith), omega arith)

pub exact_codes : ExactCodes
exact_codes = record { reads = span_read; writes = span_written; up_0_5 = refl; down_4_9 = refl; up_0_64 = refl; up_0_255 = refl }
