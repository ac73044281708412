-- The table of spans: a use is a direction and a run of a section's fields.
use Rattle.std.specs.Prelude.{◌≡◌, ℕ, zero, suc, ◌+◌, ◌*◌, ◌/◌, ◌%◌, ◌<◌, ◌≤◌, Bool, true, false, if◌then◌else◌, not, ◌&&◌, ◌||◌, is_some, Some, None, Option, ◌==◌, nat_le, nat_lt, List, ◌++◌, codes, decimal}
use Rattle.uses.specs.Relations.{Relations}
use Rattle.uses.specs.declared.spans.Direction.{Direction}
use Rattle.uses.specs.declared.spans.Direction.TheVariants.{Up, Down, Works}
use Rattle.uses.specs.declared.spans.Span.{Span}

-- the number of a direction in a code
abbrev pub number : Direction → ℕ
number Up = 1
number Down = 2
number Works = 3

-- the code of a span
abbrev pub code_of : Span → ℕ
code_of s = number s.direction * 65536 + s.from * 256 + s.to

-- a span of the table takes at least one field, and ends at 255 or before
abbrev pub Proper : Span → Type 0
Proper s = (s.from < s.to) × (s.to ≤ 255)

-- the direction of a number, where it is one
abbrev pub direction_of : ℕ → Option Direction
direction_of n =
    if n == 1 then Some Up else if n == 2 then Some Down else if n == 3 then Some Works else None

-- the span in a direction from one field up to another, where there is a direction and some field
-- between them
abbrev pub span : Option Direction → ℕ → ℕ → Option Span
span None from to = None
span (Some d) from to =
    if nat_lt from to then Some (record { direction = d; from = from; to = to }) else None

-- the span that a code stands for; a code that stands for none is unknown
abbrev pub span_of : ℕ → Option Span
span_of a = span (direction_of (a / 65536)) (a / 256 % 256) (a % 256)

-- a direction as it is printed
abbrev pub direction_name : Direction → List ℕ
direction_name Up = codes "up"
direction_name Down = codes "down"
direction_name Works = codes "works"

-- a span as it is printed: its direction, and the two ends of its fields with a dash between
abbrev pub span_text : Span → List ℕ
span_text s =
    direction_name s.direction ++ (codes " " ++ (decimal s.from ++ (codes "-" ++ decimal s.to)))

-- a span takes the fields from its first, and the one at which it ends no more
abbrev pub takes : Span → ℕ → Bool
takes s field = nat_le s.from field && nat_lt field s.to

-- some field below n passes
unfoldable pub some_field : ℕ → (ℕ → Bool) → Bool
some_field zero p = false
some_field (suc n) p = p n || some_field n p

-- each field below n passes
unfoldable pub each_field : ℕ → (ℕ → Bool) → Bool
each_field zero p = true
each_field (suc n) p = p n && each_field n p

-- the two spans share one of the fields 0 to 254
abbrev pub share_a_field : Span → Span → Bool
share_a_field s t = some_field 255 (λ field. takes s field && takes t field)

-- the first span has all fields of the second
abbrev pub has_all_fields_of : Span → Span → Bool
has_all_fields_of s t = each_field 255 (λ field. not (takes t field) || takes s field)

-- the two directions are the same
abbrev pub same : Direction → Direction → Bool
same d e = number d == number e

-- both up or both down
abbrev pub travel_one_way : Direction → Direction → Bool
travel_one_way d e = (same d Up && same e Up) || (same d Down && same e Down)

-- spans conflict in a field that both take, unless they travel one way
abbrev pub spans_conflict : Span → Span → Bool
spans_conflict s t = share_a_field s t && not (travel_one_way s.direction t.direction)

-- a span covers one of its own direction whose fields it has; works covers in every direction
abbrev pub span_covers : Span → Span → Bool
span_covers s t = has_all_fields_of s t && (same s.direction Works || same s.direction t.direction)

-- the relation holds of the spans of two codes; with an unknown code it does not
abbrev pub between : (Span → Span → Bool) → Option Span → Option Span → Bool
between r None t = false
between r (Some s) None = false
between r (Some s) (Some t) = r s t

-- the meaning of the table
abbrev pub spans : Relations
spans = record {
  known = λ a. is_some (span_of a);
  conflict = λ a b. between spans_conflict (span_of a) (span_of b);
  cover = λ a b. between span_covers (span_of a) (span_of b);
}

-- the known codes are the codes of proper spans, each of its own span
pub record ExactCodes : Type 0 where
  pub reads : (s : Span) → Proper s → span_of (code_of s) ≡ Some s
  pub writes : (a : ℕ) (s : Span) → span_of a ≡ Some s → Proper s × (code_of s ≡ a)
  -- for example, up 0 to 5, down 4 to 9, up 0 to 64 and up 0 to 255
  pub up_0_5 : span_of 65541 ≡ Some (record { direction = Up; from = 0; to = 5 })
  pub down_4_9 : span_of 132105 ≡ Some (record { direction = Down; from = 4; to = 9 })
  pub up_0_64 : span_of 65600 ≡ Some (record { direction = Up; from = 0; to = 64 })
  pub up_0_255 : span_of 65791 ≡ Some (record { direction = Up; from = 0; to = 255 })
