-- The relation that a chart shows.
use Rattle.std.specs.Prelude.{ℕ, Bool}
use Rattle.uses.specs.Relations.{Relations}
use Rattle.use_charts.specs.declared.Relation.{Relation}
use Rattle.use_charts.specs.declared.Relation.TheVariants.{Conflicts, Covers}

-- the answer at one place of a chart: who conflicts, or who covers
abbrev pub answer_of : Relations → Relation → ℕ → ℕ → Bool
answer_of m Conflicts a b = m.conflict a b
answer_of m Covers a b = m.cover a b
