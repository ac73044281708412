-- The names of tables, orders and detections.
use Rattle.std.specs.Prelude.{◌≡◌, ◌↔◌, ℕ, List, ◌++◌, Some, codes, Option}
use Rattle.model.specs.declared.state.Detection.{Detection}
use Rattle.model.specs.declared.state.Detection.TheVariants.{Continuous, Periodic}
use Rattle.settings.specs.declared.any_table.AnyTable.{AnyTable}
use Rattle.settings.specs.declared.any_table.AnyTable.TheVariants.{Two, Five, Span}
use Rattle.settings.specs.declared.single_order.SingleOrder.{SingleOrder}
use Rattle.settings.specs.declared.single_order.SingleOrder.TheVariants.{Newest, Lightest, Fewest}
use Rattle.settings.specs.declared.any_order.AnyOrder.{AnyOrder}
use Rattle.settings.specs.declared.any_order.AnyOrder.TheVariants.{One, Pair}

-- the name of a table
abbrev pub table_name : AnyTable → List ℕ
table_name (Two t) = codes "two"
table_name (Five t) = codes "five"
table_name (Span t) = codes "span"

-- the name of a single order
abbrev pub single_name : SingleOrder → List ℕ
single_name Newest = codes "newest"
single_name Lightest = codes "lightest"
single_name Fewest = codes "fewest"

-- the name of an order; of a pair two names, a comma between, the one that counts first in front
abbrev pub order_name : AnyOrder → List ℕ
order_name (One o) = single_name o
order_name (Pair p) = single_name p.first ++ (codes "," ++ single_name p.second)

-- the name of a detection
abbrev pub detection_name : Detection → List ℕ
detection_name Continuous = codes "continuous"
detection_name Periodic = codes "periodic"

-- a thing is the answer exactly when the word is its name; so a word that is no name has none
abbrev pub IsNameOf : {X : Type 0} → (X → List ℕ) → List ℕ → Option X → Type 0
IsNameOf {X} name word r = (x : X) → (r ≡ Some x) ↔ (word ≡ name x)
