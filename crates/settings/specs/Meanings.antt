-- What a table and an order mean that are chosen at run time: what the chosen one means.
use Rattle.std.specs.Prelude.{Bool}
use Rattle.uses.specs.Relations.{Relations}
use Rattle.uses.specs.TwoUses.{two_uses}
use Rattle.uses.specs.FiveUses.{five_uses}
use Rattle.uses.specs.Spans.{spans}
use Rattle.orders.specs.declared.order.Summary.{Summary}
use Rattle.orders.specs.Orders.{newest, lightest, fewest, pair}
use Rattle.settings.specs.declared.any_table.AnyTable.{AnyTable}
use Rattle.settings.specs.declared.any_table.AnyTable.TheVariants.{Two, Five, Span}
use Rattle.settings.specs.declared.single_order.SingleOrder.{SingleOrder}
use Rattle.settings.specs.declared.single_order.SingleOrder.TheVariants.{Newest, Lightest, Fewest}
use Rattle.settings.specs.declared.any_order.AnyOrder.{AnyOrder}
use Rattle.settings.specs.declared.any_order.AnyOrder.TheVariants.{One, Pair}

-- the relations of the chosen table
abbrev pub table_meaning : AnyTable → Relations
table_meaning (Two t) = two_uses
table_meaning (Five t) = five_uses
table_meaning (Span t) = spans

-- the relation of the chosen single order
abbrev pub single_meaning : SingleOrder → Summary → Summary → Bool
single_meaning Newest = newest
single_meaning Lightest = lightest
single_meaning Fewest = fewest

-- the relation of the chosen order; of a pair the first counts first
abbrev pub order_meaning : AnyOrder → Summary → Summary → Bool
order_meaning (One o) = single_meaning o
order_meaning (Pair p) = pair (single_meaning p.first) (single_meaning p.second)
