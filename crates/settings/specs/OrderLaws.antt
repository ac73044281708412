-- The chosen orders keep the laws.
use Rattle.std.proofs.Common.{rules, arith}
use Rattle.std.specs.Prelude.{Bool}
use Rattle.std.proofs.lemmas.Bool.Decides.{nat_tests}
use Rattle.orders.specs.declared.order.Summary.{Summary}
use Rattle.orders.specs.Laws.{OrderLaws}
use Rattle.orders.specs.Orders.{pair}
use Rattle.settings.specs.Meanings.{single_meaning}
use Rattle.settings.specs.declared.single_order.SingleOrder.{SingleOrder}
use Rattle.settings.specs.declared.single_order.SingleOrder.TheVariants.{Newest, Lightest, Fewest}

-- a single order
pub single_lawful : (o : SingleOrder) → OrderLaws (single_meaning o)
single_lawful Newest = search rules
single_lawful Lightest = search rules
single_lawful Fewest = search rules

-- a pair of two lawful orders
pub pair_lawful : {f g : Summary → Summary → Bool}
    → OrderLaws f → OrderLaws g → OrderLaws (pair f g)
pair_lawful {f} {g} lf lg = record {
  total = λ a b. grind (arith, nat_tests, lf.total a b, lg.total a b);
  transitive = λ a b c p q. grind (
    arith,
    nat_tests,
    p,
    q,
    lf.transitive a b c,
    lf.transitive c b a,
    lf.transitive b c a,
    lf.transitive c a b,
    lg.transitive a b c,
    lf.total a c,
    lf.total b c,
    lf.total a b,
  );
}
