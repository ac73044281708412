-- The recall orders: whether summary a goes no later than summary b.
use Rattle.std.specs.Prelude.{Bool, ◌&&◌, if◌then◌else◌, nat_le}
use Rattle.orders.specs.declared.order.Summary.{Summary}

-- the greater standing goes earlier
abbrev pub newest : Summary → Summary → Bool
newest a b = nat_le b.standing a.standing

-- the smaller weight goes earlier
abbrev pub lightest : Summary → Summary → Bool
lightest a b = nat_le a.weight b.weight

-- the smaller number of held claims goes earlier
abbrev pub fewest : Summary → Summary → Bool
fewest a b = nat_le a.held b.held

-- two summaries tie when each goes no later than the other
abbrev pub ties : (Summary → Summary → Bool) → Summary → Summary → Bool
ties no_later a b = no_later a b && no_later b a

module _ (first second : Summary → Summary → Bool) where
  -- the second order counts only for ties of the first
  abbrev pub pair : Summary → Summary → Bool
  pair a b = if ties first a b then second a b else first a b
