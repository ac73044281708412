-- The laws that every recall order keeps.
use Rattle.std.specs.Prelude.{Bool, true, ◌||◌, ◌≡◌}
use Rattle.orders.specs.declared.order.Summary.{Summary}

-- `no_later a b` says that summary a goes no later than summary b
pub record OrderLaws (no_later : Summary → Summary → Bool) : Type 0 where
  -- any two summaries can be compared
  pub total : (a b : Summary) → (no_later a b || no_later b a) ≡ true
  -- who goes no later than a second goes no later than whom the second goes no later than
  pub transitive :
      (a b c : Summary) → no_later a b ≡ true → no_later b c ≡ true → no_later a c ≡ true
