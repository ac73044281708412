-- The chosen tables keep the laws.
use Rattle.std.proofs.Common.{rules}
use Rattle.uses.specs.Relations.{UseLaws}
use Rattle.uses.specs.TwoUses.{two_uses}
use Rattle.uses.specs.FiveUses.{five_uses}

-- two uses
pub two_lawful : UseLaws two_uses
two_lawful = search rules

-- five uses
pub five_lawful : UseLaws five_uses
five_lawful = search rules
