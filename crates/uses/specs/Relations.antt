-- What a use table means, and the laws that every use table keeps.
use Rattle.std.specs.Prelude.{◌≡◌, ℕ, Bool, true}

-- The meaning of a use table: three relations on use codes (lock modes).
pub record Relations : Type 0 where
  -- the code is a use of this table
  pub known : ℕ → Bool
  -- the two uses cannot be held side by side by two dispatches
  pub conflict : ℕ → ℕ → Bool
  -- who has the first use has no need to claim the second
  pub cover : ℕ → ℕ → Bool

-- The laws of a use table. The first two say that unknown codes neither conflict nor cover, the
-- other three speak of known uses.
pub record UseLaws (m : Relations) : Type 0 where
  -- only known uses conflict
  pub conflict_known : (a b : ℕ) → m.conflict a b ≡ true → (m.known a ≡ true) × (m.known b ≡ true)
  -- only known uses cover and are covered
  pub cover_known : (a b : ℕ) → m.cover a b ≡ true → (m.known a ≡ true) × (m.known b ≡ true)
  -- conflict is symmetric
  pub symmetric : (a b : ℕ) → m.conflict a b ≡ true → m.conflict b a ≡ true
  -- each known use covers itself
  pub reflexive : (a : ℕ) → m.known a ≡ true → m.cover a a ≡ true
  -- a use conflicts with whatever a use that it covers conflicts with
  pub dominates : (a b c : ℕ) → m.cover a b ≡ true → m.conflict c b ≡ true → m.conflict c a ≡ true
