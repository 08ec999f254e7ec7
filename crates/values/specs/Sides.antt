-- The two sides of a market, and aggressive prices: a higher buy price or a lower sell price is more aggressive.
use Rattle.std.specs.Prelude.{ℕ, ◌+◌, ◌-◌, ◌≤◌, min, max, Bool, List, codes, nat_le}
use Rattle.values.specs.declared.side.Side.{Side}
use Rattle.values.specs.declared.side.Side.TheVariants.{Buy, Sell}

abbrev pub opposite : Side → Side
opposite Buy = Sell
opposite Sell = Buy

-- p is no more aggressive than q: as a statement, and as a test
abbrev pub NoMoreAggressive : Side → ℕ → ℕ → Type 0
NoMoreAggressive Buy p q = p ≤ q
NoMoreAggressive Sell p q = q ≤ p

abbrev pub no_more_aggressive : Side → ℕ → ℕ → Bool
no_more_aggressive Buy p q = nat_le p q
no_more_aggressive Sell p q = nat_le q p

-- c cents more aggressive than p; a sell price stops at nothing
abbrev pub ahead : Side → ℕ → ℕ → ℕ
ahead Buy p c = p + c
ahead Sell p c = p - c

-- the less aggressive of two prices
abbrev pub less_aggressive : Side → ℕ → ℕ → ℕ
less_aggressive Buy p q = min p q
less_aggressive Sell p q = max p q

-- c cents onward from p, not past the limit
abbrev pub onward : Side → ℕ → ℕ → ℕ → ℕ
onward s p c limit = less_aggressive s (ahead s p c) limit

-- as it is printed
abbrev pub side_word : Side → List ℕ
side_word Buy = codes "buy"
side_word Sell = codes "sell"
