-- The width of a series' collar.
use Rattle.std.specs.Prelude.{ℕ, cond, Some, None, Option, nat_le, nat_lt}

-- by the NBB: below 200 it is 25, to 500 it is 40, to 1,000 it is 50, to 2,000 it is 80, above that 100
abbrev pub ladder : ℕ → ℕ
ladder bid = cond (nat_lt bid 200) 25 (cond (nat_le bid 500) 40 (cond (nat_le bid 1000) 50 (cond (nat_le bid 2000) 80 100)))

-- by what an update gave, if any, else by the ladder
abbrev pub width_by : Option ℕ → ℕ → ℕ
width_by None bid = ladder bid
width_by (Some w) bid = w
