-- An order's limit, and the kind of an option.
use Rattle.std.specs.Prelude.{ℕ, List, codes}
use Rattle.values.specs.declared.order.Kind.{Kind}
use Rattle.values.specs.declared.order.Kind.TheVariants.{Call, Put}
use Rattle.values.specs.declared.order.OrderPrice.{OrderPrice}
use Rattle.values.specs.declared.order.OrderPrice.TheVariants.{Market, Limit}
use Rattle.values.specs.declared.side.Side.{Side}
use Rattle.values.specs.declared.side.Side.TheVariants.{Buy, Sell}

-- a market order's limit is 10,000,000 to buy and 1 to sell
abbrev pub limit_of : Side → OrderPrice → ℕ
limit_of Buy Market = 10000000
limit_of Sell Market = 1
limit_of s (Limit p) = p

-- as it is printed
abbrev pub kind_word : Kind → List ℕ
kind_word Call = codes "call"
kind_word Put = codes "put"
