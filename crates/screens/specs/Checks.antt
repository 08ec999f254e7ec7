-- The four checks, each by its answer for every view, side and price. Prices are whole cents, and no price is divided: a half is
-- compared by its double, a percentage by its hundredfold.
use Rattle.std.specs.Prelude.{ℕ, ◌+◌, ◌-◌, ◌*◌, Bool, cond, ◌&&◌, Some, None, Option, nat_le, nat_lt}
use Rattle.values.specs.declared.order.Kind.{Kind}
use Rattle.values.specs.declared.order.Kind.TheVariants.{Call, Put}
use Rattle.values.specs.declared.reference.Reference.{Reference}
use Rattle.values.specs.declared.reference.Reference.TheVariants.{Absent, Close, Sale, Halted}
use Rattle.values.specs.declared.refusal.Cause.TheVariants.{Through, Benchmark, Intrinsic}
use Rattle.values.specs.declared.side.Side.{Side}
use Rattle.values.specs.declared.side.Side.TheVariants.{Buy, Sell}
use Rattle.values.specs.Nbbos.{contra}
use Rattle.screens.specs.declared.view.View.{View}
use Rattle.screens.specs.declared.view.Extent.{Extent}
use Rattle.screens.specs.declared.view.Extent.TheVariants.{OneSide, WholeClass}
use Rattle.screens.specs.Screens.{Meaning}
use Rattle.screens.specs.Views.{Verdict, passes, refused_if}

-- a check that needs a price passes where it is absent
abbrev pub where_there : Option ℕ → (ℕ → Verdict) → Verdict
where_there None check = passes
where_there (Some c) check = check c

-- ---- the Limit Order Filter

-- 100 percent where the contra side is at most 100 cents, else 50
abbrev pub margin : ℕ → ℕ
margin c = cond (nat_le c 100) 100 50

abbrev pub far_through : Side → ℕ → ℕ → Bool
far_through Buy c p = nat_le ((100 + margin c) * c) (100 * p)
far_through Sell c p = nat_le (100 * p) ((100 - margin c) * c)

abbrev pub limit_order_filter : Meaning
limit_order_filter v s p = where_there (contra s v.nbbo) (λ c. refused_if Through (far_through s c p))

-- ---- the order price check

-- the price of the last sale, while the stock trades
abbrev pub last_sale : Reference → Option ℕ
last_sale Absent = None
last_sale (Close r) = None
last_sale (Sale r) = Some r
last_sale (Halted r) = None

abbrev pub above_value : Kind → ℕ → ℕ → ℕ → Bool
above_value Put strike r p = nat_le strike p
above_value Call strike r p = nat_le (r + 500) p

-- r − strike for a call, strike − r for a put, and 0 where that is not above 0
abbrev pub intrinsic_value : Kind → ℕ → ℕ → ℕ
intrinsic_value Call strike r = r - strike
intrinsic_value Put strike r = strike - r

abbrev pub below_half : ℕ → ℕ → Bool
below_half value p = nat_lt 0 value && nat_le (100 * p) (50 * value)

abbrev pub sale_check : Kind → ℕ → Side → ℕ → ℕ → Verdict
sale_check kind strike Buy p r = refused_if Benchmark (above_value kind strike r p)
sale_check kind strike Sell p r = refused_if Intrinsic (below_half (intrinsic_value kind strike r) p)

abbrev pub order_price_check : Meaning
order_price_check v s p = where_there (last_sale v.reference) (sale_check v.kind v.strike s p)

-- ---- the quote NBBO check

-- a dollar or more over an offer of at most a dollar, half or more over a higher one; half or less of a bid above a dollar
abbrev pub quote_through : Side → ℕ → ℕ → Bool
quote_through Buy c p = cond (nat_le c 100) (nat_le (c + 100) p) (nat_le (150 * c) (100 * p))
quote_through Sell c p = nat_lt 100 c && nat_le (100 * p) (50 * c)

abbrev pub quote_nbbo_check : Meaning
quote_nbbo_check v s p = where_there (contra s v.nbbo) (λ c. refused_if Through (quote_through s c p))

-- ---- the quote benchmark check

-- the price of the stock, whatever kind of reference it is
abbrev pub stock_price : Reference → Option ℕ
stock_price Absent = None
stock_price (Close r) = Some r
stock_price (Sale r) = Some r
stock_price (Halted r) = Some r

-- the most that the option can be worth: a put its strike, a call the stock
abbrev pub benchmark : Kind → ℕ → Reference → Option ℕ
benchmark Put strike ref = Some strike
benchmark Call strike ref = stock_price ref

abbrev pub benchmark_by : Side → Option ℕ → ℕ → Verdict
benchmark_by Buy most p = where_there most (λ w. refused_if Benchmark (nat_le w p))
benchmark_by Sell most p = passes

abbrev pub quote_benchmark_check : Meaning
quote_benchmark_check v s p = benchmark_by s (benchmark v.kind v.strike v.reference) p

-- ---- how far the refusals of the two quote checks reach

abbrev pub one_side : View → Side → ℕ → Extent
one_side v s p = OneSide

abbrev pub whole_class : View → Side → ℕ → Extent
whole_class v s p = WholeClass
