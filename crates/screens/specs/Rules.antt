-- The rules' own screens.
use Rattle.std.specs.Prelude.{ℕ}
use Rattle.values.specs.declared.side.Side.{Side}
use Rattle.screens.specs.declared.view.View.{View}
use Rattle.screens.specs.declared.view.Extent.{Extent}
use Rattle.screens.specs.Screens.{Meaning}
use Rattle.screens.specs.Checks.{limit_order_filter, order_price_check, quote_nbbo_check, quote_benchmark_check, one_side, whole_class}
use Rattle.screens.specs.Piles.{piled, piled_extent}

-- of limit orders: the filter before the price check
abbrev pub order_rules : Meaning
order_rules v s p = piled (limit_order_filter v s p) (order_price_check v s p)

-- of quotes: the NBBO check before the benchmark check
abbrev pub quote_rules : Meaning
quote_rules v s p = piled (quote_nbbo_check v s p) (quote_benchmark_check v s p)

abbrev pub quote_rules_extent : View → Side → ℕ → Extent
quote_rules_extent v s p = piled_extent (quote_nbbo_check v s p) (one_side v s p) (whole_class v s p)
