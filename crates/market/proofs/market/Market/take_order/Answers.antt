use Rattle.trading.specs.Floors.{rows_on}
use Rattle.market.proofs.Ordered.{order_rivals}
use Rattle.market.proofs.market.Market.take_order.Goals as goal

pub enter-requires-clause-quotes : goal.enter-requires-clause-quotes
enter-requires-clause-quotes g c = order_rivals c.get.result c.args.order.side (rows_on c.args.self.now.floor)
