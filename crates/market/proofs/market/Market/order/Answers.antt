use Rattle.std.proofs.Common.{Ok, Err}
use Rattle.std.proofs.lemmas.Result.{err_from_is_err_and}
use Rattle.market.proofs.Answered.{refused, stopped, order_screened}
use Rattle.market.proofs.market.Market.order.Goals as goal

pub returns-in_err-check_order : goal.returns-in_err-check_order
returns-in_err-check_order g c =
    let p = err_from_is_err_and c.from_residual.result c.from_residual.ensures.1 in
    rw (p.1, p.2) (stopped g.O.Screen g.Q.Screen g.Q.QuoteScreen.extent g.S.PriceSource c.args.self.now _ c.in_err-check_order.field-0.0 _ c.args.blotter.now c.in_err-check_order.ensures)

pub returns-in_err-screens : goal.returns-in_err-screens
returns-in_err-screens g c =
    let p = err_from_is_err_and c.from_residual-in_err-screens.result c.from_residual-in_err-screens.ensures.1 in
    rw (p.1, p.2) (order_screened g.O.Screen g.Q.Screen g.Q.QuoteScreen.extent g.S.PriceSource c.args.self.now c.args.self.now _ c.args.blotter.now c.args.blotter.now c.args.order (Err c.in_err-screens.field-0.0) c.in_ok-check_order.field-0 c.in_ok-check_order.ensures (rw c.new.ensures at c.in_err-screens.ensures)
    (refused g.O.Screen g.Q.Screen g.Q.QuoteScreen.extent g.S.PriceSource c.args.self.now _ c.args.blotter.now))

pub returns : goal.returns
returns g c =
    order_screened g.O.Screen g.Q.Screen g.Q.QuoteScreen.extent g.S.PriceSource c.args.self.now c.take_order.new.self _ c.args.blotter.now c.take_order.new.blotter c.args.order (Ok c.in_ok-screens.field-0) c.in_ok-check_order.field-0 c.in_ok-check_order.ensures (rw c.new.ensures at c.in_ok-screens.ensures) c.take_order.ensures
