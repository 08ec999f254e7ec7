use Rattle.std.proofs.Common.{Ok, Err}
use Rattle.std.proofs.lemmas.Result.{err_from_is_err_and}
use Rattle.market.proofs.Answered.{stopped, quote_screened}
use Rattle.market.proofs.Quoted.{passing, refusing}
use Rattle.market.proofs.market.Market.quote.Goals as goal

pub returns-in_err-check_quote : goal.returns-in_err-check_quote
returns-in_err-check_quote g c =
    let p = err_from_is_err_and c.from_residual.result c.from_residual.ensures.1 in
    rw (p.1, p.2) (stopped g.O.Screen g.Q.Screen g.Q.QuoteScreen.extent g.S.PriceSource c.args.self.now _ c.in_err-check_quote.field-0.0 _ c.args.blotter.now c.in_err-check_quote.ensures)

pub returns-in-Ok : goal.returns-in-Ok
returns-in-Ok g c =
    quote_screened g.O.Screen g.Q.Screen g.Q.QuoteScreen.extent g.S.PriceSource c.args.self.now c.take_quote.new.self _ c.args.blotter.now c.take_quote.new.blotter c.args.quote (Ok c.in-Ok.field-0) c.in_ok-check_quote.field-0 c.in_ok-check_quote.ensures (passing _ _ c.in-Ok.field-0 (rw (c.view-view.ensures, c.new.ensures) at c.in-Ok.ensures)) c.take_quote.ensures

pub returns-in-Err : goal.returns-in-Err
returns-in-Err g c =
    let r = refusing _ _ c.in-Err.refusal (rw (c.view-view.ensures, c.new.ensures) at c.in-Err.ensures) in
    quote_screened g.O.Screen g.Q.Screen g.Q.QuoteScreen.extent g.S.PriceSource c.args.self.now c.lose_quotes.new.self _ c.args.blotter.now c.lose_quotes.new.blotter c.args.quote (Err c.in-Err.refusal.cause) c.in_ok-check_quote.field-0 c.in_ok-check_quote.ensures r.0
    (rw (r.1, c.into.ensures) c.lose_quotes.ensures)
