use Rattle.market.proofs.Quoted.{side_rivals}
use Rattle.market.proofs.market.Market.take_quote.Goals as goal

pub enter-requires-clause-quotes : goal.enter-requires-clause-quotes
enter-requires-clause-quotes g c = let x = c.args.quote in rw c.withdraw.ensures.did.rests (side_rivals x.maker x.series x.side c.args.self.now.floor)
