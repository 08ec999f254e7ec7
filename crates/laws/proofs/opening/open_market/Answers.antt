use Rattle.sources.specs.Sources.{reference_of}
use Rattle.market.specs.Markets.{making, state}
use Rattle.laws.proofs.Reaching.{every_history_lawful}
use Rattle.laws.proofs.opening.open_market.Goals as goal

pub returns : goal.returns
returns g c = record {
  lawful = every_history_lawful (making g.O.Screen g.Q.Screen g.Q.QuoteScreen.extent g.S.PriceSource) (state g.O.Screen g.Q.Screen g.Q.QuoteScreen.extent g.S.PriceSource) (reference_of (g.S.PriceSource.references c.args.source)) c.new.result
      (g.met.O.Screen.of_screens c.new.result.orders) (g.met.Q.Screen.of_screens c.new.result.quotes) c.new.ensures.begins;
  parts = c.new.ensures.parts;
}
