use Rattle.std.proofs.Common.{◌≡◌, rules}
use Rattle.values.specs.declared.call.Call.TheVariants as call
use Rattle.market.specs.States.{without_number}
use Rattle.market.proofs.Answered.{quietly}
use Rattle.market.proofs.market.Market.call.Goals as goal

pub returns-in-Nbbo : goal.returns-in-Nbbo
returns-in-Nbbo g c =
    let same : c.map.result ≡ without_number c.set_nbbo.result = search rules in
    rw (same, c.in-Nbbo.is) (quietly g.O.Screen g.Q.Screen g.Q.QuoteScreen.extent g.S.PriceSource c.args.self.now c.set_nbbo.new.self (call.Nbbo c.in-Nbbo.series c.in-Nbbo.nbbo) _ c.args.blotter.now c.set_nbbo.ensures)

pub returns-in-Event : goal.returns-in-Event
returns-in-Event g c =
    let same : c.map-in-Event.result ≡ without_number c.tell.result = search rules in
    rw (same, c.in-Event.is) (quietly g.O.Screen g.Q.Screen g.Q.QuoteScreen.extent g.S.PriceSource c.args.self.now c.tell.new.self (call.Event c.in-Event.class c.in-Event.event) _ c.args.blotter.now c.tell.ensures)

pub returns-in-Enable : goal.returns-in-Enable
returns-in-Enable g c =
    let same : c.map-in-Enable.result ≡ without_number c.enable.result = search rules in
    rw (same, c.in-Enable.is) (quietly g.O.Screen g.Q.Screen g.Q.QuoteScreen.extent g.S.PriceSource c.args.self.now c.enable.new.self (call.Enable c.in-Enable.maker c.in-Enable.class) _ c.args.blotter.now c.enable.ensures)

pub returns-in-Width : goal.returns-in-Width
returns-in-Width g c =
    let same : c.map-in-Width.result ≡ without_number c.update_width.result = search rules in
    rw (same, c.in-Width.is) (quietly g.O.Screen g.Q.Screen g.Q.QuoteScreen.extent g.S.PriceSource c.args.self.now c.update_width.new.self (call.Width c.in-Width.update) _ c.args.blotter.now c.update_width.ensures)
