use Rattle.std.proofs.Common.{refl}
use Rattle.trading.proofs.Noted.{pull_same}
use Rattle.market.specs.Markets.{state}
use Rattle.market.proofs.Answered.{none_gained}
use Rattle.market.proofs.market.Market.lose_quotes.Goals as goal

pub returns-in-WholeClass : goal.returns-in-WholeClass
returns-in-WholeClass g c =
    let st = state g.O.Screen g.Q.Screen g.Q.QuoteScreen.extent g.S.PriceSource c.args.self.now in
    let did = rw (c.get.ensures.value, c.class_of-class.ensures) at c.withdraw-in-WholeClass.ensures.did in
    let leaves = c.withdraw-in-WholeClass.ensures.leaves in
    let shut = rw (c.new.ensures, c.class_of-class.ensures) at c.put.ensures in
    rw c.in-WholeClass.is (record {
      comes = record {
        answers = refl;
        moves = λ i. record { nbbo = st.nbbo; reference = st.reference; width = st.width; shut = shut i; rows = did.rests i; clock = leaves.clocked i; next = leaves.numbered i };
        stays = refl;
      };
      trades_gain = none_gained c.args.blotter.now.trades.now _ (pull_same _ _);
      withdrawals_gain = did.gains;
      same_rolls = record { trades = refl; withdrawals = refl };
    })
