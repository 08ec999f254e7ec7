use Rattle.trading.proofs.Entered.{entered_now}
use Rattle.trading.proofs.entering.enter_now.Goals as goal

pub returns : goal.returns
returns c =
    let did = entered_now c.args.due c.args.ticket _ c.taker_of.ensures _ _ c.args.trades.now c.take-left.new.trades c.args.withdrawals.now c.lapse.new.withdrawals _ c.take-left.ensures c.lapse.ensures in
    record { trades = did.0; withdrawals = did.1 }
