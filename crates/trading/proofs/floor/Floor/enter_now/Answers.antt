use Rattle.std.proofs.Common.{arith}
use Rattle.trading.proofs.Keeping.{enter_now_keeps}
use Rattle.trading.proofs.floor.Floor.enter_now.Goals as goal

pub invariant_of-self : goal.invariant_of-self
invariant_of-self c =
    let f = c.args.self.now in
    let kept = enter_now_keeps f c.args.ticket c.enter_now.ensures.trades.rests in
    record { clocked = f.clocked; begun = omega arith; ended = omega arith; rest = kept.0; listed = kept.1 }
