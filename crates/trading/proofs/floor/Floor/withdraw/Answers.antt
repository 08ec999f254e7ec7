use Rattle.std.proofs.Common.{arith}
use Rattle.trading.proofs.Keeping.{floor_numbers, withdraw_keeps}
use Rattle.trading.proofs.floor.Floor.withdraw.Goals as goal

pub withdraw_all-requires-clause-numbers : goal.withdraw_all-requires-clause-numbers
withdraw_all-requires-clause-numbers g c = let f = c.args.self.now in omega (arith, floor_numbers f, f.ended)

pub invariant_of-self : goal.invariant_of-self
invariant_of-self g c =
    let f = c.args.self.now in
    let kept = withdraw_keeps f (g.W.Wanted.wants c.args.wanted.now) c.withdraw_all.ensures.rests in
    record { clocked = f.clocked; begun = f.begun; ended = f.ended; rest = kept.0; listed = kept.1 }
