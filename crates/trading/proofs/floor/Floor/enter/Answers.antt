use Rattle.std.proofs.Common.{arith}
use Rattle.trading.proofs.Keeping.{floor_numbers, enter_keeps}
use Rattle.trading.proofs.floor.Floor.enter.Goals as goal

pub invariant_of-pit-clause-numbers : goal.invariant_of-pit-clause-numbers
invariant_of-pit-clause-numbers c = let f = c.args.self.now in omega (arith, floor_numbers f, f.ended)

pub enter-requires-clause-numbers : goal.enter-requires-clause-numbers
enter-requires-clause-numbers c = let n = c.requires.number in omega (arith, floor_numbers c.args.self.now)

pub invariant_of-self : goal.invariant_of-self
invariant_of-self c =
    let f = c.args.self.now in
    let kept = enter_keeps f c.args.ticket c.args.pricing c.requires.number c.requires.reach c.requires.series c.enter.ensures.did.rests in
    record { clocked = f.clocked; begun = omega arith; ended = omega (arith, c.requires.last); rest = kept.0; listed = kept.1 }
