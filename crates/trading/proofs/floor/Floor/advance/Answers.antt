use Rattle.std.proofs.Common.{◌+◌, arith}
use Rattle.trading.specs.Floors.{rows_on}
use Rattle.trading.proofs.Keeping.{rest_more, floor_numbers, advance_keeps}
use Rattle.trading.proofs.floor.Floor.advance.Goals as goal

pub invariant_of-pit-clause-numbers : goal.invariant_of-pit-clause-numbers
invariant_of-pit-clause-numbers c = let f = c.args.self.now in omega (arith, floor_numbers f, f.ended)

pub advance-requires-clause-rest : goal.advance-requires-clause-rest
advance-requires-clause-rest c =
    let f = c.args.self.now in
    let step = c.requires.step in
    (f.clock, rest_more f.clock f.next 1000000 (rows_on f) f.ended f.rest, omega arith, omega arith)

pub invariant_of-self : goal.invariant_of-self
invariant_of-self c =
    let f = c.args.self.now in
    let step = c.requires.step in
    let kept = advance_keeps f (f.clock + c.args.ms) (omega arith) (omega arith) c.advance.ensures.did.rests in
    record { clocked = c.requires.end; begun = f.begun; ended = f.ended; rest = kept.0; listed = kept.1 }
