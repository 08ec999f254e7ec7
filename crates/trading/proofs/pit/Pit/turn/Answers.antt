use Rattle.std.proofs.Common.{◌+◌, length, sym, ap, arith}
use Rattle.book.specs.Books.{rows}
use Rattle.trading.specs.Desks.{highest}
use Rattle.trading.proofs.Advanced.{moved_length, moved_highest, turned}
use Rattle.trading.proofs.pit.Pit.turn.Goals as goal

pub invariant_of-self-2 : goal.invariant_of-self-2
invariant_of-self-2 c =
    let pit = c.args.self.now in
    let few = moved_length c.in-Some.row.number c.onward-display.result (c.args.entry.moment + 1000) (rows pit.book.now) in
    let high = moved_highest c.in-Some.row.number c.onward-display.result (c.args.entry.moment + 1000) (rows pit.book.now) in
    let n = ap length c.move_display.ensures in
    let h = ap highest c.move_display.ensures in
    record { room = omega (arith, pit.room); numbers = omega (arith, pit.numbers) }

pub returns : goal.returns
returns c = record {
  did = turned c.args.clock c.args.entry.moment c.args.entry.number _ _ _ _ _ c.in-Some.row c.in-Held.collar c.in-Held.due c.onward-display.result (sym c.in-Some.ensures) c.in-Held.is c.onward-display.ensures c.move_display.ensures c.serve.ensures.did;
  same_book = c.serve.ensures.same_book;
  same_roll = c.serve.ensures.same_roll;
}
