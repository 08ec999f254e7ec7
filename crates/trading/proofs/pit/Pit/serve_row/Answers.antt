use Rattle.std.proofs.Common.{refl}
use Rattle.book.specs.Books.{rows}
use Rattle.trading.proofs.Faces.{row_of_has}
use Rattle.trading.proofs.Served.{standing_served, row_room, row_numbers}
use Rattle.trading.proofs.pit.Pit.serve_row.Goals as goal

pub invariant_of-self : goal.invariant_of-self
invariant_of-self c =
    let pit = c.args.self.now in
    let there = row_of_has c.args.row.number (rows pit.book.now) c.args.row c.requires.rests in
    record {
      room = row_room c.args.due c.args.row c.in-Held.collar c.onward.result c.onward.ensures c.take-left.ensures c.settle.ensures pit.book.now.resting.sound there pit.room;
      numbers = row_numbers c.args.due c.args.row c.in-Held.collar c.onward.result c.onward.ensures c.take-left.ensures c.settle.ensures pit.numbers;
    }

pub returns-in-Held : goal.returns-in-Held
returns-in-Held c = record {
  did = standing_served c.args.due c.args.row c.in-Held.collar c.onward.result c.onward.ensures c.take-left.ensures c.settle.ensures c.in-Held.due c.in-Held.is;
  same_book = refl;
  same_roll = refl;
}
