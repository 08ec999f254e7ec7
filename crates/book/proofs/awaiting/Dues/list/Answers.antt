use Rattle.std.proofs.Common.{arith}
use Rattle.book.specs.Dues.{due_at, sooner}
use Rattle.book.specs.Listings.{waiting}
use Rattle.book.proofs.Keeps.{length_placed}
use Rattle.book.proofs.awaiting.Dues.list.Goals as goal

pub enter-requires-clause-room : goal.enter-requires-clause-room
enter-requires-clause-room c =
    let due = due_at c.in-Held.due c.args.number in
    omega (arith, length_placed (sooner due) due (waiting c.args.self.now), rw c.in-Held.is at c.requires.room)
