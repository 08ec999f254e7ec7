use Rattle.book.specs.Books.{rows, dues}
use Rattle.book.proofs.Tied.{insert_room, insert_unused, insert_tied}
use Rattle.book.proofs.book.Book.insert.Goals as goal

pub list-requires : goal.list-requires
list-requires c =
    let b = c.args.self.now in
    record { room = insert_room (dues b) (rows b) b.tied c.args.row c.requires.fits c.requires.room; unused = insert_unused (dues b) (rows b) b.tied c.args.row c.requires.fits }

pub invariant_of-self : goal.invariant_of-self
invariant_of-self c =
    let b = c.args.self.now in
    record { tied = insert_tied (dues b) (rows b) b.tied c.args.row c.requires.fits _ _ c.list.ensures c.insert.ensures }
