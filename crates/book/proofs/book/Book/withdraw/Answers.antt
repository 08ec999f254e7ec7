use Rattle.std.proofs.Common.{sym, ◌∙◌}
use Rattle.book.specs.Books.{rows, dues}
use Rattle.book.proofs.Tied.{gone_tied, kept_tied, absent_without}
use Rattle.book.proofs.book.Book.withdraw.Goals as goal

pub invariant_of-self-2 : goal.invariant_of-self-2
invariant_of-self-2 c =
    let b = c.args.self.now in
    record { tied = gone_tied (dues b) (rows b) b.tied c.args.number c.in_ok-row.row _ _ b.resting.sound.1 (sym c.in_ok-row.ensures.answer) c.unlist.ensures c.remove.ensures.after }

pub invariant_of-self : goal.invariant_of-self
invariant_of-self c =
    let b = c.args.self.now in
    record { tied = kept_tied (dues b) (rows b) b.tied _ (c.remove.ensures.after ∙ absent_without c.args.number (rows b) c.in_err-row.ensures.answer) }
