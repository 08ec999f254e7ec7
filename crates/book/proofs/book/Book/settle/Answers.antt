use Rattle.std.proofs.Common.{◌≡◌, None, sym, refl, ap, ◌∙◌, arith}
use Rattle.book.specs.Books.{rows, dues}
use Rattle.book.specs.Rows.{settle, without}
use Rattle.book.proofs.Settles.{settle_nothing}
use Rattle.book.proofs.Sound.{few_rows}
use Rattle.book.proofs.Tied.{gone_tied, settled_tied, part_room, part_tied, part_unused, kept_tied, absent_settle}
use Rattle.book.proofs.book.Book.settle.Goals as goal

pub invariant_of-self : goal.invariant_of-self
invariant_of-self c =
    let b = c.args.self.now in
    let none : c.settle.result ≡ None = cc in
    record { tied = kept_tied (dues b) (rows b) b.tied _ (c.settle.ensures.after ∙ absent_settle c.args.due c.args.by c.args.number (rows b) (sym none ∙ c.settle.ensures.answer)) }

pub invariant_of-self-else-by-gt0 : goal.invariant_of-self-else-by-gt0
invariant_of-self-else-by-gt0 c =
    let b = c.args.self.now in
    record { tied = kept_tied (dues b) (rows b) b.tied _ (c.settle.ensures.after ∙ ap (λ q. settle c.args.due q c.args.number (rows b)) (omega arith) ∙ settle_nothing c.args.due c.args.number (rows b)) }

pub list-requires : goal.list-requires
list-requires c =
    let b = c.args.self.now in
    let n = c.args.number in
    let r = c.in-Some.row in
    let f = sym c.in-Some.ensures.answer in
    let h = b.resting.sound.1 in
    record {
      room = part_room (dues b) (rows b) b.tied c.args.due c.args.by n r h f (omega arith) c.if-by-row.true _ c.unlist.ensures (few_rows b.resting) _ c.renew.ensures;
      unused = part_unused n r (rows b) h f _ (gone_tied (dues b) (rows b) b.tied n r _ (without n (rows b)) h f c.unlist.ensures refl);
    }

pub invariant_of-self-then-by-row : goal.invariant_of-self-then-by-row
invariant_of-self-then-by-row c =
    let b = c.args.self.now in
    record {
      tied =
          part_tied (dues b) (rows b) b.tied c.args.due c.args.by c.args.number c.in-Some.row b.resting.sound.1 (sym c.in-Some.ensures.answer) (omega arith) c.if-by-row.true _ c.unlist.ensures
          _ c.renew.ensures _ _ c.list.ensures c.settle.ensures.after;
    }

pub invariant_of-self-else-by-row : goal.invariant_of-self-else-by-row
invariant_of-self-else-by-row c =
    let b = c.args.self.now in
    record { tied = settled_tied (dues b) (rows b) b.tied c.args.due c.args.by c.args.number c.in-Some.row _ _ b.resting.sound.1 (sym c.in-Some.ensures.answer) (omega arith) c.if-by-row.false c.unlist.ensures c.settle.ensures.after }
