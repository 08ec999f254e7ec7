use Rattle.std.proofs.Common.{◌≡◌, ℕ, true, ◌||◌, length, Option, sym, ap, ◌∙◌, subst, arith}
use Rattle.book.specs.Lists.{every}
use Rattle.book.specs.Rows.{agrees, sized, numbered, moved_to, moved_in, may_move_in, insert, without}
use Rattle.book.specs.Books.{rows}
use Rattle.book.specs.declared.row.Row.{Row}
use Rattle.book.proofs.Keeps.{every_left}
use Rattle.book.proofs.Sound.{few_rows}
use Rattle.book.proofs.Tied.{absent_without, found_every, found_less, found_number}
use Rattle.book.proofs.book.Book.move_display.Goals as goal

pub insert-requires : goal.insert-requires
insert-requires c =
    let b = c.args.self.now in
    let n = c.args.number in
    let r = c.in-Some.row in
    let f = sym c.in-Some.ensures.answer in
    let moved = moved_to c.args.display c.args.due r in
    let clear : every (λ x. numbered n x || agrees moved x) (rows b) ≡ true =
    subst (λ (k : ℕ). every (λ x. numbered k x || agrees moved x) (rows b) ≡ true) (found_number n (rows b) r f)
    (sym (ap (λ (o : Option Row). may_move_in o c.args.display c.args.due (rows b)) f) ∙ c.requires) in
    rw c.moved_to.ensures (record {
      room = omega (arith, few_rows b.resting, found_less (numbered n) (rows b) r f, ap length c.in-Some.ensures.after);
      fits = ap (every (agrees moved)) c.in-Some.ensures.after ∙ every_left (numbered n) (agrees moved) (rows b) clear;
      some = found_every sized (numbered n) (rows b) r b.resting.sound.2 f;
    })

pub returns-in-Some : goal.returns-in-Some
returns-in-Some c =
    let b = c.args.self.now in
    let n = c.args.number in
    let r = c.in-Some.row in
    let f = sym c.in-Some.ensures.answer in
    let moved = moved_to c.args.display c.args.due r in
    c.insert.ensures
    ∙ ap (λ (x : Row). insert x (rows c.withdraw.new.self)) c.moved_to.ensures
    ∙ ap (insert moved) c.in-Some.ensures.after
    ∙ ap (λ (k : ℕ). insert moved (without k (rows b))) (sym (found_number n (rows b) r f))
    ∙ ap (λ (o : Option Row). moved_in o c.args.display c.args.due (rows b)) (sym f)

pub returns-in_default : goal.returns-in_default
returns-in_default c =
    let b = c.args.self.now in
    c.in_default.ensures.after ∙ absent_without c.args.number (rows b) c.in_default.ensures.answer
    ∙ ap (λ (o : Option Row). moved_in o c.args.display c.args.due (rows b)) c.in_default.ensures.answer
