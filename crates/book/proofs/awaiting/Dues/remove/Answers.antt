use Rattle.std.proofs.Common.{sym, subst, ◌∙◌, arith}
use Rattle.book.specs.Dues.{InTurn, owed}
use Rattle.book.specs.Listings.{waiting}
use Rattle.book.proofs.Keeps.{lacking_none}
use Rattle.book.proofs.Searches.{FirstAt, first_at, none_at, lacking_at}
use Rattle.book.proofs.Turns.{turns_remove, single_owed}
use Rattle.book.proofs.awaiting.Dues.remove.Goals as goal
use Rattle.book.proofs.awaiting.Dues.remove.Goals.{In-Some}

first : (c : In-Some) → FirstAt (owed c.args.number) (waiting c.args.self.now) c.in-Some.at
first c = first_at (owed c.args.number) (waiting c.args.self.now) c.in-Some.at (sym c.in-Some.ensures)

pub invariant_of-self : goal.invariant_of-self
invariant_of-self c =
    let b = c.args.self.now in
    record { few = omega arith; whole = omega arith; turns = subst InTurn (sym c.close_place.ensures.front) (turns_remove c.in-Some.at (waiting b) b.turns) }

pub returns-in-Some : goal.returns-in-Some
returns-in-Some c =
    let b = c.args.self.now in
    let n = c.args.number in
    c.close_place.ensures.front ∙ lacking_at (owed n) (waiting b) c.in-Some.at (single_owed n (waiting b) b.turns) (first (goal.at.returns-in-Some c).In-Some)

pub returns-in_default : goal.returns-in_default
returns-in_default c =
    let n = c.args.number in
    let ds = waiting c.args.self.now in
    sym (lacking_none (owed n) ds (none_at (owed n) ds (sym c.in_default.ensures)))
