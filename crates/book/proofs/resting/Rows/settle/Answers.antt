use Rattle.std.proofs.Common.{◌≡◌, Some, get_or, take, set, sym, subst, ap, ◌∙◌, arith, length-take, length-set}
use lib.Seq.{take-set-lt}
use Rattle.book.specs.declared.row.Row.{Row}
use Rattle.book.specs.Listings.{ranked}
use Rattle.book.specs.Rows.{Sound, numbered, row_of, settle}
use Rattle.book.proofs.Keeps.{found_none}
use Rattle.book.proofs.Settles.{settle_none, settle_nothing, settle_gone, settle_left}
use Rattle.book.proofs.Searches.{first_at, none_at, found_at}
use Rattle.book.proofs.Sound.{sound_settle}
use Rattle.book.proofs.resting.Rows.settle.Goals as goal
use Rattle.book.proofs.resting.Rows.settle.Goals.{After-rows, In-Some}

pub returns-in_err-at : goal.returns-in_err-at
returns-in_err-at c =
    let n = c.args.number in
    let rs = ranked c.args.self.now in
    let none = none_at (numbered n) rs (sym c.in_err-at.ensures) in
    record { answer = c.from_residual.ensures ∙ sym (found_none (numbered n) rs none); after = sym (settle_none c.args.due c.args.by n rs none) }

-- the row that was read is the one with the number
answer : (c : After-rows) (d : Row) → Some (get_or c.rows.result.now c.in_ok-at.at d) ≡ row_of c.args.number (ranked c.args.self.now)
answer c d =
    let n = c.args.number in
    let rs = ranked c.args.self.now in
    let at = c.in_ok-at.at in
    rw c.rows.ensures (sym (found_at (numbered n) rs at d (first_at (numbered n) rs at (sym c.in_ok-at.ensures))))

-- what is left of the row stands in its place
left : (c : In-Some) → take c.args.self.now.count (set c.args.self.now.slots c.in_ok-at.at c.in-Some.left) ≡ settle c.args.due c.args.by c.args.number (ranked c.args.self.now)
left c =
    let b = c.args.self.now in
    let at = c.in_ok-at.at in
    let first = first_at (numbered c.args.number) (ranked b) at (sym c.in_ok-at.ensures) in
    take-set-lt b.count b.slots at c.in-Some.left (omega (arith, first.within, length-take b.count b.slots))
    ∙ settle_left c.args.due c.args.by c.args.number (ranked b) at _ c.in-Some.left c.if-by-gt0.true first (rw c.rows.ensures at c.in-Some.ensures)

pub invariant_of-self : goal.invariant_of-self
invariant_of-self c =
    let b = c.args.self.now in
    record { few = b.few; whole = simp length-set b.whole; sound = subst Sound (sym (left (goal.at.invariant_of-self c).In-Some)) (sound_settle c.args.due c.args.by c.args.number (ranked b) b.sound) }

pub returns-in-Some : goal.returns-in-Some
returns-in-Some c = record { answer = answer (goal.at.returns-in-Some c).After-rows _; after = left (goal.at.returns-in-Some c).In-Some }

pub returns-in-None : goal.returns-in-None
returns-in-None c =
    let n = c.args.number in
    let rs = ranked c.args.self.now in
    let at = c.in_ok-at.at in
    record {
      answer = answer (goal.at.returns-in-None c).After-rows _;
      after = c.take_out.ensures ∙ settle_gone c.args.due c.args.by n rs at _ c.if-by-gt0.true (first_at (numbered n) rs at (sym c.in_ok-at.ensures)) (rw c.rows.ensures at c.in-None.ensures);
    }

pub returns-else-by-gt0 : goal.returns-else-by-gt0
returns-else-by-gt0 c =
    let rs = ranked c.args.self.now in
    let none : c.args.by ≡ 0 = omega arith in
    record {
      answer = answer (goal.at.returns-else-by-gt0 c).After-rows _;
      after = sym (ap (λ q. settle c.args.due q c.args.number rs) none ∙ settle_nothing c.args.due c.args.number rs);
    }
