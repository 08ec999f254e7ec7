use Rattle.std.proofs.Common.{◌≡◌, ◌+◌, take, sym, subst, ◌∙◌, arith, rules, tests, length-take}
use Rattle.std.proofs.lemmas.List.Sorted.{IsPartitionPoint-from_clause}
use Rattle.book.specs.Dues.{InTurn, entered, sooner}
use Rattle.book.specs.Listings.{waiting}
use Rattle.book.proofs.Searches.{parted_at}
use Rattle.book.proofs.Turns.{turns_entered, partitioned_turn, placed_turn}
use Rattle.book.proofs.awaiting.Dues.enter.Goals as goal
use Rattle.book.proofs.awaiting.Dues.enter.Goals.{After-open_place}

-- the entry stands at its turn
placed : (c : After-open_place) → take (c.args.self.now.count + 1) c.open_place.new.slots ≡ entered c.args.due (waiting c.args.self.now)
placed c =
    let b = c.args.self.now in
    let due = c.args.due in
    let i = c.partition_point-at.result in
    let point = IsPartitionPoint-from_clause (λ d. sooner d due) (waiting b) i (rw c.entries.ensures at c.partition_point-at.ensures.partitioned) (partitioned_turn due (waiting b) b.turns) (λ a r f k. search (rules, tests)) in
    c.open_place.ensures.front ∙ placed_turn due (waiting b) i c.requires.unused (parted_at (λ d. sooner d due) (waiting b) i (rw c.entries.ensures at c.partition_point-at.ensures.bound) point)

pub invariant_of-self : goal.invariant_of-self
invariant_of-self c =
    let b = c.args.self.now in
    record {
      few = omega (arith, length-take b.count b.slots, c.requires.room);
      whole = omega arith;
      turns = subst InTurn (sym (placed c)) (turns_entered c.args.due (waiting b) c.requires.unused b.turns);
    }

pub returns : goal.returns
returns c = placed (goal.at.returns c).After-open_place
