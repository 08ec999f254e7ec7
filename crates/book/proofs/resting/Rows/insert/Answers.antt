use Rattle.std.proofs.Common.{◌≡◌, ◌+◌, take, sym, subst, ◌∙◌, arith, rules, tests, length-take}
use Rattle.std.proofs.lemmas.List.Sorted.{IsPartitionPoint-from_clause}
use Rattle.book.specs.Listings.{ranked}
use Rattle.book.specs.Rows.{Sound, precedes, insert}
use Rattle.book.proofs.Searches.{parted_at}
use Rattle.book.proofs.Sound.{sound_insert, partitioned_rank, placed_rank}
use Rattle.book.proofs.resting.Rows.insert.Goals as goal
use Rattle.book.proofs.resting.Rows.insert.Goals.{After-open_place}

-- the row stands at its rank
placed : (c : After-open_place) → take (c.args.self.now.count + 1) c.open_place.new.slots ≡ insert c.args.row (ranked c.args.self.now)
placed c =
    let b = c.args.self.now in
    let row = c.args.row in
    let i = c.partition_point-at.result in
    let point = IsPartitionPoint-from_clause (λ r. precedes r row) (ranked b) i (rw c.rows.ensures at c.partition_point-at.ensures.partitioned) (partitioned_rank row (ranked b) b.sound) (λ a r f k. search (rules, tests)) in
    c.open_place.ensures.front ∙ placed_rank row (ranked b) i c.requires.fits (parted_at (λ r. precedes r row) (ranked b) i (rw c.rows.ensures at c.partition_point-at.ensures.bound) point)

pub invariant_of-self : goal.invariant_of-self
invariant_of-self c =
    let b = c.args.self.now in
    record {
      few = omega (arith, length-take b.count b.slots, c.requires.room);
      whole = omega arith;
      sound = subst Sound (sym (placed c)) (sound_insert c.args.row (ranked b) c.requires.fits c.requires.some b.sound);
    }

pub returns : goal.returns
returns c = placed (goal.at.returns c).After-open_place
