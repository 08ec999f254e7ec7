use Rattle.std.proofs.Common.{◌≡◌, sym, ap, ◌∙◌, rules, tests}
use Rattle.std.specs.List.{slice_get}
use Rattle.std.proofs.lemmas.List.Sorted.{IsPartitionPoint-from_clause}
use Rattle.book.specs.Listings.{ranked}
use Rattle.book.proofs.Searches.{parted_at, copied_item}
use Rattle.book.proofs.Sound.{is_before, partitioned_side, best_at, if_there}
use Rattle.book.proofs.resting.Rows.best.Goals as goal

pub returns : goal.returns
returns c =
    let b = c.args.self.now in
    let x = c.args.series in
    let side = c.args.side in
    let i = c.partition_point-at.result in
    let point = IsPartitionPoint-from_clause (is_before x side) (ranked b) i (rw c.rows-rows.ensures at c.partition_point-at.ensures.partitioned) (partitioned_side x side (ranked b) b.sound) (λ a r f k. search (rules, tests)) in
    let there : c.filter.result ≡ if_there x side c.copied.result = search (rules, tests) in
    let got : c.copied.result ≡ slice_get (ranked b) i = c.copied.ensures ∙ copied_item (ranked b) i c.get.result (rw c.rows-rows.ensures at c.get.ensures.lookup) in
    there ∙ ap (if_there x side) got
    ∙ sym (best_at x side (ranked b) i b.sound.0 (parted_at (is_before x side) (ranked b) i (rw c.rows-rows.ensures at c.partition_point-at.ensures.bound) point))
