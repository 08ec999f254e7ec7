use Rattle.std.proofs.Common.{◌≡◌, ◌≤◌, length, rules}
use Rattle.std.specs.List.{filter, All, Any}
use Rattle.std.specs.Option.{MatchOption}
use Rattle.book.specs.Listings.{ranked}
use Rattle.book.specs.Rows.{wanted_from}
use Rattle.book.proofs.Lowest.{lowest_is}
use Rattle.book.proofs.resting.Rows.lowest.Goals as goal

pub returns : goal.returns
returns g c =
    let b = c.args.self.now in
    let p = wanted_from (g.W.Wanted.wants c.args.wanted.now) c.args.from in
    let xs = filter p (ranked b) in
    let picked : MatchOption c.min_by_key.result (length xs ≡ 0) (λ m. Any (λ x. x ≡ m) xs × All (λ x. m.number ≤ x.number) xs) = search rules in
    lowest_is p (ranked b) b.sound.1 c.min_by_key.result picked
