-- A session.
use Rattle.std.specs.Prelude.{◌≡◌, []}
use Rattle.market.specs.Listings.{listed}
use Rattle.guardlog.specs.declared.session.Session.{Session}
use Rattle.guardlog.specs.declared.session.Session.TheVariants.{Listing, Open}

-- the listing is open, and has no series yet
abbrev pub NothingListed : Session → Type 0
NothingListed (Listing l) = listed l ≡ []
NothingListed (Open m) = ⊥
