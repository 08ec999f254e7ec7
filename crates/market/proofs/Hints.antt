-- For the functions that name them: the lemmas that their proofs take besides the usual ones.
use Rattle.std.proofs.lemmas.Option.{unwrap_or-slice_get}
use Rattle.trading.proofs.Noted.{advance_same, enter_adds, enter_same, pull_same}
use Rattle.market.proofs.Answered.{none_gained}
use Rattle.market.proofs.Ordered.{priced_in}
use Rattle.market.proofs.Quotas.{numbered_one, side_one, class_few}
use Rattle.market.proofs.Quoted.{side_place}

-- a series read, or the default
pub ruleset reads = (unwrap_or-slice_get)

-- one row is withdrawn, and nothing is traded
pub ruleset withdraws = (numbered_one, pull_same, none_gained)

-- nothing is withdrawn
pub ruleset advances = (advance_same, none_gained)

-- nothing is withdrawn, and a balance displays within its reach
pub ruleset orders = (enter_same, none_gained, priced_in)

-- few quotes are withdrawn
pub ruleset loses = (side_one, class_few, pull_same, none_gained)

-- the older quote is withdrawn and leaves a place, and the new one enters
pub ruleset quotes = (side_one, side_place, pull_same, enter_adds, enter_same)
