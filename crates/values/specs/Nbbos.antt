-- The national best bid and offer: a side that nobody quotes has no price.
use Rattle.std.specs.Prelude.{ℕ, None, Option}
use Rattle.values.specs.declared.nbbo.Nbbo.{Nbbo}
use Rattle.values.specs.declared.side.Side.{Side}
use Rattle.values.specs.declared.side.Side.TheVariants.{Buy, Sell}
use Rattle.values.specs.Sides.{opposite}

abbrev pub absent : Nbbo
absent = record { bid = None; offer = None }

-- the best price on the side itself
abbrev pub own : Side → Nbbo → Option ℕ
own Buy b = b.bid
own Sell b = b.offer

-- the best price on the contra side: of a buy the NBO, of a sell the NBB
abbrev pub contra : Side → Nbbo → Option ℕ
contra s b = own (opposite s) b
