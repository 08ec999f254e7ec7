-- Where a day order displays and how far it reaches, by its side, limit, NBBO and the width in force. Said for a buy; a sell is
-- the mirror.
use Rattle.std.specs.Prelude.{ℕ, ◌-◌, Bool, cond, Some, None, Option, nat_lt}
use Rattle.std.specs.Option.{unwrap_or}
use Rattle.values.specs.declared.nbbo.Nbbo.{Nbbo}
use Rattle.values.specs.declared.side.Side.{Side}
use Rattle.values.specs.declared.side.Side.TheVariants.{Buy, Sell}
use Rattle.values.specs.Sides.{ahead, onward, no_more_aggressive}
use Rattle.values.specs.Nbbos.{own, contra}
use Rattle.collars.specs.declared.pricing.Pricing.{Pricing}
use Rattle.collars.specs.declared.pricing.Pricing.TheVariants.{AtLimit, Wide, Narrow}

-- the limit is at or through the contra side
abbrev pub marketable : Side → ℕ → ℕ → Bool
marketable s limit contra = no_more_aggressive s contra limit

-- NBO − NBB
abbrev pub spread : Side → ℕ → ℕ → ℕ
spread Buy own contra = contra - own
spread Sell own contra = own - contra

-- wide: the display price is NBB + C, the reach the lesser of display + C and the limit;
-- narrow: the reach is the lesser of NBO + C and the limit, and what made no trade displays at the NBB
abbrev pub collared : Side → ℕ → ℕ → ℕ → ℕ → Pricing
collared s limit own contra c =
    cond (nat_lt c (spread s own contra))
    (Wide (ahead s own c) (onward s (ahead s own c) c limit) c)
    (Narrow own (onward s contra c limit) c)

-- collared where both sides are present and the order is marketable
abbrev pub pricing_by : Side → ℕ → ℕ → Option ℕ → Option ℕ → Pricing
pricing_by s limit c None y = AtLimit limit
pricing_by s limit c (Some x) None = AtLimit limit
pricing_by s limit c (Some x) (Some y) = cond (marketable s limit y) (collared s limit x y c) (AtLimit limit)

abbrev pub pricing : Side → ℕ → Nbbo → ℕ → Pricing
pricing s limit b c = pricing_by s limit c (own s b) (contra s b)

abbrev pub reach_of : Pricing → ℕ
reach_of (AtLimit limit) = limit
reach_of (Wide display reach c) = reach
reach_of (Narrow untraded reach c) = reach

-- the display price of the balance, by the price of the last trade
abbrev pub display_of : Pricing → Option ℕ → ℕ
display_of (AtLimit limit) last = limit
display_of (Wide display reach c) last = display
display_of (Narrow untraded reach c) last = unwrap_or last untraded

abbrev pub collar_of : Pricing → Option ℕ
collar_of (AtLimit limit) = None
collar_of (Wide display reach c) = Some c
collar_of (Narrow untraded reach c) = Some c
