-- The collar of an order: the width at its admission, if it was a marketable day order while both sides of the NBBO were present.
use Rattle.std.specs.Prelude.{ℕ, Bool, true, cond, Some, None, Option}
use Rattle.values.specs.declared.call.Call.{Call}
use Rattle.values.specs.declared.call.Call.TheVariants as call
use Rattle.values.specs.declared.nbbo.Nbbo.{Nbbo}
use Rattle.values.specs.declared.order.OrderPrice.{OrderPrice}
use Rattle.values.specs.declared.order.OrderPrice.TheVariants.{Market, Limit}
use Rattle.values.specs.declared.order.Condition.{Condition}
use Rattle.values.specs.declared.order.Condition.TheVariants.{Day, Immediate}
use Rattle.values.specs.declared.side.Side.{Side}
use Rattle.values.specs.declared.side.Side.TheVariants.{Buy, Sell}
use Rattle.values.specs.Orders.{limit_of}
use Rattle.values.specs.Sides.{no_more_aggressive}
use Rattle.collars.specs.Collars.{width_by}
use Rattle.laws.specs.Histories.{History}
use Rattle.laws.specs.Admissions.{Admission, admission}
use Rattle.laws.specs.Views.{nbbo_of, width_of}

pub record Collar : Type 0 where
  pub side : Side
  pub limit : ℕ
  -- in cents, for good
  pub width : ℕ
  -- its own side and the contra side in the view of the admission
  pub own : ℕ
  pub contra : ℕ

-- a market order is marketable, and a limit order whose limit is at or through the contra side
abbrev pub is_marketable : Side → OrderPrice → ℕ → Bool
is_marketable side Market contra = true
is_marketable side (Limit p) contra = no_more_aggressive side contra p

abbrev pub contra_of : Side → ℕ → ℕ → ℕ
contra_of Buy bid offer = offer
contra_of Sell bid offer = bid

abbrev pub own_of : Side → ℕ → ℕ → ℕ
own_of Buy bid offer = bid
own_of Sell bid offer = offer

-- by the width that an update gave the series, if any, and by the NBB and the NBO
abbrev pub collar_by : Side → OrderPrice → Option ℕ → Option ℕ → Option ℕ → Option Collar
collar_by side price w None offer = None
collar_by side price w (Some bid) None = None
collar_by side price w (Some bid) (Some offer) =
    cond (is_marketable side price (contra_of side bid offer))
    (Some (record { side = side; limit = limit_of side price; width = width_by w bid; own = own_of side bid offer; contra = contra_of side bid offer }))
    None

abbrev pub collar_for : Condition → Side → OrderPrice → Option ℕ → Nbbo → Option Collar
collar_for Day side price w b = collar_by side price w b.bid b.offer
collar_for Immediate side price w b = None

abbrev pub collar_at : Call → History → Option Collar
collar_at (call.Order o) h = collar_for o.condition o.side o.price (width_of o.series h) (nbbo_of o.series h)
collar_at other h = None

abbrev pub collar_in : Option Admission → Option Collar
collar_in None = None
collar_in (Some a) = collar_at a.call a.before

-- the collar of n
abbrev pub collar_of : ℕ → History → Option Collar
collar_of n h = collar_in (admission n h)
