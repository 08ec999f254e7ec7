-- The eight prices at the edge: what lies on either side of each bound, by the check or the definition that it names alone.
use Rattle.std.specs.Prelude.{◌≡◌, ℕ, List, [], ◌∷◌, Some, None, Option}
use Rattle.std.specs.List.{AllByRecursion}
use Rattle.values.specs.declared.order.Kind.{Kind}
use Rattle.values.specs.declared.order.Kind.TheVariants.{Call, Put}
use Rattle.values.specs.declared.order.OrderPrice.{OrderPrice}
use Rattle.values.specs.declared.order.OrderPrice.TheVariants.{Market}
use Rattle.values.specs.declared.nbbo.Nbbo.{Nbbo}
use Rattle.values.specs.declared.reference.Reference.{Reference}
use Rattle.values.specs.declared.reference.Reference.TheVariants.{Absent, Sale, Halted}
use Rattle.values.specs.declared.side.Side.{Side}
use Rattle.values.specs.declared.side.Side.TheVariants.{Buy, Sell}
use Rattle.values.specs.Orders.{limit_of}
use Rattle.screens.specs.declared.view.View.{View}
use Rattle.screens.specs.Screens.{Meaning}
use Rattle.screens.specs.Views.{number}
use Rattle.screens.specs.Checks.{limit_order_filter, order_price_check, quote_nbbo_check}
use Rattle.collars.specs.Collars.{ladder}
use Rattle.collars.specs.Pricings.{pricing, reach_of, display_of}

-- a question with its answer
pub data Asked : Type 0 where
  -- the number that a check gives a price, 0 for a pass
  checked : Meaning → View → Side → ℕ → ℕ → Asked
  -- the width at an NBB
  width : ℕ → ℕ → Asked
  -- the display price and the reach of an order under an NBBO, where the width goes by the ladder
  priced : Side → OrderPrice → (bid offer : ℕ) → (display reach : ℕ) → Asked

abbrev pub both : ℕ → ℕ → Nbbo
both bid offer = record { bid = Some bid; offer = Some offer }

abbrev pub Holds : Asked → Type 0
Holds (checked check v s p n) = number (check v s p) ≡ n
Holds (width bid w) = ladder bid ≡ w
Holds (priced s price bid offer display reach) =
    let p = pricing s (limit_of s price) (both bid offer) (ladder bid) in
    (display_of p None ≡ display) × (reach_of p ≡ reach)

-- a call or put with strike 5,000: with only a bid, only an offer, or only a reference
abbrev pub view_of : Kind → Option ℕ → Option ℕ → Reference → View
view_of kind bid offer r = record { kind = kind; strike = 5000; nbbo = record { bid = bid; offer = offer }; reference = r }

abbrev pub bidding : ℕ → View
bidding bid = view_of Call (Some bid) None Absent

abbrev pub offering : ℕ → View
offering offer = view_of Call None (Some offer) Absent

abbrev pub referring : Kind → Reference → View
referring kind r = view_of kind None None r

abbrev pub edges : List (List Asked)
edges =
    -- NBO 10: a quote's bid
    (checked quote_nbbo_check (offering 10) Buy 109 0 ∷ checked quote_nbbo_check (offering 10) Buy 110 21 ∷ [])
    -- NBB 400: a sell order
    ∷ (checked limit_order_filter (bidding 400) Sell 200 21 ∷ checked limit_order_filter (bidding 400) Sell 201 0 ∷ [])
    -- NBO 101: a buy order
    ∷ (checked limit_order_filter (offering 101) Buy 151 0 ∷ checked limit_order_filter (offering 101) Buy 152 21 ∷ [])
    -- NBB 101: a quote's offer
    ∷ (checked quote_nbbo_check (bidding 101) Sell 50 21 ∷ checked quote_nbbo_check (bidding 101) Sell 51 0 ∷ [])
    -- a sale at 5,000: an order to buy a call
    ∷ (checked order_price_check (referring Call (Sale 5000)) Buy 5499 0 ∷ checked order_price_check (referring Call (Sale 5000)) Buy 5500 22 ∷ [])
    -- a sale, then a halt: an order to buy a put at its strike
    ∷ (checked order_price_check (referring Put (Sale 5000)) Buy 5000 22 ∷ checked order_price_check (referring Put (Halted 5000)) Buy 5000 0 ∷ [])
    -- the ladder of widths
    ∷ (width 199 25 ∷ width 200 40 ∷ width 500 40 ∷ width 501 50 ∷ width 2001 100 ∷ [])
    -- NBBO 75 and 175: a market order to sell
    ∷ (priced Sell Market 75 175 150 125 ∷ [])
    ∷ []

abbrev pub EdgesHold : Type 0
EdgesHold = AllByRecursion (AllByRecursion Holds) edges
