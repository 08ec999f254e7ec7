-- Who was admitted: an order or quote by the call that brought it, under the number that its answer gave.
use Rattle.std.specs.Prelude.{ℕ, suc, Bool, true, false, cond, ◌&&◌, [], ◌∷◌, is_some, Some, None, Ok, Err, Option, ◌==◌}
use Rattle.values.specs.declared.call.Call.{Call}
use Rattle.values.specs.declared.call.Call.TheVariants as call
use Rattle.values.specs.declared.side.Side.{Side}
use Rattle.values.specs.Orders.{limit_of}
use Rattle.book.specs.Lists.{or_else}
use Rattle.market.specs.States.{Answer}
use Rattle.laws.specs.Histories.{Entry, History}

abbrev pub is_taken : Answer → Bool
is_taken (Ok n) = true
is_taken (Err r) = false

-- the answer gave the number n
abbrev pub gave : ℕ → Answer → Bool
gave n (Ok None) = false
gave n (Ok (Some i)) = i == n
gave n (Err r) = false

-- an order or quote as its call brings it
pub record Party : Type 0 where
  pub series : ℕ
  pub side : Side
  -- of a market order 10,000,000 to buy and 1 to sell
  pub limit : ℕ
  -- the size admitted
  pub size : ℕ
  -- whose quote it is; none for an order
  pub maker : Option ℕ

abbrev pub brought_by : Call → Option Party
brought_by (call.Order o) = Some (record { series = o.series; side = o.side; limit = limit_of o.side o.price; size = o.size; maker = None })
brought_by (call.Quote q) = Some (record { series = q.series; side = q.side; limit = q.price; size = q.size; maker = Some q.maker })
brought_by other = None

-- the call brought an order or quote, and it was taken with the number n
abbrev pub admits : ℕ → Entry → Bool
admits n e = is_some (brought_by e.call) && gave n e.answer

-- the call brought an order or quote, and it was taken
abbrev pub is_admission : Entry → Bool
is_admission e = is_some (brought_by e.call) && is_taken e.answer

-- how many orders and quotes were admitted
unfoldable pub admitted_in : History → ℕ
admitted_in [] = 0
admitted_in (e ∷ h) = cond (is_admission e) (suc (admitted_in h)) (admitted_in h)

-- an admission: the call, and what had been seen before it
pub record Admission : Type 0 where
  pub call : Call
  pub before : History

-- the admission of n, if there was one
unfoldable pub admission : ℕ → History → Option Admission
admission n [] = None
admission n (e ∷ h) = or_else (admits n e) (record { call = e.call; before = h }) (admission n h)

abbrev pub party_in : Option Admission → Option Party
party_in None = None
party_in (Some a) = brought_by a.call

-- the order or quote n
abbrev pub party_of : ℕ → History → Option Party
party_of n h = party_in (admission n h)
