-- A limit order is refused for the published causes alone.
use Rattle.std.specs.Prelude.{◌≡◌, ℕ, ◌<◌, ◌≤◌, ◌⊎◌, List, [], ◌∷◌, length, Err, ◌≢◌}
use Rattle.std.specs.List.{AllByRecursion}
use Rattle.values.specs.declared.call.Call.TheVariants as call
use Rattle.values.specs.declared.call.Order.{Order}
use Rattle.values.specs.declared.order.OrderPrice.TheVariants.{Limit}
use Rattle.values.specs.declared.order.Condition.TheVariants.{Day}
use Rattle.values.specs.declared.reference.Reference.{Reference}
use Rattle.values.specs.declared.refusal.Refusal.{Refusal}
use Rattle.values.specs.declared.refusal.Refusal.TheVariants.{Rows, Name, Price, Size, Spent, Full, Screen}
use Rattle.screens.specs.Screens.{Lawful}
use Rattle.market.specs.States.{Making, Room}
use Rattle.laws.specs.Histories.{Entry, History, Made}
use Rattle.laws.specs.Admissions.{Party, admitted_in}
use Rattle.laws.specs.Views.{view_of}
use Rattle.laws.specs.Displays.{Rests}
use Rattle.laws.specs.Runs.{Asked, run}

-- no number stands twice
abbrev pub Different : List ℕ → Type 0
Different [] = Unit {0}
Different (n ∷ ns) = AllByRecursion (λ i. i ≢ n) ns × Different ns

abbrev pub Resting : ℕ → History → Type 0
Resting n h = (x : Party) × Rests n x h

-- 256 orders and quotes rest
pub record Crowded (h : History) : Type 0 where
  pub numbers : List ℕ
  pub different : Different numbers
  pub many : 256 ≤ length numbers
  pub resting : AllByRecursion (λ n. Resting n h) numbers

module _ (m : Making) (refs : ℕ → Reference) where
  -- why an order of that limit may be refused, by its room and by what had been seen before it
  abbrev pub CauseOf : Room → Order → ℕ → History → Refusal → Type 0
  CauseOf room o limit h Rows = (room.trades < 256) ⊎ (room.withdrawals < 128)
  CauseOf room o limit h Name = length m.series ≤ o.series
  CauseOf room o limit h Price = (limit < 1) ⊎ (10000000 < limit)
  CauseOf room o limit h Size = (o.size < 1) ⊎ (999999 < o.size)
  CauseOf room o limit h Spent = 999999 ≤ admitted_in h
  CauseOf room o limit h Full = (o.condition ≡ Day) × Crowded h
  -- only where the screen refuses the limit, in the view of the moment
  CauseOf room o limit h (Screen c) = m.orders (view_of m refs o.series h) o.side limit ≡ Err c
  -- and for nothing else
  CauseOf room o limit h other = ⊥

  abbrev pub LimitOrdersAreRefusedForCause : History → Type 0
  LimitOrdersAreRefusedForCause h =
      (e : Entry) (before : History) → Made e before h
      → (o : Order) (limit : ℕ) (r : Refusal)
      → e.call ≡ call.Order o → o.price ≡ Limit limit → e.answer ≡ Err r
      → CauseOf e.room o limit before r

abbrev pub EveryRunRefusesForCause : Type 0
EveryRunRefusesForCause = (m : Making) (refs : ℕ → Reference) → Lawful m.orders → Lawful m.quotes → (asked : List Asked) → LimitOrdersAreRefusedForCause m refs (run m refs asked).history
