-- All laws together.
use Rattle.std.specs.Prelude.{ℕ, List}
use Rattle.values.specs.declared.reference.Reference.{Reference}
use Rattle.screens.specs.Screens.{Lawful}
use Rattle.market.specs.States.{Making}
use Rattle.laws.specs.Histories.{History}
use Rattle.laws.specs.Runs.{Asked, run}
use Rattle.laws.specs.Protection.{Protected}
use Rattle.laws.specs.Deals.{TradesAreDeals}
use Rattle.laws.specs.Moves.{MovesAreLawful}
use Rattle.laws.specs.Moments.{MovesTakeTheirTime}
use Rattle.laws.specs.Widths.{WidthsChangeByApproval}
use Rattle.laws.specs.Causes.{LimitOrdersAreRefusedForCause}
use Rattle.laws.specs.Refusals.{RefusalsAreIdle}
use Rattle.laws.specs.Balances.{SizesAddUp}
use Rattle.laws.specs.Rolls.{RollsAreTrue}

-- of a market made of m, with the references that its price source began with
pub record Laws (m : Making) (refs : ℕ → Reference) (h : History) : Type 0 where
  pub protected : Protected m refs h
  pub deals : TradesAreDeals h
  pub moves : MovesAreLawful h
  pub moments : MovesTakeTheirTime h
  pub widths : WidthsChangeByApproval m h
  pub refusing : LimitOrdersAreRefusedForCause m refs h
  pub refusals : RefusalsAreIdle m refs h
  pub sizes : SizesAddUp h
  pub rolls : RollsAreTrue h

abbrev pub EveryRunLawful : Type 0
EveryRunLawful = (m : Making) (refs : ℕ → Reference) → Lawful m.orders → Lawful m.quotes → (asked : List Asked) → Laws m refs (run m refs asked).history
