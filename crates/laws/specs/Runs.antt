-- The run of a list of calls from a market's making on.
use Rattle.std.specs.Prelude.{ℕ, List, [], ◌∷◌}
use Rattle.values.specs.declared.call.Call.{Call}
use Rattle.values.specs.declared.reference.Reference.{Reference}
use Rattle.market.specs.States.{Making, State, Room, Outcome, fresh}
use Rattle.market.specs.Calls.{step}
use Rattle.laws.specs.Histories.{Entry, History}

-- a call, and the room in the rolls that are lent to it
abbrev pub Asked : Type 0
Asked = Room × Call

-- where the calls have led, and what was seen on the way
pub record Past : Type 0 where
  pub state : State
  pub history : History

abbrev pub entry_of : Asked → Outcome → Entry
entry_of a o = record { call = a.1; room = a.0; answer = o.answer; journal = o.journal }

abbrev pub grown : Asked → Past → Outcome → Past
grown a p o = record { state = o.next; history = entry_of a o ∷ p.history }

-- the run of the calls, the newest first, with the references that the price source had at the making
unfoldable pub run : Making → (ℕ → Reference) → List Asked → Past
run m refs [] = record { state = fresh refs; history = [] }
run m refs (a ∷ older) = let p = run m refs older in grown a p (step m p.state a.0 a.1)
