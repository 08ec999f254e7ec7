-- What is seen of a market: its calls, one after another, each with its answer and with what befell the rows.
use Rattle.std.specs.Prelude.{◌≡◌, List, [], ◌∷◌, ◌++◌}
use Rattle.values.specs.declared.call.Call.{Call}
use Rattle.trading.specs.Journals.{Event}
use Rattle.market.specs.States.{Room, Answer}

pub record Entry : Type 0 where
  pub call : Call
  -- the free rows of the two rolls that were lent to the call
  pub room : Room
  pub answer : Answer
  -- what befell the rows in the call, the newest event first; its trades and withdrawals are what the rolls gained
  pub journal : List Event

-- the newest call first
abbrev pub History : Type 0
History = List Entry

-- all that befell the rows, the newest event first
unfoldable pub journal_of : History → List Event
journal_of [] = []
journal_of (e ∷ h) = e.journal ++ journal_of h

-- ---- where things stand in a history

-- the entry e stands in the history h, after the entries `before`
abbrev pub Made : Entry → History → History → Type 0
Made e before h = (since : History) × (h ≡ since ++ (e ∷ before))

-- the event x befell the rows in the history h, after the events `earlier`
abbrev pub Befell : Event → List Event → History → Type 0
Befell x earlier h = (later : List Event) × (journal_of h ≡ later ++ (x ∷ earlier))

-- the event x befell the rows in the call of e, after the events `earlier` of that call
abbrev pub BefellIn : Event → List Event → Entry → Type 0
BefellIn x earlier e = (later : List Event) × (e.journal ≡ later ++ (x ∷ earlier))
