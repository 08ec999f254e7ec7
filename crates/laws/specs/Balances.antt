-- For each number, what was admitted is what was traded, what was withdrawn and what rests.
use Rattle.std.specs.Prelude.{◌≡◌, ℕ, ◌+◌, ◌-◌, cond, List, Some}
use Rattle.values.specs.declared.reference.Reference.{Reference}
use Rattle.screens.specs.Screens.{Lawful}
use Rattle.market.specs.States.{Making}
use Rattle.laws.specs.Histories.{History, journal_of}
use Rattle.laws.specs.Admissions.{Party, party_of}
use Rattle.laws.specs.Displays.{traded_of, withdrawn_of, is_named}
use Rattle.laws.specs.Runs.{Asked, run}

-- what of the order or quote n, which is x, rests: what its trades left, and nothing once a withdrawal names it
abbrev pub resting_of : ℕ → Party → History → ℕ
resting_of n x h = cond (is_named n (journal_of h)) 0 (x.size - traded_of n (journal_of h))

abbrev pub SizesAddUp : History → Type 0
SizesAddUp h = (n : ℕ) (x : Party) → party_of n h ≡ Some x → x.size ≡ traded_of n (journal_of h) + withdrawn_of n (journal_of h) + resting_of n x h

abbrev pub EveryRunAddsUp : Type 0
EveryRunAddsUp = (m : Making) (refs : ℕ → Reference) → Lawful m.orders → Lawful m.quotes → (asked : List Asked) → SizesAddUp (run m refs asked).history
