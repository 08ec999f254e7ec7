-- When a held order falls due, and how often it moves.
use Rattle.std.specs.Prelude.{◌≡◌, ℕ, ◌+◌, ◌-◌, ◌/◌, ◌<◌, ◌≤◌, Bool, true, false, cond, ◌⊎◌, List, [], ◌∷◌, ◌++◌, length, Some, None, Option, ◌==◌}
use Rattle.std.specs.List.{AllByRecursion}
use Rattle.values.specs.declared.reference.Reference.{Reference}
use Rattle.screens.specs.Screens.{Lawful}
use Rattle.book.specs.Lists.{or_else}
use Rattle.trading.specs.Journals.{Event, Shown, Moved, Traded, Withdrawn}
use Rattle.market.specs.States.{Making}
use Rattle.laws.specs.Histories.{Entry, History, journal_of, Made, BefellIn}
use Rattle.laws.specs.Admissions.{Party}
use Rattle.laws.specs.Views.{clock_of}
use Rattle.laws.specs.Displays.{display_of, is_party, Rests}
use Rattle.laws.specs.Collars.{Collar, collar_of}
use Rattle.laws.specs.Runs.{Asked, run}

abbrev pub second_later : Option ℕ → Option ℕ
second_later None = None
second_later (Some d) = Some (d + 1000)

-- what an event makes of the moment at which n falls due, in a call that leaves the clock at k
abbrev pub due_after : ℕ → ℕ → Event → Option ℕ → Option ℕ
due_after n k (Shown i p) o = or_else (i == n) (k + 1000) o
due_after n k (Moved i p) o = cond (i == n) (second_later o) o
due_after n k (Traded t) o = or_else (is_party n t) (k + 1000) o
due_after n k (Withdrawn w) o = o

unfoldable pub due_in : ℕ → ℕ → List Event → Option ℕ → Option ℕ
due_in n k [] o = o
due_in n k (x ∷ j) o = due_after n k x (due_in n k j o)

-- the moment at which n falls due, while it is held: 1,000 ms after it was given its display price, after each of its trades, and
-- after each moment at which it fell due and moved
unfoldable pub due_of : ℕ → History → Option ℕ
due_of n [] = None
due_of n (e ∷ h) = due_in n (clock_of (e ∷ h)) e.journal (due_of n h)

-- how often n moved
unfoldable pub times_moved : ℕ → List Event → ℕ
times_moved n [] = 0
times_moved n (Shown i p ∷ j) = times_moved n j
times_moved n (Moved i p ∷ j) = cond (i == n) 1 0 + times_moved n j
times_moved n (Traded t ∷ j) = times_moved n j
times_moved n (Withdrawn w ∷ j) = times_moved n j

-- the moments at which n fell due and moved, the newest first
abbrev pub note_moment : Bool → Option ℕ → List ℕ → List ℕ
note_moment true None ds = ds
note_moment true (Some d) ds = d ∷ ds
note_moment false o ds = ds

unfoldable pub moments_in : ℕ → ℕ → List Event → Option ℕ → List ℕ → List ℕ
moments_in n k [] o ds = ds
moments_in n k (Shown i p ∷ j) o ds = moments_in n k j o ds
moments_in n k (Moved i p ∷ j) o ds = note_moment (i == n) (due_in n k j o) (moments_in n k j o ds)
moments_in n k (Traded t ∷ j) o ds = moments_in n k j o ds
moments_in n k (Withdrawn w ∷ j) o ds = moments_in n k j o ds

unfoldable pub moments_of : ℕ → History → List ℕ
moments_of n [] = []
moments_of n (e ∷ h) = moments_in n (clock_of (e ∷ h)) e.journal (due_of n h) (moments_of n h)

-- each moment lies at least 1,000 ms after each older one
abbrev pub SecondsApart : List ℕ → Type 0
SecondsApart [] = Unit {0}
SecondsApart (d ∷ ds) = AllByRecursion (λ x. x + 1000 ≤ d) ds × SecondsApart ds

pub record MovesTakeTheirTime (h : History) : Type 0 where
  -- what moves has fallen due since the clock stood where the call found it
  pub fallen_due : (e : Entry) (before : History) → Made e before h → (n p : ℕ) (earlier : List Event) → BefellIn (Moved n p) earlier e → (d : ℕ) × (due_in n (clock_of (e ∷ before)) earlier (due_of n before) ≡ Some d) × (clock_of before < d) × (d ≤ clock_of (e ∷ before))
  -- the moments at which n fell due and moved, one for each move, lie at least 1,000 ms apart
  pub seconds_apart : (n : ℕ) → (length (moments_of n h) ≡ times_moved n (journal_of h)) × SecondsApart (moments_of n h)
  -- at most one move in one call
  pub once_in_a_call : (e : Entry) (before : History) → Made e before h → (n : ℕ) → times_moved n e.journal ≤ 1
  -- over any stretch of the clock, at most one move for each full second of it, and one more
  pub once_a_second : (since before : History) → h ≡ since ++ before → (n : ℕ) → times_moved n (journal_of since) ≤ (clock_of h - clock_of before) / 1000 + 1
  -- and no order waits longer: one that rests short of its limit falls due within the next 1,000 ms
  pub none_overdue : (n : ℕ) (x : Party) (c : Collar) (p : ℕ) → Rests n x h → collar_of n h ≡ Some c → display_of n (journal_of h) ≡ Some p → (p ≡ c.limit) ⊎ ((d : ℕ) × (due_of n h ≡ Some d) × (clock_of h < d) × (d ≤ clock_of h + 1000))

abbrev pub EveryRunTakesItsTime : Type 0
EveryRunTakesItsTime = (m : Making) (refs : ℕ → Reference) → Lawful m.orders → Lawful m.quotes → (asked : List Asked) → MovesTakeTheirTime (run m refs asked).history
