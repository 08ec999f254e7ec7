-- What a market is made of, and what its calls change.
use Rattle.std.specs.Prelude.{ℕ, Bool, false, cond, ◌&&◌, List, [], Some, None, Ok, Err, Option, Result, ◌==◌, slice_index_or}
use Rattle.values.specs.declared.nbbo.Nbbo.{Nbbo}
use Rattle.values.specs.declared.order.Kind.TheVariants.{Call}
use Rattle.values.specs.declared.reference.Reference.{Reference}
use Rattle.values.specs.declared.refusal.Refusal.{Refusal}
use Rattle.values.specs.declared.side.Side.{Side}
use Rattle.values.specs.Nbbos.{absent}
use Rattle.screens.specs.declared.view.View.{View}
use Rattle.screens.specs.declared.view.Extent.{Extent}
use Rattle.screens.specs.Screens.{Meaning}
use Rattle.book.specs.declared.row.Row.{Row}
use Rattle.trading.specs.Journals.{Event}
use Rattle.market.specs.declared.series.Series.{Series}

-- what stays: the series as listed, the meanings of the two screens, and whether the price source is live
pub record Making : Type 0 where
  pub series : List Series
  pub orders : Meaning
  pub quotes : Meaning
  pub extent : View → Side → ℕ → Extent
  pub live : Bool

pub record State : Type 0 where
  -- of each series
  pub nbbo : ℕ → Nbbo
  -- of each class
  pub reference : ℕ → Reference
  -- of each series: the width that an update gave; none where it goes by the ladder
  pub width : ℕ → Option ℕ
  -- of each maker and class: whether the maker is shut out of it
  pub shut : ℕ → ℕ → Bool
  -- the book, in rank
  pub rows : List Row
  -- in milliseconds
  pub clock : ℕ
  -- the number that the next order or quote takes
  pub next : ℕ

-- at the making, with the references that the source then has
abbrev pub fresh : (ℕ → Reference) → State
fresh refs = record { nbbo = λ s. absent; reference = refs; width = λ s. None; shut = λ k c. false; rows = []; clock = 0; next = 1 }

-- a series that there is none of has no kind or strike; nothing is asked of it
abbrev pub series_of : Making → ℕ → Series
series_of m s = slice_index_or m.series s (record { class = 0; kind = Call; strike = 0 })

abbrev pub class_of : Making → ℕ → ℕ
class_of m s = (series_of m s).class

-- what a screen is shown of a series, by its NBBO and the reference of its class
abbrev pub view_by : Making → ℕ → Nbbo → Reference → View
view_by m s b r = record { kind = (series_of m s).kind; strike = (series_of m s).strike; nbbo = b; reference = r }

abbrev pub view_in : Making → State → ℕ → View
view_in m st s = view_by m s (st.nbbo s) (st.reference (class_of m s))

-- free rows of the two rolls
pub record Room : Type 0 where
  pub trades : ℕ
  pub withdrawals : ℕ

-- taken, with the number given, if one is; or why the call is refused
abbrev pub Answer : Type 0
Answer = Result (Option ℕ) Refusal

-- the answer of a call that gives no number
abbrev pub without_number : Result Unit Refusal → Answer
without_number (Ok done) = Ok None
without_number (Err e) = Err e

-- the answer of a call that gives one
abbrev pub with_number : Result ℕ Refusal → Answer
with_number (Ok n) = Ok (Some n)
with_number (Err e) = Err e

-- what a call comes to: its answer, the next state, and its journal, the newest event first
pub record Outcome : Type 0 where
  pub answer : Answer
  pub next : State
  pub journal : List Event

-- f with another value at i
abbrev pub set : {A : Type 0} → ℕ → A → (ℕ → A) → ℕ → A
set i a f k = cond (k == i) a (f k)

abbrev pub set_shut : ℕ → ℕ → Bool → (ℕ → ℕ → Bool) → ℕ → ℕ → Bool
set_shut k c b f i j = cond (i == k && j == c) b (f i j)
