-- From a market of the code to the laws: the markets that calls lead to, by the contract of the calls.
use Rattle.std.specs.Prelude.{◌≡◌, ℕ, [], ◌∷◌}
use Rattle.values.specs.declared.reference.Reference.{Reference}
use Rattle.rolls.specs.declared.roll.Roll.{Roll}
use Rattle.rolls.specs.Rolls.{Gains}
use Rattle.book.specs.declared.row.Trade.{Trade}
use Rattle.book.specs.declared.row.Withdrawal.{Withdrawal}
use Rattle.market.specs.States.{Making, State}
use Rattle.market.specs.Calls.{step}
use Rattle.laws.specs.Histories.{Entry, History}
use Rattle.laws.specs.Rolls.{trade_rows, withdrawal_rows, RowsAreTrue}
use Rattle.laws.specs.Whole.{Laws}

-- a market is of any type M; what it was made of and what its calls change are read off it
module _ {M : Type 0} (making : M → Making) (state : M → State) where
  -- the contract of every call: a call took the market x to the market y, and e is what was seen of it
  pub record Does (x y : M) (e : Entry) : Type 0 where
    pub answers : e.answer ≡ (step (making x) (state x) e.room e.call).answer
    pub notes : e.journal ≡ (step (making x) (state x) e.room e.call).journal
    pub moves : state y ≡ (step (making x) (state x) e.room e.call).next
    pub stays : making y ≡ making x

  -- calls lead from the market x to a market, by a history
  pub data Reached (x : M) : M → History → Type 0 where
    begun : Reached x x []
    called : {y z : M} {h : History} {e : Entry} → Reached x y h → Does y z e → Reached x z (e ∷ h)

  -- whatever is called, what is seen obeys the laws, and the rows are what rests by it
  abbrev pub EveryHistoryLawful : (ℕ → Reference) → M → Type 0
  EveryHistoryLawful refs x = (y : M) (h : History) → Reached x y h → Laws (making x) refs h × RowsAreTrue (state y).rows h

-- the calls of a history filled the rolls with its trades and withdrawals, in order
pub record Filled (t₀ t : Roll Trade) (w₀ w : Roll Withdrawal) (h : History) : Type 0 where
  pub trades : Gains t₀ t (trade_rows h)
  pub withdrawals : Gains w₀ w (withdrawal_rows h)
