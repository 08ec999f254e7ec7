-- How a taker trades down the rows.
use Rattle.std.specs.Prelude.{◌≡◌, ℕ, zero, suc, ◌+◌, ◌-◌, ◌<◌, ◌≤◌, min, Bool, true, false, cond, ◌⊎◌, List, [], ◌∷◌, reverse, length}
use Rattle.std.specs.List.{AllByRecursion}
use Rattle.rolls.specs.Rolls.{Gains}
use Rattle.rolls.specs.declared.roll.Roll.{Roll}
use Rattle.book.specs.declared.row.Row.{Row}
use Rattle.book.specs.declared.row.Taker.{Taker}
use Rattle.book.specs.declared.row.Trade.{Trade}
use Rattle.book.specs.Trades.{trade_with}
use Rattle.book.specs.Rows.{meets, better, cut, settle}

abbrev pub in_reach : Taker → Row → Bool
in_reach t r = meets t.series t.side t.reach r

-- what a taker of n contracts trades with r
abbrev pub amount : Taker → ℕ → Row → ℕ
amount t n r = cond (in_reach t r) (min n r.size) 0

-- a trade of no contracts is none
abbrev pub note : ℕ → Trade → List Trade → List Trade
note zero e j = j
note (suc q) e j = e ∷ j

-- what is left of the taker, the rows, and the trades so far, the newest first
pub record Fill : Type 0 where
  pub left : ℕ
  pub rows : List Row
  pub trades : List Trade

-- a taker of n contracts trades down the ranked rows with each contra row in its reach, the best first, at that row's display price; a
-- held order that traded is due at the moment `due`
unfoldable pub take : ℕ → Taker → ℕ → List Row → List Trade → Fill
take due t n [] j = record { left = n; rows = []; trades = j }
take due t n (r ∷ rs) j =
    let q = amount t n r in
    let f = take due t (n - q) rs (note q (trade_with t q r) j) in
    record { left = f.left; rows = cut due q r f.rows; trades = f.trades }

-- ---- the rule as a relation

abbrev pub Has : Row → List Row → Type 0
Has r [] = ⊥
Has r (x ∷ xs) = (r ≡ x) ⊎ Has r xs

-- r is the best of the rows in the taker's reach
pub record BestOf (t : Taker) (r : Row) (rs : List Row) : Type 0 where
  pub there : Has r rs
  pub reached : in_reach t r ≡ true
  pub first : (q : Row) → Has q rs → in_reach t q ≡ true → (q ≡ r) ⊎ (better r q ≡ true)

abbrev pub NoneInReach : Taker → List Row → Type 0
NoneInReach t rs = (q : Row) → Has q rs → in_reach t q ≡ false

-- f comes of a taker of n contracts over the rows, after the trades j: while it has something left and a row is in its reach, it trades
-- with the best one, at that row's display price
pub data Takes (due : ℕ) (t : Taker) (f : Fill) : ℕ → List Row → List Trade → Type 0 where
  done : {n : ℕ} {rs : List Row} {j : List Trade} → (0 < n → NoneInReach t rs) → f.left ≡ n → f.rows ≡ rs → f.trades ≡ j → Takes due t f n rs j
  trade : {n : ℕ} {rs : List Row} {j : List Trade} (r : Row) → 0 < n → BestOf t r rs → Takes due t f (n - min n r.size) (settle due (min n r.size) r.number rs) (trade_with t (min n r.size) r ∷ j) → Takes due t f n rs j

abbrev pub traded : List Trade → ℕ
traded [] = 0
traded (e ∷ j) = e.size + traded j

-- a trade of the taker with one of the rows: it is in the taker's reach, and trades at its display price, no more than its size
abbrev pub Fair : Taker → List Row → Trade → Type 0
Fair t rs e = (r : Row) × Has r rs × (in_reach t r ≡ true) × (0 < e.size) × (e.size ≤ r.size) × (e ≡ trade_with t e.size r)

-- what a call of the taker leaves: `left` of its contracts, the rows, and the roll of trades, which gains the trades in their order
pub record Took (due : ℕ) (t : Taker) (n left : ℕ) (before after : List Row) (roll₀ roll : Roll Trade) : Type 0 where
  pub leaves : left ≡ (take due t n before []).left
  pub rests : after ≡ (take due t n before []).rows
  pub gains : Gains roll₀ roll (reverse (take due t n before []).trades)
  -- it follows the rule
  pub rule : Takes due t (take due t n before []) n before []
  pub fair : AllByRecursion (Fair t before) (take due t n before []).trades
  -- no contract is made or lost
  pub adds : traded (take due t n before []).trades + left ≡ n
  -- each trade but the last takes a row away
  pub few : length (take due t n before []).trades + length after ≤ length before + 1
