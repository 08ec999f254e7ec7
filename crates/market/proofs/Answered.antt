-- What a check says of its tests, and what comes of a call that adds nothing, is refused or is let by.
use Rattle.std.proofs.Common.{◌≡◌, ℕ, List, [], Some, None, Ok, Err, Option, refl, ap, subst}
use Rattle.rolls.specs.declared.roll.Roll.{Roll}
use Rattle.rolls.specs.Rolls.{Gains}
use Rattle.rolls.proofs.Gaining.{gains_nothing}
use Rattle.values.specs.declared.call.Call.{Call}
use Rattle.values.specs.declared.call.Call.TheVariants as call
use Rattle.values.specs.declared.call.Order.{Order}
use Rattle.values.specs.declared.call.Quote.{Quote}
use Rattle.values.specs.declared.refusal.Refusal.{Refusal}
use Rattle.values.specs.declared.side.Side.{Side}
use Rattle.screens.specs.declared.view.View.{View}
use Rattle.screens.specs.declared.view.Extent.{Extent}
use Rattle.screens.specs.declared.screen.Screen as screen
use Rattle.screens.specs.Views.{Verdict}
use Rattle.sources.specs.declared.PriceSource as source
use Rattle.trading.specs.declared.blotter.Blotter.{Blotter}
use Rattle.trading.specs.Journals.{trades_of, withdrawals_of}
use Rattle.market.specs.declared.market.Market.{Market}
use Rattle.market.specs.States.{Answer, Outcome, view_in}
use Rattle.market.specs.Tests.{first, tests_order, tests_quote}
use Rattle.market.specs.Checks.{answering, checked}
use Rattle.market.specs.Calls.{refuse, unless, screening, order_by, quote_by}
use Rattle.market.specs.Markets.{making, state, room_of, SameRolls, ComesWith, DoesQuietly, Does}

-- ---- what a check says of its tests

passed : (t : Option Refusal) (done : Unit) → Ok done ≡ answering t → t ≡ None
passed None done e = refl
passed (Some why) done e = cc

failed : (t : Option Refusal) (why : Refusal) → Err why ≡ answering t → t ≡ Some why
failed None why e = cc
failed (Some other) why e = cc

-- ---- what a call comes to

-- a roll that gained nothing gained an empty list
pub none_gained : {T : Type 0} (roll : Roll T) (xs : List T) → xs ≡ [] → Gains roll roll xs
none_gained roll xs e = rw e (gains_nothing roll)

-- a blotter that no call changes
unmoved : (b : Blotter) → SameRolls b b
unmoved b = record { trades = refl; withdrawals = refl }

module _ {O Q S : Type 0} (o : screen.Ghosts O) (q : screen.Ghosts Q) (k : Q → View → Side → ℕ → Extent) (s : source.Ghosts S) (m : Market O Q S) where
  -- a call that adds nothing leaves the rolls as they were
  pub quietly : (m' : Market O Q S) (x : Call) (a : Answer) (b : Blotter) → DoesQuietly o q k s m m' x a → Does o q k s m m' x a b b
  quietly m' x a b h =
      let q = h (room_of b) in
      record {
        comes = q.comes;
        trades_gain = none_gained b.trades.now _ (ap trades_of q.quiet);
        withdrawals_gain = none_gained b.withdrawals.now _ (ap withdrawals_of q.quiet);
        same_rolls = unmoved b;
      }

  -- a refused call changes nothing
  pub refused : (why : Refusal) (b : Blotter) → ComesWith o q k s m m (Err why) (refuse (state o q k s m) why) b b
  refused why b = record {
    comes = record { answers = refl; moves = refl; stays = refl };
    trades_gain = gains_nothing b.trades.now;
    withdrawals_gain = gains_nothing b.withdrawals.now;
    same_rolls = unmoved b;
  }

  pub stopped : (t : Option Refusal) (why : Refusal) (out : Outcome) (b : Blotter) → Err why ≡ answering t → ComesWith o q k s m m (Err why) (unless t (state o q k s m) out) b b
  stopped t why out b e = rw (failed t why e) (refused why b)

  module _ (m' : Market O Q S) (a : Answer) (b b' : Blotter) where
    -- the tests let a call by
    let_by : (t : Option Refusal) (done : Unit) (out : Outcome) → Ok done ≡ answering t → ComesWith o q k s m m' a out b b' → ComesWith o q k s m m' a (unless t (state o q k s m) out) b b'
    let_by t done out e h = rw (passed t done e) h

    -- and the screen says what becomes of an order
    pub order_screened : (x : Order) (v : Verdict) (done : Unit) → Ok done ≡ checked (tests_order (making o q k s m) (state o q k s m) (room_of b) x) → v ≡ screening (making o q k s m) (state o q k s m) x.series x.side x.price → ComesWith o q k s m m' a (order_by (making o q k s m) (state o q k s m) v x) b b' → Does o q k s m m' (call.Order x) a b b'
    order_screened x v done e is h = let_by (first (tests_order (making o q k s m) (state o q k s m) (room_of b) x)) done _ e (subst (λ (v : Verdict). ComesWith o q k s m m' a (order_by (making o q k s m) (state o q k s m) v x) b b') is h)

    -- or of a quote
    pub quote_screened : (x : Quote) (v : Verdict) (done : Unit) → Ok done ≡ checked (tests_quote (making o q k s m) (state o q k s m) (room_of b) x) → v ≡ q.meaning m.quotes (view_in (making o q k s m) (state o q k s m) x.series) x.side x.price → ComesWith o q k s m m' a (quote_by (making o q k s m) (state o q k s m) v x) b b' → Does o q k s m m' (call.Quote x) a b b'
    quote_screened x v done e is h = let_by (first (tests_quote (making o q k s m) (state o q k s m) (room_of b) x)) done _ e (subst (λ (v : Verdict). ComesWith o q k s m m' a (quote_by (making o q k s m) (state o q k s m) v x) b b') is h)
