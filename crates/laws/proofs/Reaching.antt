-- What calls of the code lead to is what the definitions run to, so that every law of runs is one of markets.
use Rattle.std.proofs.Common.{◌≡◌, ℕ, List, [], ◌∷◌, sym, refl, ap, ◌∙◌, subst, ap₂}
use Rattle.values.specs.declared.call.Call.{Call}
use Rattle.values.specs.declared.reference.Reference.{Reference}
use Rattle.screens.specs.Screens.{Lawful}
use Rattle.rolls.specs.declared.roll.Roll.{Roll}
use Rattle.rolls.specs.Rolls.{Gains}
use Rattle.rolls.proofs.Gaining.{gains_nothing, gains_then}
use Rattle.book.specs.declared.row.Trade.{Trade}
use Rattle.book.specs.declared.row.Withdrawal.{Withdrawal}
use Rattle.trading.specs.Journals.{trades_of, withdrawals_of}
use Rattle.market.specs.States.{Making, State, Room, fresh}
use Rattle.market.specs.Calls.{step}
use Rattle.laws.specs.Histories.{Entry, History}
use Rattle.laws.specs.Runs.{Asked, Past, entry_of, grown, run}
use Rattle.laws.specs.Rolls.{trade_rows, withdrawal_rows, RowsAreTrue}
use Rattle.laws.specs.Whole.{Laws, EveryRunLawful}
use Rattle.laws.specs.Reached.{Reached, begun, called, EveryHistoryLawful, Filled}
use Rattle.laws.proofs.Runs.{every_run_protected}
use Rattle.laws.proofs.Deals.{every_run_deals_fairly}
use Rattle.laws.proofs.Moves.{every_run_moves_lawfully}
use Rattle.laws.proofs.Widths.{every_run_approves_widths}
use Rattle.laws.proofs.Causes.{every_run_refuses_for_cause}
use Rattle.laws.proofs.Balances.{every_run_adds_up}
use Rattle.laws.proofs.Moments.{every_run_takes_its_time}
use Rattle.laws.proofs.Refusals.{every_run_refuses_idly}
use Rattle.laws.proofs.Rolls.{every_roll_true, every_run_keeps_true_rows}

pub every_run_lawful : EveryRunLawful
every_run_lawful m refs lo lq asked = record {
  protected = every_run_protected m refs lo lq asked;
  deals = every_run_deals_fairly m refs lo lq asked;
  moves = every_run_moves_lawfully m refs lo lq asked;
  moments = every_run_takes_its_time m refs lo lq asked;
  widths = every_run_approves_widths m refs asked;
  refusing = every_run_refuses_for_cause m refs lo lq asked;
  refusals = every_run_refuses_idly m refs lo lq asked;
  sizes = every_run_adds_up m refs lo lq asked;
  rolls = every_roll_true (run m refs asked).history;
}

-- the calls of a history, with the room that each found
abbrev pub asked_in : History → List Asked
asked_in [] = []
asked_in (e ∷ h) = (e.room, e.call) ∷ asked_in h

abbrev past : State → History → Past
past st h = record { state = st; history = h }

module _ {M : Type 0} (making : M → Making) (state : M → State) where
  pub reached_run : (refs : ℕ → Reference) (x y : M) (h : History) → state x ≡ fresh refs → Reached making state x y h → (making y ≡ making x) × (run (making x) refs (asked_in h) ≡ past (state y) h)
  unfolding run
  reached_run refs x y₀ h₀ new begun = (refl, ap (λ (st : State). past st []) (sym new))
  reached_run refs x y₀ h₀ new (called {y} {z} {h} {e} before d) =
      let b = reached_run refs x y h new before in (
        d.stays ∙ b.0,
        ap₂ (λ (m : Making) (p : Past). grown (e.room, e.call) p (step m p.state e.room e.call)) (sym b.0) b.1
            ∙ sym (λ i. past (d.moves i) (record { call = e.call; room = e.room; answer = d.answers i; journal = d.notes i } ∷ h)),
      )

  -- a call that meets its contract leads on, with the entry that the definitions give it
  pub reached_more : (x y z : M) (h : History) → Reached making state x y h → (room : Room) (c : Call) → state z ≡ (step (making y) (state y) room c).next → making z ≡ making y → Reached making state x z (entry_of (room, c) (step (making y) (state y) room c) ∷ h)
  reached_more x y z h before room c moves stays = called before (record { answers = refl; notes = refl; moves = moves; stays = stays })

  -- every law of runs is a law of markets
  pub every_history_lawful : (refs : ℕ → Reference) (x : M) → Lawful (making x).orders → Lawful (making x).quotes → state x ≡ fresh refs → EveryHistoryLawful making state refs x
  every_history_lawful refs x lo lq new y h r =
      let is = (reached_run refs x y h new r).1 in (
        subst (λ (p : Past). Laws (making x) refs p.history) is (every_run_lawful (making x) refs lo lq (asked_in h)),
        subst (λ (p : Past). RowsAreTrue p.state.rows p.history) is (every_run_keeps_true_rows (making x) refs lo lq (asked_in h)),
      )

-- ---- the rolls

pub filled_none : (trades : Roll Trade) (withdrawals : Roll Withdrawal) → Filled trades trades withdrawals withdrawals []
filled_none trades withdrawals = record { trades = gains_nothing trades; withdrawals = gains_nothing withdrawals }

pub filled_more : (t₀ t t' : Roll Trade) (w₀ w w' : Roll Withdrawal) (e : Entry) (h : History) → Filled t₀ t w₀ w h → Gains t t' (trades_of e.journal) → Gains w w' (withdrawals_of e.journal) → Filled t₀ t' w₀ w' (e ∷ h)
filled_more t₀ t t' w₀ w w' e h f gt gw = record {
  trades = gains_then t₀ t t' (trade_rows h) (trades_of e.journal) f.trades gt;
  withdrawals = gains_then w₀ w w' (withdrawal_rows h) (withdrawals_of e.journal) f.withdrawals gw;
}
