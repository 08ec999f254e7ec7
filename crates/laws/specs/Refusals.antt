-- A refused call gives no trade, uses no number and leaves every later answer as if it had not been made, but for the withdrawals and
-- the shutting out of a screen's refusal of a quote.
use Rattle.std.specs.Prelude.{◌≡◌, ℕ, suc, Bool, true, false, not, ◌&&◌, List, [], ◌∷◌, ◌++◌, length, take}
use Rattle.values.specs.declared.call.Call.{Call}
use Rattle.values.specs.declared.call.Call.TheVariants as call
use Rattle.values.specs.declared.reference.Reference.{Reference}
use Rattle.screens.specs.Screens.{Lawful}
use Rattle.trading.specs.Journals.{Event, Shown, Moved, Traded, Withdrawn}
use Rattle.market.specs.States.{Making}
use Rattle.laws.specs.Histories.{Entry, History, Made}
use Rattle.laws.specs.Admissions.{is_taken, admits, is_admission, admitted_in}
use Rattle.laws.specs.Shutouts.{is_screened, shut_out}
use Rattle.laws.specs.Runs.{Asked, run}

abbrev pub is_quote : Call → Bool
is_quote (call.Quote q) = true
is_quote other = false

-- refused, and not a quote by its screen
abbrev pub is_moot : Entry → Bool
is_moot e = not (is_taken e.answer) && not (is_quote e.call && is_screened e.answer)

-- events that withdraw rows and do nothing else
abbrev pub Withdrawals : List Event → Type 0
Withdrawals [] = Unit {0}
Withdrawals (Shown n p ∷ j) = ⊥
Withdrawals (Moved n p ∷ j) = ⊥
Withdrawals (Traded t ∷ j) = ⊥
Withdrawals (Withdrawn w ∷ j) = Withdrawals j

pub record RefusalsAreIdle (m : Making) (refs : ℕ → Reference) (h : History) : Type 0 where
  -- nothing befalls the rows, and nobody is shut out
  pub nothing : (e : Entry) (before : History) → Made e before h → is_moot e ≡ true → e.journal ≡ []
  pub nobody : (e : Entry) (before : History) → Made e before h → is_moot e ≡ true → (k c : ℕ) → shut_out m refs k c (e ∷ before) ≡ shut_out m refs k c before
  -- in a screen's refusal of a quote, withdrawals befall them and nothing else
  pub withdrawals : (e : Entry) (before : History) → Made e before h → is_taken e.answer ≡ false → Withdrawals e.journal
  -- numbers are given from 1, one after another, so that a refused call uses none
  pub numbers : (e : Entry) (before : History) → Made e before h → (n : ℕ) → admits n e ≡ true → n ≡ suc (admitted_in before)
  -- each order or quote that is taken is given a number: the one after those given before it
  pub numbered : (e : Entry) (before : History) → Made e before h → is_admission e ≡ true → admits (suc (admitted_in before)) e ≡ true

abbrev pub EveryRunRefusesIdly : Type 0
EveryRunRefusesIdly = (m : Making) (refs : ℕ → Reference) → Lawful m.orders → Lawful m.quotes → (asked : List Asked) → RefusalsAreIdle m refs (run m refs asked).history

-- the entries of the calls `later`, where they were the last
abbrev pub latest : List Asked → History → List Entry
latest later h = take (length later) h

-- refused, with nothing withdrawn and nobody newly shut out
pub record Traceless (m : Making) (refs : ℕ → Reference) (e : Entry) (before : History) : Type 0 where
  pub refused : is_taken e.answer ≡ false
  pub nothing : e.journal ≡ []
  pub nobody : (k c : ℕ) → shut_out m refs k c (e ∷ before) ≡ shut_out m refs k c before

-- what is called after such a call is answered, and adds to the rolls, as if it had not been made
abbrev pub EveryRefusalLeavesNoTrace : Type 0
EveryRefusalLeavesNoTrace =
    (m : Making) (refs : ℕ → Reference) → Lawful m.orders → Lawful m.quotes
    → (later : List Asked) (a : Asked) (earlier : List Asked) (e : Entry)
    → (run m refs (a ∷ earlier)).history ≡ e ∷ (run m refs earlier).history → Traceless m refs e (run m refs earlier).history
    → latest later (run m refs (later ++ (a ∷ earlier))).history ≡ latest later (run m refs (later ++ earlier)).history
