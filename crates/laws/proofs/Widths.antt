-- Widths change by approval.
use Rattle.std.proofs.Common.{◌≡◌, ℕ, Bool, true, false, cond, not, ◌||◌, eqb, ◌⊎◌, ◌∷◌, length, Some, None, Option, sym, refl, inl, inr, arith}
use Rattle.std.proofs.lemmas.Bool.{leb-true, leb-false, eqb-true, eq-eqb, or_parts, not-true, not-false}
use Rattle.values.specs.declared.call.Call.{Call}
use Rattle.values.specs.declared.call.Call.TheVariants as call
use Rattle.values.specs.declared.call.Update.{Update}
use Rattle.values.specs.declared.refusal.Refusal.{Refusal}
use Rattle.values.specs.declared.refusal.Refusal.TheVariants.{Name}
use Rattle.collars.specs.Updates.{lawful_width, official, different}
use Rattle.trading.proofs.Sides.{clash, decide}
use Rattle.market.specs.States.{Making, State, Room, Outcome}
use Rattle.market.specs.Tests.{first, unnamed, tests_width}
use Rattle.market.specs.Calls.{unless, taken_width, step_in_force, step_width, step}
use Rattle.laws.specs.Histories.{History}
use Rattle.laws.specs.Runs.{Asked, entry_of, run}
use Rattle.laws.specs.Views.{width_of}
use Rattle.laws.specs.Widths.{Updated, EveryRunApprovesWidths}
use Rattle.laws.proofs.Outcomes.{none_met}
use Rattle.laws.proofs.Entries.{each_made}

module _ (m : Making) (st : State) (h : History) where
  abbrev Widely : ℕ → Asked → Outcome → Type 0
  Widely s a o = (width_of s (entry_of a o ∷ h) ≡ width_of s h) ⊎ Updated m s (entry_of a o) h

  width_unless : (room : Room) (s : ℕ) (u : Update) (q : Option Refusal) → (q ≡ None → Widely s (room, call.Width u) (taken_width m st u.series u.width)) → Widely s (room, call.Width u) (unless q st (taken_width m st u.series u.width))
  unfolding width_of
  width_unless room s u None go = go refl
  width_unless room s u (Some r) go = inl refl

  width_taken : (room : Room) (s : ℕ) (u : Update) → first (tests_width m st u) ≡ None → Widely s (room, call.Width u) (taken_width m st u.series u.width)
  unfolding width_of
  width_taken room s u e =
      let met = none_met (tests_width m st u) e in
      let names = or_parts (unnamed m u.series) (not (official u.first) || not (official u.second)) met.0 in
      let who = or_parts (not (official u.first)) (not (official u.second)) names.1 in
      decide (eqb s u.series)
      (λ t.
      let same : s ≡ u.series = eqb-true s u.series t in
      inr (record {
        update = u;
        asked = refl;
        series = sym same;
        taken = refl;
        lawful = not-false (lawful_width u.width) met.1.0;
        official = leb-true u.first 15 (not-false (official u.first) who.0);
        other = leb-true u.second 15 (not-false (official u.second) who.1);
        different = λ z. clash (eqb u.first u.second) (eq-eqb u.first u.second z) (not-true (eqb u.first u.second) (not-false (different u.first u.second) met.1.1.0));
        listed = let l = leb-false (length m.series) u.series names.0 in omega arith;
        gives = rw t;
      }))
      (λ t. inl (rw t))

  step_width_lem : (s : ℕ) (room : Room) (c : Call) → Widely s (room, c) (step m st room c)
  unfolding width_of
  step_width_lem s room (call.Width u) = width_unless room s u (first (tests_width m st u)) (λ e. width_taken room s u e)
  step_width_lem s room other = inl refl

pub every_run_approves_widths : EveryRunApprovesWidths
every_run_approves_widths m refs asked s e before made =
    each_made m refs (λ e before. (width_of s (e ∷ before) ≡ width_of s before) ⊎ Updated m s e before)
    (λ older a. step_width_lem m (run m refs older).state (run m refs older).history s a.0 a.1)
    asked e before made.0 made.1

-- an approved update put in force is the call by its numbers
pub width_in_force : (m : Making) (st : State) (u : Update) → official u.first ≡ true → official u.second ≡ true → lawful_width u.width ≡ true → different u.first u.second ≡ true → step_width m st u ≡ step_in_force m st u.series u.width
width_in_force m st u a b c d = rw (a, b, c, d) (by (unnamed m u.series))
  where
    by : (x : Bool) → unless (cond (x || false) (Some Name) None) st (taken_width m st u.series u.width) ≡ unless (cond x (Some Name) None) st (taken_width m st u.series u.width)
    by true = refl
    by false = refl
