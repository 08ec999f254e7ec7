-- Display prices are given and moved by the rule.
use Rattle.std.proofs.Common.{sym, subst}
use Rattle.std.specs.List.{AllByRecursion}
use Rattle.trading.specs.Journals.{Shown, Moved}
use Rattle.values.specs.declared.side.Side.{Side}
use Rattle.values.specs.Sides.{NoMoreAggressive}
use Rattle.laws.specs.Histories.{Entry, History, Made}
use Rattle.laws.specs.Runs.{run}
use Rattle.laws.specs.Moves.{EveryRunMovesLawfully}
use Rattle.laws.proofs.Runs.{fair_event, run_kept, stands}
use Rattle.laws.proofs.Entries.{all_at, each_made}
use Rattle.laws.proofs.Notes.{Proper, step_noted}

pub every_run_moves_lawfully : EveryRunMovesLawfully
every_run_moves_lawfully m refs lo lq asked =
    let ok = run_kept m refs lo lq asked in
    let proper : (e : Entry) (before : History) → Made e before (run m refs asked).history → AllByRecursion (Proper e.call e.answer) e.journal = λ e before made.
    each_made m refs (λ e before. AllByRecursion (Proper e.call e.answer) e.journal)
    (λ older a. step_noted m (run m refs older).state (run_kept m refs lo lq older).settled.0 a.0 a.1)
    asked e before made.0 made.1 in
    record {
      given_at_admission = λ e before made n p earlier b. all_at (Proper e.call e.answer) b.0 (Shown n p) earlier (subst (AllByRecursion (Proper e.call e.answer)) b.1 (proper e before made));
      given_by_rule = λ n p earlier b. (fair_event m refs ok (Shown n p) b.0 earlier b.1).2;
      given_once = λ n p earlier b. (fair_event m refs ok (Shown n p) b.0 earlier b.1).1;
      resting_displays = λ n x r.
          let u = stands m refs ok n x r in
          let within = ok.settled.1.limits u.at u.there in
          (u.at.display, u.shown, subst (λ (s : Side). NoMoreAggressive s u.at.display x.limit) (sym u.side) (subst (NoMoreAggressive u.at.side u.at.display) (sym u.limit) within));
      moved_by_the_clock = λ e before made n p earlier b. all_at (Proper e.call e.answer) b.0 (Moved n p) earlier (subst (AllByRecursion (Proper e.call e.answer)) b.1 (proper e before made));
      moved_one_collar = λ n p earlier b. (fair_event m refs ok (Moved n p) b.0 earlier b.1).1;
    }
