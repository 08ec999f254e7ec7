-- A limit order is refused for the published causes alone.
use Rattle.std.proofs.Common.{◌≡◌, ℕ, suc, ◌≤◌, Bool, true, false, leb, List, [], ◌∷◌, length, Some, None, Ok, Err, Option, sym, refl, ap, ◌∙◌, subst, inl, inr, ⊎_elim, arith}
use Rattle.std.specs.List.{AllByRecursion}
use Rattle.std.proofs.lemmas.Bool.{leb-true, ltb-true, and_parts, or_cases}
use Rattle.values.specs.declared.call.Call.{Call}
use Rattle.values.specs.declared.call.Call.TheVariants as call
use Rattle.values.specs.declared.call.Order.{Order}
use Rattle.values.specs.declared.order.OrderPrice.{OrderPrice}
use Rattle.values.specs.declared.order.OrderPrice.TheVariants.{Limit}
use Rattle.values.specs.declared.order.Condition.{Condition}
use Rattle.values.specs.declared.order.Condition.TheVariants.{Day, Immediate}
use Rattle.values.specs.declared.reference.Reference.{Reference}
use Rattle.values.specs.declared.refusal.Refusal.{Refusal}
use Rattle.values.specs.declared.refusal.Refusal.TheVariants.{Screen}
use Rattle.screens.specs.declared.view.View.{View}
use Rattle.screens.specs.Views.{Verdict}
use Rattle.book.specs.declared.row.Row.{Row}
use Rattle.trading.proofs.Sides.{clash}
use Rattle.trading.proofs.Faces.{face, has_in, Distinct}
use Rattle.book.specs.Taking.{Has}
use Rattle.market.specs.States.{Making, State, Room, Outcome, view_in}
use Rattle.market.specs.Tests.{first, bad_limit, is_day, is_market, tests_order}
use Rattle.market.specs.Calls.{unless, screening, order_by, step_order, step}
use Rattle.laws.specs.Histories.{History}
use Rattle.laws.specs.Runs.{Asked}
use Rattle.laws.specs.Causes.{Different, Resting, Crowded, CauseOf, EveryRunRefusesForCause}
use Rattle.laws.proofs.Outcomes.{test_met}
use Rattle.laws.proofs.Steps.{Kept, view_same}
use Rattle.laws.proofs.Runs.{run_kept}
use Rattle.laws.proofs.Entries.{each_made}
use Rattle.laws.proofs.Balances.{row_party}

module _ (m : Making) (refs : ℕ → Reference) {st : State} {h : History} (ok : Kept m refs st h) where
  numbers_of : List Row → List ℕ
  numbers_of [] = []
  numbers_of (r ∷ rs) = r.number ∷ numbers_of rs

  numbers_many : (rs : List Row) → length (numbers_of rs) ≡ length rs
  unfolding numbers_of
  numbers_many [] = refl
  numbers_many (r ∷ rs) = ap suc (numbers_many rs)

  numbers_all : (P : ℕ → Type 0) (rs : List Row) → ((r : Row) → Has r rs → P r.number) → AllByRecursion P (numbers_of rs)
  unfolding numbers_of
  numbers_all P [] h = tt
  numbers_all P (r ∷ rs) h = (h r (inl refl), numbers_all P rs (λ q i. h q (inr i)))

  numbers_different : (rs : List Row) → Distinct rs → Different (numbers_of rs)
  unfolding numbers_of
  numbers_different [] u = tt
  numbers_different (r ∷ rs) u = (numbers_all (λ i. i ≡ r.number → ⊥) rs (λ q i z. u.0 (face q) (has_in q rs i) z), numbers_different rs u.1)

  crowded : 256 ≤ length st.rows → Crowded h
  crowded l = record {
    numbers = numbers_of st.rows;
    different = numbers_different st.rows ok.settled.0.0.distinct;
    many = omega (arith, numbers_many st.rows);
    resting = numbers_all (λ n. Resting n h) st.rows (λ r i. let x = row_party m refs ok r i in (x.0, x.1));
  }

  -- ---- why a limit order is refused

  module _ (room : Room) (o : Order) (limit : ℕ) (priced : o.price ≡ Limit limit) where
    abbrev Refusable : Outcome → Type 0
    Refusable out = (r : Refusal) → out.answer ≡ Err r → CauseOf m refs room o limit h r

    day : (c : Condition) → is_day c ≡ true → c ≡ Day
    day Day e = refl
    day Immediate e = absurd (clash false e refl)

    abbrev Meant : Bool → Refusal → Type 0
    Meant b r = b ≡ true → CauseOf m refs room o limit h r

    by_tests : (r : Refusal) → first (tests_order m st room o) ≡ Some r → CauseOf m refs room o limit h r
    by_tests r e =
        test_met Meant (tests_order m st room o) r (
          λ z. ⊎_elim (λ y. inl (ltb-true room.trades 256 y)) (λ y. inr (ltb-true room.withdrawals 128 y)) (or_cases _ _ z),
          (
            λ z. leb-true (length m.series) o.series z,
            (
              λ z. ⊎_elim (λ y. inl (ltb-true limit 1 y)) (λ y. inr (ltb-true 10000000 limit y)) (or_cases _ _ (subst (λ (p : OrderPrice). bad_limit p ≡ true) priced z)),
              (
                λ z. ⊎_elim (λ y. inl (ltb-true o.size 1 y)) (λ y. inr (ltb-true 999999 o.size y)) (or_cases _ _ z),
                (
                  λ z. let l = ltb-true 999999 st.next z in let n = ok.next in omega arith,
                  (
                    λ z. let p = and_parts (is_day o.condition) (leb 256 (length st.rows)) z in (day o.condition p.0, crowded (leb-true 256 (length st.rows) p.1)),
                    (λ z. absurd (clash (is_market o.price) (and_parts (is_market o.price) _ z).0 (ap is_market priced)), tt),
                  ),
                ),
              ),
            ),
          ),
        )
        e refl

    by_screen_lem : (v : Verdict) → screening m st o.series o.side o.price ≡ v → Refusable (order_by m st v o)
    by_screen_lem (Ok pass) e r is = absurd (let z : ◌≡◌ {A = ℕ} 0 1 = cc in omega arith)
    by_screen_lem (Err why) e r is =
        let z : Screen why ≡ r = cc in
        let now : m.orders (view_in m st o.series) o.side limit ≡ Err why = ap (screening m st o.series o.side) (sym priced) ∙ e in
        subst (CauseOf m refs room o limit h) z (ap (λ (v : View). m.orders v o.side limit) (sym (view_same m refs ok o.series)) ∙ now)

    unless_cause : (q : Option Refusal) (out : Outcome) → ((r : Refusal) → q ≡ Some r → CauseOf m refs room o limit h r) → Refusable out → Refusable (unless q st out)
    unless_cause None out why go r is = go r is
    unless_cause (Some x) out why go r is = let z : x ≡ r = cc in why r (ap Some z)

    order_cause : Refusable (step_order m st room o)
    order_cause = unless_cause (first (tests_order m st room o)) (order_by m st (screening m st o.series o.side o.price) o) by_tests (by_screen_lem (screening m st o.series o.side o.price) refl)

  step_cause : (a : Asked) (o : Order) (limit : ℕ) (r : Refusal) → a.1 ≡ call.Order o → o.price ≡ Limit limit → (step m st a.0 a.1).answer ≡ Err r → CauseOf m refs a.0 o limit h r
  step_cause a o limit r is priced e = order_cause a.0 o limit priced r (subst (λ (c : Call). (step m st a.0 c).answer ≡ Err r) is e)

pub every_run_refuses_for_cause : EveryRunRefusesForCause
every_run_refuses_for_cause m refs lo lq asked e before made o limit r is priced ans =
    each_made m refs (λ e before. (o : Order) (limit : ℕ) (r : Refusal) → e.call ≡ call.Order o → o.price ≡ Limit limit → e.answer ≡ Err r → CauseOf m refs e.room o limit before r)
    (λ older a. step_cause m refs (run_kept m refs lo lq older) a)
    asked e before made.0 made.1 o limit r is priced ans
