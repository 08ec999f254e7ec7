-- What holds of the rows between calls holds after each operation.
use Rattle.std.proofs.Common.{◌≡◌, ℕ, zero, suc, ◌+◌, ◌-◌, ◌<◌, ◌≤◌, Bool, true, eqb, ltb, List, [], Some, None, Option, sym, refl, subst, arith}
use Rattle.std.proofs.lemmas.Bool.{cond_both, and_parts, and_from, ltb-true, lt-ltb}
use Rattle.collars.specs.declared.pricing.Pricing.{Pricing}
use Rattle.collars.specs.Pricings.{reach_of, display_of, collar_of}
use Rattle.book.specs.declared.row.Row.{Row}
use Rattle.book.specs.declared.row.Standing.TheVariants.{Plain, Held}
use Rattle.book.specs.Lists.{every}
use Rattle.book.specs.Rows.{Sound}
use Rattle.book.specs.Taking.{Fill, take}
use Rattle.book.proofs.Takes.{take_fair}
use Rattle.trading.specs.declared.ticket.Ticket.{Ticket}
use Rattle.trading.specs.Desks.{Desk, highest, pull, second_after, taker, last_price, standing_by, row_for, rest_rows, rest, enter, enter_now, advance}
use Rattle.trading.specs.Doing.{desk, displays_in_reach}
use Rattle.trading.specs.declared.floor.Floor.{Floor}
use Rattle.trading.specs.Floors.{rows_on}
use Rattle.trading.specs.Rests.{below, in_series, AtRest}
use Rattle.trading.proofs.Sides.{beyond_from}
use Rattle.trading.proofs.Faces.{Face, In, take_in, take_clear}
use Rattle.trading.proofs.Resting.{Sane, Holding, Others, Rested, insert_sane, insert_others, weaken, take_sane, serve_rested, pull_rested}
use Rattle.trading.proofs.Timings.{DueIn, Timed, take_timed, insert_timed, without_timed, serve_timed}
use Rattle.trading.proofs.Advanced.{highest_top, rest_from, rest_back, advance_rests}
use Rattle.trading.proofs.Each.{every_has, every_from}
use Rattle.trading.proofs.Placing.{pull_placed, advance_placed, enter_placed, enter_now_placed}
use Rattle.trading.proofs.Entered.{display_within}
use Rattle.trading.proofs.Steps.{pull_keeps}

-- what a floor keeps of its rows
abbrev pub Kept : ℕ → ℕ → List Row → Type 0
Kept clock next rs = AtRest clock next rs × (every in_series rs ≡ true)

-- ---- withdrawing

pub pull_timed : (low high : ℕ) (p : Row → Bool) (d : Desk) → Timed low high d.rows → Timed low high (pull p d).rows
pull_timed low high p d = pull_keeps (λ x. Timed low high x.rows) p (λ r x t. without_timed low high r.number x.rows t) d

pub pull_rests : (clock next : ℕ) (rs : List Row) (p : Row → Bool) → AtRest clock next rs → Sound rs → 1 ≤ next → AtRest clock next (pull p (desk rs)).rows
pull_rests clock next rs p rest sound pos =
    let h = rest_from clock next rs rest sound in
    rest_back clock next _ pos (pull_rested (desk rs) p h.0) (pull_timed clock (clock + 1000) p (desk rs) h.1)

-- ---- entering

take_holding : (due : ℕ) (t : Ticket) (reach : ℕ) (rs : List Row) → Holding rs → Holding (take due (taker t reach) t.size rs []).rows
take_holding due t reach rs h f g i j = h f g (take_in due (taker t reach) rs t.size [] f i) (take_in due (taker t reach) rs t.size [] g j)

standing_due : (k due : ℕ) → k < due → due ≤ k + 1000 → (display limit : ℕ) (c o : Option ℕ) → DueIn k (k + 1000) (standing_by due display limit c o)
standing_due k due a b display limit None None = tt
standing_due k due a b display limit (Some c) None = cond_both (eqb display limit) Plain (Held c due) (DueIn k (k + 1000)) (λ e. tt) (λ e. (a, b))
standing_due k due a b display limit c (Some m) = tt

module _ (k : ℕ) (t : Ticket) (p : Pricing) (rs : List Row) (positive : 1 ≤ t.number) (fits : displays_in_reach t p ≡ true) where
  abbrev due : ℕ
  due = second_after k

  abbrev fill : Fill
  fill = take due (taker t (reach_of p)) t.size rs []

  module _ (ok : Rested (t.number - 1) rs) where
    old : (f : Face) → In f fill.rows → In f rs
    old f i = take_in due (taker t (reach_of p)) rs t.size [] f i

    rest_sane : (n : ℕ) → fill.left ≡ n → Sane t.number (rest_rows due t p (last_price fill.trades) fill.rows n) × Others t.series (rest_rows due t p (last_price fill.trades) fill.rows n)
    rest_sane zero e = (weaken t.number (omega arith) (take_sane ok.0 due (taker t (reach_of p)) t.size), λ f g i j n. ok.1 f g (old f i) (old g j))
    rest_sane (suc n) e =
        let display = display_of p (last_price fill.trades) in
        let x = row_for due t p display (suc n) in
        let left : 0 < fill.left = omega arith in
        let within = display_within t p rs fill.trades fits (take_fair due (taker t (reach_of p)) t.size rs) in (
          insert_sane (weaken t.number (omega arith) (take_sane ok.0 due (taker t (reach_of p)) t.size)) x (record {
            absent = λ f i n. let b = ok.0.numbered f (old f i) in omega arith;
            sized = omega arith;
            numbered = (omega arith, omega arith);
            apart = λ g i s o. beyond_from t.side g.display (reach_of p) display within (take_clear due (taker t (reach_of p)) rs t.size [] ok.0.positive left g i (sym s) o);
          }),
          insert_others x fill.rows (take_holding due t (reach_of p) rs ok.1),
        )

    pub enter_rested : Rested t.number (enter due t p (desk rs)).rows
    unfolding enter rest
    enter_rested = let h = rest_sane fill.left refl in serve_rested _ due t.series h.0 h.1

  pub enter_timed : Timed k (k + 1000) rs → Timed k (k + 1000) (enter due t p (desk rs)).rows
  unfolding enter rest
  enter_timed h = serve_timed k (k + 1000) due (omega arith) (omega arith) t.series _ (by fill.left (take_timed k (k + 1000) due (omega arith) (omega arith) (taker t (reach_of p)) rs t.size [] h))
    where
      by : (n : ℕ) → Timed k (k + 1000) fill.rows → Timed k (k + 1000) (rest_rows due t p (last_price fill.trades) fill.rows n)
      by zero g = g
      by (suc n) g = insert_timed k (k + 1000) (row_for due t p (display_of p (last_price fill.trades)) (suc n)) fill.rows (standing_due k due (omega arith) (omega arith) (display_of p (last_price fill.trades)) t.limit (collar_of p) t.maker) g

pub enter_rests : (clock next : ℕ) (t : Ticket) (p : Pricing) (rs : List Row) → t.number ≡ next → AtRest clock next rs → Sound rs → 1 ≤ next → displays_in_reach t p ≡ true → AtRest clock (next + 1) (enter (second_after clock) t p (desk rs)).rows
enter_rests clock next t p rs n rest sound pos fits =
    let h = rest_from clock next rs rest sound in
    let ok : Rested (t.number - 1) rs = subst (λ (x : ℕ). Rested (x - 1) rs) (sym n) h.0 in
    let r = enter_rested clock t p rs (omega arith) fits ok in
    let top : t.number ≡ (next + 1) - 1 = omega arith in
    rest_back clock (next + 1) _ (omega arith) (subst (λ (x : ℕ). Rested x (enter (second_after clock) t p (desk rs)).rows) top r) (enter_timed clock t p rs (omega arith) fits h.1)

pub enter_now_rests : (clock next : ℕ) (t : Ticket) (rs : List Row) → AtRest clock next rs → Sound rs → 1 ≤ next → AtRest clock (next + 1) (enter_now (second_after clock) t (desk rs)).rows
unfolding enter_now
enter_now_rests clock next t rs rest sound pos =
    let h = rest_from clock next rs rest sound in
    let due = second_after clock in
    let sane = take_sane h.0.0 due (taker t t.limit) t.size in
    rest_back clock (next + 1) _ (omega arith)
    (weaken ((next + 1) - 1) (omega arith) sane, take_holding due t t.limit rs h.0.1)
    (take_timed clock (clock + 1000) due (omega arith) (omega arith) (taker t t.limit) rs t.size [] h.1)

-- numbers below the next are below any later one
pub rest_more : (clock next more : ℕ) (rs : List Row) → next ≤ more → AtRest clock next rs → AtRest clock more rs
rest_more clock next more rs le rest = (
  every_from (below more) rs (λ r h.
      let b = and_parts (ltb 0 r.number) (ltb r.number next) (every_has (below next) rs rest.0 r h) in
      let l = ltb-true r.number next b.1 in
      and_from (ltb 0 r.number) (ltb r.number more) b.0 (lt-ltb r.number more (omega arith))),
  rest.1,
  rest.2,
)

-- ---- on a floor

module _ (f : Floor) where
  -- the next number is above all
  pub floor_numbers : highest (rows_on f) < f.next
  floor_numbers =
      let begun = f.begun in
      let below : highest (rows_on f) < suc (f.next - 1) = highest_top (rows_on f) (rest_from f.clock f.next (rows_on f) f.rest f.book.resting.sound).0.0 in
      omega arith

  pub withdraw_keeps : (p : Row → Bool) {after : List Row} → after ≡ (pull p (desk (rows_on f))).rows → Kept f.clock f.next after
  withdraw_keeps p e = rw e (pull_rests f.clock f.next (rows_on f) p f.rest f.book.resting.sound f.begun, pull_placed p (rows_on f) f.listed)

  pub advance_keeps : (k : ℕ) {after : List Row} → f.clock ≤ k → k ≤ f.clock + 1000 → after ≡ (advance k (desk (rows_on f))).rows → Kept k f.next after
  advance_keeps k le soon e = rw e (advance_rests f.clock k f.next (rows_on f) f.rest f.book.resting.sound f.begun le soon, advance_placed k (rows_on f) f.listed)

  pub enter_keeps : (t : Ticket) (p : Pricing) {after : List Row} → t.number ≡ f.next → displays_in_reach t p ≡ true → t.series < 64 → after ≡ (enter (second_after f.clock) t p (desk (rows_on f))).rows → Kept f.clock (f.next + 1) after
  enter_keeps t p n fits series e = rw e (enter_rests f.clock f.next t p (rows_on f) n f.rest f.book.resting.sound f.begun fits, enter_placed (second_after f.clock) t p (rows_on f) series f.listed)

  pub enter_now_keeps : (t : Ticket) {after : List Row} → after ≡ (enter_now (second_after f.clock) t (desk (rows_on f))).rows → Kept f.clock (f.next + 1) after
  enter_now_keeps t e = rw e (enter_now_rests f.clock f.next t (rows_on f) f.rest f.book.resting.sound f.begun, enter_now_placed (second_after f.clock) t (rows_on f) f.listed)
