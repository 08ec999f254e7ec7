-- How an order is priced agrees with its collar, and what a lawful screen passes.
use Rattle.std.proofs.Common.{◌≡◌, ℕ, ◌<◌, ◌≤◌, Bool, true, false, cond, ltb, Some, None, Ok, Err, Option, sym, refl, ap, ◌∙◌, arith}
use Rattle.std.proofs.lemmas.Bool.{ltb-true, ltb-false, le-leb, or_parts}
use Rattle.values.specs.declared.nbbo.Nbbo.{Nbbo}
use Rattle.values.specs.declared.order.OrderPrice.{OrderPrice}
use Rattle.values.specs.declared.order.OrderPrice.TheVariants.{Market, Limit}
use Rattle.values.specs.declared.side.Side.{Side}
use Rattle.values.specs.declared.side.Side.TheVariants.{Buy, Sell}
use Rattle.values.specs.Orders.{limit_of}
use Rattle.values.specs.Sides.{NoMoreAggressive, ahead, onward}
use Rattle.screens.specs.declared.view.View.{View}
use Rattle.screens.specs.Screens.{Meaning, Lawful}
use Rattle.screens.specs.Views.{Verdict, passes, refuses}
use Rattle.collars.specs.declared.pricing.Pricing.TheVariants.{AtLimit, Wide, Narrow}
use Rattle.collars.specs.Collars.{width_by}
use Rattle.collars.specs.Pricings.{marketable, spread, collared}
use Rattle.market.specs.Tests.{bad_price, bad_side, crossed}
use Rattle.market.specs.Calls.{priced_at, priced}
use Rattle.trading.proofs.Sides.{clash, no_more_true, onward_on}
use Rattle.laws.specs.Collars.{is_marketable, collar_by}
use Rattle.laws.specs.Moves.{gap}
use Rattle.laws.proofs.Enters.{PricedAs}

-- a price within a passed one passes
pub passes_less : (f : Meaning) → Lawful f → (v : View) (s : Side) (p q : ℕ) → NoMoreAggressive s p q → f v s q ≡ passes → f v s p ≡ passes
passes_less f law v s p q n h = by (f v s p) refl
  where
    by : (x : Verdict) → f v s p ≡ x → x ≡ passes
    by (Ok pass) e = refl
    by (Err c) e = absurd (clash (refuses (f v s q)) (law v s p q n (ap refuses e)) (ap refuses h))

-- an NBBO as N sets it
pub record Orderly (b : Nbbo) : Type 0 where
  pub bid : bad_side b.bid ≡ false
  pub offer : bad_side b.offer ≡ false
  pub order : crossed b.bid b.offer ≡ false

in_range : (p : ℕ) → bad_price p ≡ false → (1 ≤ p) × (p ≤ 10000000)
in_range p h = let s = or_parts (ltb p 1) (ltb 10000000 p) h in (ltb-false p 1 s.0, ltb-false 10000000 p s.1)

-- a market order's limit is at or through every contra side
marketable_same : (s : Side) (price : OrderPrice) (c : ℕ) → bad_price c ≡ false → is_marketable s price c ≡ marketable s (limit_of s price) c
marketable_same Buy Market c h = sym (le-leb c 10000000 (in_range c h).1)
marketable_same Sell Market c h = sym (le-leb 1 c (in_range c h).0)
marketable_same Buy (Limit p) c h = refl
marketable_same Sell (Limit p) c h = refl

wide_in : (s : Side) (x y c l : ℕ) → c < spread s x y → NoMoreAggressive s y l → NoMoreAggressive s (ahead s x c) l
wide_in Buy x y c l h n = omega arith
wide_in Sell x y c l h n = omega arith

narrow_in : (s : Side) (x y c l : ℕ) → NoMoreAggressive s x y → NoMoreAggressive s y l → NoMoreAggressive s x (onward s y c l)
narrow_in Buy x y c l h n = omega arith
narrow_in Sell x y c l h n = omega arith

gap_spread : (s : Side) (x y : ℕ) → NoMoreAggressive s x y → gap x y ≡ spread s x y
gap_spread Buy x y h = omega arith
gap_spread Sell x y h = omega arith

-- by the price of its own side and of the contra side
both_sides : (s : Side) (limit x y c : ℕ) (m : Bool) → m ≡ marketable s limit y → NoMoreAggressive s x y → PricedAs (cond (marketable s limit y) (collared s limit x y c) (AtLimit limit)) s limit (cond m (Some (record { side = s; limit = limit; width = c; own = x; contra = y })) None)
both_sides s limit x y c m same apart = rw same (by (marketable s limit y) refl)
  where
    same_gap : ltb c (gap x y) ≡ ltb c (spread s x y)
    same_gap = ap (ltb c) (gap_spread s x y apart)

    wide : (b : Bool) → ltb c (spread s x y) ≡ b → NoMoreAggressive s y limit → PricedAs (cond b (Wide (ahead s x c) (onward s (ahead s x c) c limit) c) (Narrow x (onward s y c limit) c)) s limit (Some (record { side = s; limit = limit; width = c; own = x; contra = y }))
    wide true e n = ((x, y), refl, refl, onward_on s (ahead s x c) c limit (wide_in s x y c limit (ltb-true c (spread s x y) e) n), refl, same_gap ∙ e)
    wide false e n = ((x, y), refl, refl, narrow_in s x y c limit apart n, refl, same_gap ∙ e)

    by : (b : Bool) → marketable s limit y ≡ b → PricedAs (cond b (collared s limit x y c) (AtLimit limit)) s limit (cond b (Some (record { side = s; limit = limit; width = c; own = x; contra = y })) None)
    by true e = wide (ltb c (spread s x y)) refl (no_more_true s y limit e)
    by false e = (refl, refl)

-- the pricing of a day order, by the NBBO and the width of its series
pub pricing_as : (w : Option ℕ) (s : Side) (price : OrderPrice) (b : Nbbo) → Orderly b → PricedAs (priced w s (limit_of s price) b) s (limit_of s price) (collar_by s price w b.bid b.offer)
pricing_as w s price b ok = by s b.bid b.offer ok.bid ok.offer ok.order
  where
    by : (s : Side) (x y : Option ℕ) → bad_side x ≡ false → bad_side y ≡ false → crossed x y ≡ false → PricedAs (priced_at w s (limit_of s price) (record { bid = x; offer = y }) x) s (limit_of s price) (collar_by s price w x y)
    by s None y g h o = (refl, refl)
    by Buy (Some x) None g h o = (refl, refl)
    by Sell (Some x) None g h o = (refl, refl)
    by Buy (Some x) (Some y) g h o = both_sides Buy (limit_of Buy price) x y (width_by w x) (is_marketable Buy price y) (marketable_same Buy price y h) (ltb-false y x o)
    by Sell (Some x) (Some y) g h o = both_sides Sell (limit_of Sell price) y x (width_by w x) (is_marketable Sell price x) (marketable_same Sell price x g) (ltb-false y x o)
