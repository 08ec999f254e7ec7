-- That the balance of an order displays within its reach.
use Rattle.std.proofs.Common.{◌≡◌, ℕ, ◌+◌, ◌-◌, ◌<◌, min, max, Bool, true, false, not, ◌&&◌, ltb, List, Some, None, Option, refl, subst, arith}
use Rattle.std.proofs.lemmas.Bool.{leb-true, le-leb, ltb-true, ltb-false, cond_both}
use Rattle.values.specs.declared.nbbo.Nbbo.{Nbbo}
use Rattle.values.specs.declared.side.Side.{Side}
use Rattle.values.specs.declared.side.Side.TheVariants.{Buy, Sell}
use Rattle.values.specs.Sides.{no_more_aggressive, ahead, onward}
use Rattle.values.specs.Nbbos.{own, contra}
use Rattle.collars.specs.declared.pricing.Pricing.{Pricing}
use Rattle.collars.specs.declared.pricing.Pricing.TheVariants.{AtLimit, Wide, Narrow}
use Rattle.collars.specs.Collars.{width_by}
use Rattle.collars.specs.Pricings.{marketable, spread, collared, pricing_by, pricing, reach_of, display_of}
use Rattle.book.specs.declared.row.Row.{Row}
use Rattle.book.specs.Lists.{every}
use Rattle.book.specs.Rows.{stands_at}
use Rattle.trading.specs.Doing.{is_quote_of}
use Rattle.trading.proofs.Each.{every_from}
use Rattle.market.specs.Tests.{crossed}
use Rattle.market.specs.Calls.{priced_at, priced}

-- ---- the display price of what makes no trade is within the reach

in_itself : (s : Side) (p : ℕ) → no_more_aggressive s p p ≡ true
in_itself Buy p = le-leb p p (omega arith)
in_itself Sell p = le-leb p p (omega arith)

wide_in : (s : Side) (x y c limit : ℕ) → c < spread s x y → no_more_aggressive s y limit ≡ true → no_more_aggressive s (ahead s x c) (onward s (ahead s x c) c limit) ≡ true
wide_in Buy x y c limit h n = let l = leb-true y limit n in le-leb (x + c) (min (x + c + c) limit) (omega arith)
wide_in Sell x y c limit h n = let l = leb-true limit y n in le-leb (max (x - c - c) limit) (x - c) (omega arith)

narrow_in : (s : Side) (x y c limit : ℕ) → no_more_aggressive s x y ≡ true → no_more_aggressive s y limit ≡ true → no_more_aggressive s x (onward s y c limit) ≡ true
narrow_in Buy x y c limit h n = let k = leb-true x y h in let l = leb-true y limit n in le-leb x (min (y + c) limit) (omega arith)
narrow_in Sell x y c limit h n = let k = leb-true y x h in let l = leb-true limit y n in le-leb (max (y - c) limit) x (omega arith)

uncrossed : (b : Nbbo) (s : Side) (x y : ℕ) → crossed b.bid b.offer ≡ false → own s b ≡ Some x → contra s b ≡ Some y → no_more_aggressive s x y ≡ true
uncrossed b Buy x y ok e g = let c : crossed (Some x) (Some y) ≡ false = subst (λ (o : Option ℕ). crossed o (Some y) ≡ false) e (subst (λ (o : Option ℕ). crossed b.bid o ≡ false) g ok) in le-leb x y (ltb-false y x c)
uncrossed b Sell x y ok e g = let c : crossed (Some y) (Some x) ≡ false = subst (λ (o : Option ℕ). crossed o (Some x) ≡ false) g (subst (λ (o : Option ℕ). crossed b.bid o ≡ false) e ok) in le-leb y x (ltb-false x y c)

abbrev InReach : Side → Pricing → Type 0
InReach s p = no_more_aggressive s (display_of p None) (reach_of p) ≡ true

pricing_in : (s : Side) (limit : ℕ) (b : Nbbo) (c : ℕ) → crossed b.bid b.offer ≡ false → InReach s (pricing s limit b c)
pricing_in s limit b c ok = by (own s b) (contra s b) refl refl
  where
    by : (x y : Option ℕ) → own s b ≡ x → contra s b ≡ y → InReach s (pricing_by s limit c x y)
    by None y e g = in_itself s limit
    by (Some x) None e g = in_itself s limit
    by (Some x) (Some y) e g =
        cond_both (marketable s limit y) (collared s limit x y c) (AtLimit limit) (InReach s)
        (λ h. cond_both (ltb c (spread s x y)) (Wide (ahead s x c) (onward s (ahead s x c) c limit) c) (Narrow x (onward s y c limit) c) (InReach s)
        (λ l. wide_in s x y c limit (ltb-true c (spread s x y) l) h)
        (λ l. narrow_in s x y c limit (uncrossed b s x y ok e g) h))
        (λ h. in_itself s limit)

pub priced_in : (w : Option ℕ) (s : Side) (limit : ℕ) (b : Nbbo) → crossed b.bid b.offer ≡ false → InReach s (priced w s limit b)
priced_in w s limit b ok = by b.bid
  where
    by : (o : Option ℕ) → InReach s (priced_at w s limit b o)
    by None = in_itself s limit
    by (Some bid) = pricing_in s limit b (width_by w bid) ok

-- an order has no rivals
pub order_rivals : (s : ℕ) (side : Side) (rs : List Row) → every (λ r. not (stands_at s side r && is_quote_of None r.standing)) rs ≡ true
order_rivals s side rs = every_from (λ r. not (stands_at s side r && is_quote_of None r.standing)) rs (λ r h. by (stands_at s side r))
  where
    by : (b : Bool) → not (b && false) ≡ true
    by true = refl
    by false = refl
