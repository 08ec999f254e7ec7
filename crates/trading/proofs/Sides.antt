-- Arithmetic of the two sides.
use Rattle.std.proofs.Common.{◌≡◌, ℕ, ◌<◌, Bool, true, false, refl, arith}
use Rattle.std.proofs.lemmas.Bool.{leb-true, leb-false}
use Rattle.values.specs.declared.side.Side.{Side}
use Rattle.values.specs.declared.side.Side.TheVariants.{Buy, Sell}
use Rattle.values.specs.Sides.{opposite, NoMoreAggressive, no_more_aggressive, onward}
use Rattle.book.specs.Rows.{same_side}

-- p is more aggressive than q
abbrev pub Beyond : Side → ℕ → ℕ → Type 0
Beyond Buy p q = q < p
Beyond Sell p q = p < q

-- nothing is both
pub clash : (b : Bool) → b ≡ true → b ≡ false → ⊥
clash b p q = cc

pub decide : {P : Type 0} (b : Bool) → (b ≡ true → P) → (b ≡ false → P) → P
decide true f g = f refl
decide false f g = g refl

pub no_more_refl : (s : Side) (p : ℕ) → NoMoreAggressive s p p
no_more_refl Buy p = omega arith
no_more_refl Sell p = omega arith

pub no_more_trans : (s : Side) (p q r : ℕ) → NoMoreAggressive s p q → NoMoreAggressive s q r → NoMoreAggressive s p r
no_more_trans Buy p q r h k = omega arith
no_more_trans Sell p q r h k = omega arith

pub beyond_from : (s : Side) (p q r : ℕ) → NoMoreAggressive s r q → Beyond s p q → Beyond s p r
beyond_from Buy p q r h k = omega arith
beyond_from Sell p q r h k = omega arith

pub no_more_true : (s : Side) (p q : ℕ) → no_more_aggressive s p q ≡ true → NoMoreAggressive s p q
no_more_true Buy p q e = leb-true p q e
no_more_true Sell p q e = leb-true q p e

pub no_more_false : (s : Side) (p q : ℕ) → no_more_aggressive s p q ≡ false → Beyond s p q
no_more_false Buy p q e = leb-false p q e
no_more_false Sell p q e = leb-false q p e

pub not_no_more : (s : Side) (p q : ℕ) → Beyond s p q → no_more_aggressive s p q ≡ true → ⊥
not_no_more Buy p q h e = let k = leb-true p q e in omega arith
not_no_more Sell p q h e = let k = leb-true q p e in omega arith

-- onward stays within the limit, and does not go back from where it began
pub onward_limit : (s : Side) (p c l : ℕ) → NoMoreAggressive s (onward s p c l) l
onward_limit Buy p c l = omega arith
onward_limit Sell p c l = omega arith

pub onward_on : (s : Side) (p c l : ℕ) → NoMoreAggressive s p l → NoMoreAggressive s p (onward s p c l)
onward_on Buy p c l h = omega arith
onward_on Sell p c l h = omega arith

pub same_side_lem : (s t : Side) → same_side s t ≡ true → s ≡ t
same_side_lem Buy Buy e = refl
same_side_lem Buy Sell e = cc
same_side_lem Sell Buy e = cc
same_side_lem Sell Sell e = refl

pub same_self : (s : Side) → same_side s s ≡ true
same_self Buy = refl
same_self Sell = refl

pub not_opposite : (s : Side) → s ≡ opposite s → ⊥
not_opposite Buy e = cc
not_opposite Sell e = cc

pub opposite_back : (s t : Side) → s ≡ opposite t → t ≡ opposite s
opposite_back Buy Buy e = cc
opposite_back Buy Sell e = refl
opposite_back Sell Buy e = refl
opposite_back Sell Sell e = cc

pub beyond_back : (s t : Side) (p q : ℕ) → t ≡ opposite s → Beyond s p q → Beyond t q p
beyond_back Buy Buy p q e h = cc
beyond_back Buy Sell p q e h = omega arith
beyond_back Sell Buy p q e h = omega arith
beyond_back Sell Sell p q e h = cc
