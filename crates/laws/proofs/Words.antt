-- What the words of a journal say as it grows.
use Rattle.std.proofs.Common.{◌≡◌, ℕ, Bool, true, false, cond, eqb, List, [], ◌∷◌, ◌++◌, Some, None, Option, sym, refl, arith}
use Rattle.std.proofs.lemmas.Bool.{eq-eqb, ne_eqb, or_parts}
use Rattle.book.specs.Lists.{or_else}
use Rattle.book.specs.declared.row.Trade.{Trade}
use Rattle.trading.specs.Journals.{Event, Shown, Moved, Traded, Withdrawn, noting}
use Rattle.trading.proofs.Sides.{clash}
use Rattle.laws.specs.Displays.{display_of, traded_of, withdrawn_of, is_named}

pub or_else_true : {A : Type 0} (b : Bool) (a : A) (o : Option A) → b ≡ true → or_else b a o ≡ Some a
or_else_true true a o e = refl
or_else_true false a o e = absurd (clash false e refl)

pub or_else_false : {A : Type 0} (b : Bool) (a : A) (o : Option A) → b ≡ false → or_else b a o ≡ o
or_else_false true a o e = absurd (clash true refl e)
or_else_false false a o e = refl

pub shown_self : (n p : ℕ) (j : List Event) → display_of n (Shown n p ∷ j) ≡ Some p
unfolding display_of
shown_self n p j = or_else_true (eqb n n) p (display_of n j) (eq-eqb n n refl)

pub shown_other : (n i p : ℕ) (j : List Event) → (n ≡ i → ⊥) → display_of n (Shown i p ∷ j) ≡ display_of n j
unfolding display_of
shown_other n i p j h = or_else_false (eqb i n) p (display_of n j) (ne_eqb i n (λ e. h (sym e)))

pub moved_self : (n p : ℕ) (j : List Event) → display_of n (Moved n p ∷ j) ≡ Some p
unfolding display_of
moved_self n p j = or_else_true (eqb n n) p (display_of n j) (eq-eqb n n refl)

pub moved_other : (n i p : ℕ) (j : List Event) → (n ≡ i → ⊥) → display_of n (Moved i p ∷ j) ≡ display_of n j
unfolding display_of
moved_other n i p j h = or_else_false (eqb i n) p (display_of n j) (ne_eqb i n (λ e. h (sym e)))

-- trades move no display price and withdraw nothing
module _ (older : List Event) where
  pub noted_shown : (ts : List Trade) (j : List Event) (n : ℕ) → display_of n (noting ts j ++ older) ≡ display_of n (j ++ older)
  unfolding display_of
  noted_shown [] j n = refl
  noted_shown (t ∷ ts) j n = noted_shown ts j n

  pub noted_named : (ts : List Trade) (j : List Event) (n : ℕ) → is_named n (noting ts j ++ older) ≡ is_named n (j ++ older)
  unfolding is_named
  noted_named [] j n = refl
  noted_named (t ∷ ts) j n = noted_named ts j n

  pub noted_withdrawn : (ts : List Trade) (j : List Event) (n : ℕ) → withdrawn_of n (noting ts j ++ older) ≡ withdrawn_of n (j ++ older)
  unfolding withdrawn_of
  noted_withdrawn [] j n = refl
  noted_withdrawn (t ∷ ts) j n = noted_withdrawn ts j n

-- of what no withdrawal names nothing was withdrawn
pub unnamed_withdrawn : (n : ℕ) (j : List Event) → is_named n j ≡ false → withdrawn_of n j ≡ 0
unfolding is_named withdrawn_of
unnamed_withdrawn n [] e = refl
unnamed_withdrawn n (Shown i p ∷ j) e = unnamed_withdrawn n j e
unnamed_withdrawn n (Moved i p ∷ j) e = unnamed_withdrawn n j e
unnamed_withdrawn n (Traded t ∷ j) e = unnamed_withdrawn n j e
unnamed_withdrawn n (Withdrawn w ∷ j) e =
    let x = or_parts (eqb w.number n) (is_named n j) e in
    let z : cond (eqb w.number n) w.left 0 ≡ 0 = rw x.0 in
    omega (arith, unnamed_withdrawn n j x.1)

-- nothing is known of the number n
pub record Unheard (n : ℕ) (j : List Event) : Type 0 where
  pub hidden : display_of n j ≡ None
  pub unnamed : is_named n j ≡ false
  pub untraded : traded_of n j ≡ 0
