-- The law of screens.
use Rattle.std.specs.Prelude.{◌≡◌, ℕ, true}
use Rattle.values.specs.declared.side.Side.{Side}
use Rattle.values.specs.Sides.{NoMoreAggressive}
use Rattle.screens.specs.declared.view.View.{View}
use Rattle.screens.specs.Views.{Verdict, refuses}

-- what a screen answers for every view, side and price
abbrev pub Meaning : Type 0
Meaning = View → Side → ℕ → Verdict

-- where p is refused, every more aggressive price is refused in that view
abbrev pub Lawful : Meaning → Type 0
Lawful m = (v : View) (s : Side) (p q : ℕ) → NoMoreAggressive s p q → refuses (m v s p) ≡ true → refuses (m v s q) ≡ true
