-- Piles: the second screen is asked only where the first passes.
use Rattle.std.specs.Prelude.{◌≡◌, ◌||◌, Ok, Err, refl}
use Rattle.screens.specs.Views.{Verdict, refuses}
use Rattle.screens.specs.declared.view.Extent.{Extent}

-- the pile's verdict, by those of its two screens
abbrev pub piled : Verdict → Verdict → Verdict
piled (Ok pass) second = second
piled (Err c) second = Err c

-- a refusal reaches as far as the screen says that refused
abbrev pub piled_extent : Verdict → Extent → Extent → Extent
piled_extent (Ok pass) first second = second
piled_extent (Err c) first second = first

-- a pile refuses where one of its two screens does
pub refuses_piled : (first second : Verdict) → refuses (piled first second) ≡ (refuses first || refuses second)
refuses_piled (Ok pass) second = refl
refuses_piled (Err c) second = refl
