-- Which makers are shut out of which classes.
use Rattle.std.specs.Prelude.{ℕ, Bool, true, false, cond, ◌&&◌, [], ◌∷◌, Ok, Err, ◌==◌}
use Rattle.values.specs.declared.call.Call.{Call}
use Rattle.values.specs.declared.call.Call.TheVariants as call
use Rattle.values.specs.declared.reference.Reference.{Reference}
use Rattle.values.specs.declared.refusal.Refusal.{Refusal}
use Rattle.values.specs.declared.refusal.Refusal.TheVariants.{Screen}
use Rattle.screens.specs.declared.view.Extent.{Extent}
use Rattle.screens.specs.declared.view.Extent.TheVariants.{OneSide, WholeClass}
use Rattle.market.specs.States.{Making, Answer, class_of}
use Rattle.laws.specs.Histories.{History}
use Rattle.laws.specs.Admissions.{is_taken}
use Rattle.laws.specs.Views.{view_of}

-- a screen refused it
abbrev pub by_screen : Refusal → Bool
by_screen (Screen c) = true
by_screen other = false

abbrev pub is_screened : Answer → Bool
is_screened (Ok n) = false
is_screened (Err r) = by_screen r

abbrev pub reaches_class : Extent → Bool
reaches_class OneSide = false
reaches_class WholeClass = true

module _ (m : Making) (refs : ℕ → Reference) where
  abbrev pub shut_after : ℕ → ℕ → Call → Answer → History → Bool → Bool
  shut_after k c (call.Quote q) a h x = cond (is_screened a && (reaches_class (m.extent (view_of m refs q.series h) q.side q.price) && (k == q.maker && c == class_of m q.series))) true x
  shut_after k c (call.Enable i d) a h x = cond (is_taken a && (k == i && c == d)) false x
  shut_after k c other a h x = x

  -- the maker k is shut out of the class c: a screen's refusal of a quote of k that reached the class came after the last E taken for
  -- the two
  unfoldable pub shut_out : ℕ → ℕ → History → Bool
  shut_out k c [] = false
  shut_out k c (e ∷ h) = shut_after k c e.call e.answer h (shut_out k c h)
